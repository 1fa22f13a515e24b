use Rattle.std.specs.Prelude.{ℕ, List}

-- a list, and how many items there was room for when it was made
pub record Roomed (A : Type 0) : Type 0 where
  pub items : List A
  pub room : ℕ
