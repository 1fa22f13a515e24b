-- What the rows of the matches say of an option.
use Rattle.std.proofs.Common.{◌≡◌, ◌∙◌, Bool, true, false, cond, List, [], Option, Some, None, refl, sym, ap, codes}
use Rattle.std.specs.Str.{bytes_eq}
use Rattle.clap.specs.Words.{Row, Text, first_of, first_value, rows_of}
use Rattle.clap.specs.declared.parser.matches.Found.{Found}
use Rattle.clap.proofs.WalkLemmas.{first_value-rows}
use Rattle.pq_command.specs.declared.fault.Switch.{Switch}
use Rattle.pq_command.specs.declared.fault.Switch.TheVariants.{Omega, Workers, DropBarriers, Seed, Qubits, Gates}
use Rattle.pq_command.specs.CommandLine.{name_of}
use Rattle.pq_command.specs.Asked.{given, is_flag}

-- the getter's answer, by the rows
pub first_is : (f : Found) (id : Text) (o : Option Text) → o ≡ first_value f id → first_of id (rows_of f) ≡ o
first_is f id o is = sym (is ∙ first_value-rows f id)

pub first_at : (f : Found) (switch : Switch) (name : Text) (o : Option Text) → name ≡ name_of switch → o ≡ first_value f name → first_of (name_of switch) (rows_of f) ≡ o
first_at f switch name o named is = ap (λ n. first_of n (rows_of f)) (sym named) ∙ first_is f name o is

not_flag : (switch : Switch) → (switch ≡ DropBarriers → ⊥) → is_flag switch ≡ false
not_flag Omega h = refl
not_flag Workers h = refl
not_flag DropBarriers h = absurd (h refl)
not_flag Seed h = refl
not_flag Qubits h = refl
not_flag Gates h = refl

pub none_given : (rows : List Row) (switch : Switch) → first_of (name_of switch) rows ≡ None → None ≡ given rows switch
none_given rows switch h = rw h (go (is_flag switch))
  where
    go : (b : Bool) → ◌≡◌ {A = Option Text} None (cond b None None)
    go true = refl
    go false = refl

pub flag_given : (rows : List Row) (switch : Switch) (text : Text) (b : Bool) → switch ≡ DropBarriers → first_of (name_of switch) rows ≡ Some text → b ≡ bytes_eq text (codes "true")
    → cond b (Some []) None ≡ given rows switch
flag_given rows switch text b flag h is =
    let e : is_flag switch ≡ true = ap is_flag flag in
    rw (h, e, is) refl

pub text_given : (rows : List Row) (switch : Switch) (text : Text) → (switch ≡ DropBarriers → ⊥) → first_of (name_of switch) rows ≡ Some text → Some text ≡ given rows switch
text_given rows switch text other h =
    let e : is_flag switch ≡ false = not_flag switch other in
    rw (e, h) refl
