use Rattle.std.proofs.Common.{◌≡◌, ℕ, cond, eqb, ⊎_elim, ap, sym, ◌∙◌}
use Rattle.pq_gate.specs.declared.gate.Eighths.TheVariants.{T, S, Z, Sdg, Tdg}
use Rattle.pq_gate.specs.declared.gate.Sum.{Sum}
use Rattle.pq_gate.specs.declared.gate.Sum.TheVariants.{Nothing, One, Two}
use Rattle.pq_gate.specs.Phases.{TurnsBy}

-- the sum that turns by k eighths
abbrev sum_for : ℕ → Sum
sum_for k =
    cond (eqb k 0) Nothing (cond (eqb k 1) (One T) (cond (eqb k 2) (One S)
    (cond (eqb k 4) (One Z) (cond (eqb k 6) (One Sdg) (cond (eqb k 7) (One Tdg) Two)))))

TurnsBy-sum_for : (s : Sum) (k : ℕ) → TurnsBy s k → s ≡ sum_for k
TurnsBy-sum_for Nothing k is = ap sum_for (sym is)
TurnsBy-sum_for (One T) k is = ap sum_for (sym is)
TurnsBy-sum_for (One S) k is = ap sum_for (sym is)
TurnsBy-sum_for (One Z) k is = ap sum_for (sym is)
TurnsBy-sum_for (One Sdg) k is = ap sum_for (sym is)
TurnsBy-sum_for (One Tdg) k is = ap sum_for (sym is)
TurnsBy-sum_for Two k is = ⊎_elim (λ (three : k ≡ 3). ap sum_for (sym three)) (λ (five : k ≡ 5). ap sum_for (sym five)) is

-- a number of eighths has one sum
pub TurnsBy-unique : (k : ℕ) (s t : Sum) → TurnsBy s k → TurnsBy t k → s ≡ t
TurnsBy-unique k s t left right = TurnsBy-sum_for s k left ∙ sym (TurnsBy-sum_for t k right)
