-- What is seen on a wire is told by its number, and a role there by the gate's kind.
use Rattle.std.proofs.Common.{◌≡◌, ℕ, zero, suc, ◌<◌, refl, ap, ◌∙◌, arith}
use Rattle.pq_gate.specs.declared.gate.Eighths.TheVariants.{T, S, Z, Sdg, Tdg}
use Rattle.pq_gate.specs.declared.gate.Gate.{Gate}
use Rattle.pq_gate.specs.declared.role.Role.{Role}
use Rattle.pq_gate.specs.declared.role.Role.TheVariants as role
use Rattle.pq_gate.specs.declared.role.TheConstants.{ROLES}
use Rattle.pq_gate.specs.Role.{role_number}
use Rattle.pq_rules.specs.declared.seen.Seen.{Seen}
use Rattle.pq_rules.specs.declared.seen.Seen.TheVariants as seen
use Rattle.pq_rules.specs.declared.seen.TheConstants.{SEEN}
use Rattle.pq_rules.specs.Seen.{role_on, seen_number}
use Rattle.pq_rules.specs.Sights.{seen_at}

-- a role has the place of its number
role_seen_at : (r : Role) → seen_at (role_number r) ≡ seen.Plays r
role_seen_at role.H = refl
role_seen_at role.X = refl
role_seen_at role.Control = refl
role_seen_at role.Target = refl
role_seen_at (role.Phase T) = refl
role_seen_at (role.Phase S) = refl
role_seen_at (role.Phase Z) = refl
role_seen_at (role.Phase Sdg) = refl
role_seen_at (role.Phase Tdg) = refl

pub role_seen : (number wire : ℕ) (gate : Gate) → number ≡ role_number (role_on wire gate) → seen_at number ≡ seen.Plays (role_on wire gate)
role_seen number wire gate is = ap seen_at is ∙ role_seen_at (role_on wire gate)

pub role_fits : (number : ℕ) → number < ROLES → number < SEEN
role_fits number below = omega arith

-- what has the number has that number
pub number_seen : (number : ℕ) → number < SEEN → number ≡ seen_number (seen_at number)
number_seen zero below = refl
number_seen (suc zero) below = refl
number_seen (suc (suc zero)) below = refl
number_seen (suc (suc (suc zero))) below = refl
number_seen (suc (suc (suc (suc zero)))) below = refl
number_seen (suc (suc (suc (suc (suc zero))))) below = refl
number_seen (suc (suc (suc (suc (suc (suc zero)))))) below = refl
number_seen (suc (suc (suc (suc (suc (suc (suc zero))))))) below = refl
number_seen (suc (suc (suc (suc (suc (suc (suc (suc zero)))))))) below = refl
number_seen (suc (suc (suc (suc (suc (suc (suc (suc (suc zero))))))))) below = refl
number_seen (suc (suc (suc (suc (suc (suc (suc (suc (suc (suc zero)))))))))) below = refl
number_seen (suc (suc (suc (suc (suc (suc (suc (suc (suc (suc (suc n))))))))))) below = absurd (omega arith)

pub seen_of_number : (s : Seen) → seen_at (seen_number s) ≡ s
seen_of_number seen.Nothing = refl
seen_of_number seen.Unclear = refl
seen_of_number (seen.Plays own) = role_seen_at own
