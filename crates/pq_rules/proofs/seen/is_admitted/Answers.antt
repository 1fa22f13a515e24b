use Rattle.std.proofs.Common.{◌≡◌, ℕ, zero, suc, false, ◌==◌, ◌-◌, ◌<◌, List, length, length-drop, take, drop, subst, ◌∙◌, arith}
use Rattle.std.proofs.lemmas.List.{take_all}
use Rattle.pq_gate.specs.declared.gate.Gate.{Gate}
use Rattle.pq_gate.specs.declared.gate.Gate.TheVariants.{H}
use Rattle.pq_rules.specs.Seen.{AreFirstTwo}
use Rattle.pq_rules.proofs.SeenLaws.{pattern_by_two}
use Rattle.pq_rules.proofs.seen.is_admitted.Goals as goal

some_by_test : (n : ℕ) → false ≡ (n == 0) → 0 < n
some_by_test zero test = absurd (cc)
some_by_test (suc n) test = omega arith

pub returns : goal.returns
returns c =
    let pattern = c.args.pattern.now in
    let some : 0 < length pattern = some_by_test (length pattern) c.if-is_empty.ensures in
    let rest : take (length pattern - 1) (drop 1 pattern) ≡ drop 1 pattern = take_all (length pattern - 1) (drop 1 pattern) (omega (arith, length-drop 1 pattern)) in
    let two = subst (λ (w : ℕ). AreFirstTwo w (drop 1 pattern) c.first_two-next.result.0 c.first_two-next.result.1) c.last_wire.ensures
    (subst (λ (gates : List Gate). AreFirstTwo c.last_wire.result gates c.first_two-next.result.0 c.first_two-next.result.1) rest c.first_two-next.ensures) in
    c.may_follow.ensures ∙ pattern_by_two pattern (H 0) _ _ _ c.args.near c.args.far some c.role_behind.ensures two
