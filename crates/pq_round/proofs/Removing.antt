-- As many places are given up as gates are removed.
use Rattle.std.proofs.Common.{arith, ◌≡◌, ℕ, suc, ◌-◌, ◌<◌, Bool, true, false, cond, Option, Some, None, List, [], ◌∷◌, drop, length, get_or, refl, sym, ap, ◌∙◌, subst}
use Rattle.std.specs.Prelude.{All, IsSome}
use Rattle.std.specs.List.{cons_option, sum_by}
use Rattle.std.proofs.lemmas.List.{length-drop}
use Rattle.std.proofs.lemmas.List.Concat.{length-flat_map}
use Rattle.std.proofs.lemmas.List.Sums.{sum_by-cons}
use Rattle.pq_gate.specs.declared.gate.Gate.{Gate}
use Rattle.pq_rules.specs.Row.{RowView}
use Rattle.pq_oracle.specs.Outcomes.{WorkedView}
use Rattle.pq_oracle.proofs.Answering.{unchanged}
use Rattle.pq_array.specs.Cells.{IsLive}
use Rattle.pq_board.proofs.Whole.{weigh_ones}
use Rattle.pq_round.specs.Results.{gates_at, IsResultOf, AreResults, given_up, all_given_up, AreSameNumbers, removed_gates}

-- at live places there is a gate each
gates_there : (cells : List (Option Gate)) (places : List ℕ) → All (IsLive cells) places → length (gates_at cells places) ≡ length places
gates_there cells [] live = refl
gates_there cells (p ∷ ps) live = by (get_or cells p None) (live 0 p (omega arith)) (gates_there cells ps (λ k d lt. live (suc k) d (omega (arith, lt))))
  where
    by : (o : Option Gate) → IsSome o → length (gates_at cells ps) ≡ length ps → length (cons_option o (gates_at cells ps)) ≡ suc (length ps)
    by None some same = absurd (cc)
    by (Some g) some same = omega (arith, same)

-- a segment gives up a place for each gate that it lost
given_count : (cells : List (Option Gate)) (places : List ℕ) (rules : List RowView) (ticket : ℕ) (w : WorkedView) → All (IsLive cells) places → IsResultOf cells places rules ticket w
    → length (cond w.answer.improved (drop (length w.answer.gates) places) []) ≡ length w.input - length w.answer.gates
given_count cells places rules ticket w live is = by w.answer.improved refl
  where
    input : length w.input ≡ length places
    input = ap (λ (l : List Gate). length l) is.input_is ∙ gates_there cells places live

    by : (b : Bool) → w.answer.improved ≡ b → length (cond b (drop (length w.answer.gates) places) []) ≡ length w.input - length w.answer.gates
    by true improved = omega (arith, length-drop (length w.answer.gates) places, input)
    by false same =
        let gates : length w.answer.gates ≡ length (gates_at cells places) = ap (λ (l : List Gate). length l) (unchanged rules (gates_at cells places) w.answer is.oracle same).0 in
        omega (arith, gates, gates_there cells places live, input)

sums_same : (f g : WorkedView → ℕ) (xs : List WorkedView) → All (λ w. f w ≡ g w) xs → sum_by f xs ≡ sum_by g xs
sums_same f g [] same = refl
sums_same f g (x ∷ xs) same =
    let rest : sum_by f xs ≡ sum_by g xs = sums_same f g xs (λ k d lt. same (suc k) d (omega (arith, lt))) in
    omega (arith, sum_by-cons f x xs, sum_by-cons g x xs, same 0 x (omega arith), rest)

pub lowered_count : (cells : List (Option Gate)) (jobs : List (List ℕ)) (rules : List RowView) (results : List WorkedView) (lowered : List ℕ) → All (λ places. All (IsLive cells) places) jobs
    → AreResults cells jobs rules results → AreSameNumbers lowered (all_given_up jobs results) → length lowered ≡ removed_gates results
lowered_count cells jobs rules results lowered live are same =
    sym (weigh_ones lowered)
    ∙ (same (λ place. 1)
    ∙ (weigh_ones (all_given_up jobs results)
    ∙ (length-flat_map (given_up jobs) results ∙ sums_same (λ w. length (given_up jobs w)) (λ w. length w.input - length w.answer.gates) results each)))
  where
    each : All (λ w. length (given_up jobs w) ≡ length w.input - length w.answer.gates) results
    each i d lt =
        let below : i < length jobs = omega (arith, lt, are.count) in
        let is : IsResultOf cells (get_or jobs i []) rules i (get_or results i d) = are.each i d below in
        subst (λ (t : ℕ). length (cond (get_or results i d).answer.improved (drop (length (get_or results i d).answer.gates) (get_or jobs t [])) []) ≡ length (get_or results i d).input - length (get_or results i d).answer.gates)
        (sym is.ticket_is) (given_count cells (get_or jobs i []) rules i (get_or results i d) (live i [] below) is)
