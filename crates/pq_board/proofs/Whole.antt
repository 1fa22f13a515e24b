-- Places that are lowered at their whole ways, and tickets that are the first numbers.
use Rattle.std.proofs.Common.{◌≡◌, ◌≢◌, ℕ, zero, suc, ◌+◌, ◌/◌, ◌≤◌, Bool, true, false, cond, eqb, ltb, List, [], ◌∷◌, ◌++◌, map, length, refl, sym, ap, ◌∙◌, arith, append_assoc}
use Rattle.std.specs.Prelude.{Contains}
use Rattle.std.proofs.lemmas.Bool.Decides.{nat_tests}
use Rattle.std.proofs.lemmas.List.{append-nil, map-append}
use Rattle.std.proofs.lemmas.List.Elements.{filter-append}
use Rattle.pq_board.specs.Sums.{weigh, times, below, one_if_same}
use Rattle.pq_board.specs.Ways.{halves, way}
use Rattle.pq_board.specs.Law.{leaves, late, one_if_late, nodes_at, lowerings_of}
use Rattle.pq_board.specs.Steps.{at_nodes, whole_way, whole_ways, at_root, lowered_places, AreWhole, AreFirst, HoldAll, early, places_under}
use Rattle.pq_board.specs.declared.plan.Plan.{Plan}
use Rattle.pq_board.specs.declared.plan.Lowering.{Lowering}
use Rattle.pq_board.proofs.Sums.{weigh_append, below_once}
use Rattle.pq_board.proofs.Keeping.{late_below, nodes-append, kept_not, kept_here}

-- ways one after another
whole-append : (width : ℕ) (ls ms : List Lowering) → whole_ways width (ls ++ ms) ≡ whole_ways width ls ++ whole_ways width ms
whole-append width [] ms = refl
whole-append width (l ∷ ls) ms =
    ap (λ (rest : List Lowering). whole_way width l.ticket l.place ++ rest) (whole-append width ls ms)
    ∙ sym (append_assoc (whole_way width l.ticket l.place) (whole_ways width ls) (whole_ways width ms))

-- whole ways, and then others
pub whole_both : (width : ℕ) (ls ms : List Lowering) → AreWhole width ls → AreWhole width ms → AreWhole width (ls ++ ms)
whole_both width ls ms left right =
    (λ i. left i ++ right i)
    ∙ (sym (whole-append width (at_root ls) (at_root ms)) ∙ ap (λ (l : List Lowering). whole_ways width l) (sym (filter-append (λ m. eqb m.node 1) ls ms)))

root_kept : (ticket place node : ℕ) (nodes : List ℕ) → node ≢ 1 → at_root (at_nodes ticket place (node ∷ nodes)) ≡ at_root (at_nodes ticket place nodes)
root_kept ticket place node nodes apart =
    let t : eqb node 1 ≡ false = grind (arith, nat_tests) in
    ap (λ (b : Bool). cond b (record { ticket = ticket; place = place; node = node } ∷ at_root (at_nodes ticket place nodes)) (at_root (at_nodes ticket place nodes))) t

-- a way has the root once, at its end
root_way : (ticket place most n : ℕ) → 1 ≤ n → n ≤ most → at_root (at_nodes ticket place (halves most n)) ≡ record { ticket = ticket; place = place; node = 1 } ∷ []
root_way ticket place zero n low fits = absurd (omega arith)
root_way ticket place (suc most) zero low fits = absurd (omega arith)
root_way ticket place (suc most) (suc zero) low fits = ap (λ (l : List ℕ). at_root (at_nodes ticket place (1 ∷ l))) (none most)
  where
    none : (most : ℕ) → halves most (1 / 2) ≡ []
    none zero = refl
    none (suc most) = refl
root_way ticket place (suc most) (suc (suc n)) low fits =
    root_kept ticket place (suc (suc n)) (halves most (suc (suc n) / 2)) (λ e. absurd (omega arith))
    ∙ root_way ticket place most (suc (suc n) / 2) (omega arith) (omega arith)

-- one more place at its whole way
pub whole_more : (width : ℕ) (ls : List Lowering) (ticket place : ℕ) → 1 ≤ width → AreWhole width ls → AreWhole width (ls ++ whole_way width ticket place)
whole_more width ls ticket place wide whole =
    whole_both width ls (whole_way width ticket place) whole
    (sym
    (ap (λ (l : List Lowering). whole_ways width l) (root_way ticket place (width + place) (width + place) (omega arith) (omega arith))
    ∙ append-nil (whole_way width ticket place)))

-- with it one place more is lowered
pub lowered_more : (width : ℕ) (ls : List Lowering) (ticket place : ℕ) → 1 ≤ width → lowered_places (ls ++ whole_way width ticket place) ≡ lowered_places ls ++ place ∷ []
lowered_more width ls ticket place wide =
    ap (λ (l : List Lowering). map (λ m. m.place) l)
    (filter-append (λ m. eqb m.node 1) ls (whole_way width ticket place)
    ∙ ap (λ (l : List Lowering). at_root ls ++ l) (root_way ticket place (width + place) (width + place) (omega arith) (omega arith)))
    ∙ map-append (λ (m : Lowering). m.place) (at_root ls) (record { ticket = ticket; place = place; node = 1 } ∷ [])

-- and that of lists that are joined
pub lowered_both : (ls ms : List Lowering) → lowered_places (ls ++ ms) ≡ lowered_places ls ++ lowered_places ms
lowered_both ls ms = ap (λ (l : List Lowering). map (λ m. m.place) l) (filter-append (λ m. eqb m.node 1) ls ms) ∙ map-append (λ (m : Lowering). m.place) (at_root ls) (at_root ms)

-- the nodes of lowerings for one place
pub nodes_own : (ticket place : ℕ) (nodes : List ℕ) → nodes_at place (at_nodes ticket place nodes) ≡ nodes
nodes_own ticket place [] = refl
nodes_own ticket place (node ∷ nodes) =
    nodes-append place (record { ticket = ticket; place = place; node = node } ∷ []) (at_nodes ticket place nodes)
    ∙ (λ i. kept_here (record { ticket = ticket; place = place; node = node }) place refl i ++ nodes_own ticket place nodes i)

nodes_other : (ticket place q : ℕ) (nodes : List ℕ) → place ≢ q → nodes_at q (at_nodes ticket place nodes) ≡ []
nodes_other ticket place q [] apart = refl
nodes_other ticket place q (node ∷ nodes) apart =
    nodes-append q (record { ticket = ticket; place = place; node = node } ∷ []) (at_nodes ticket place nodes)
    ∙ (λ i. kept_not (record { ticket = ticket; place = place; node = node }) q apart i ++ nodes_other ticket place q nodes apart i)

fresh_ways : (width q : ℕ) (ls : List Lowering) → (Contains (map (λ (m : Lowering). m.place) ls) q → ⊥) → nodes_at q (whole_ways width ls) ≡ []
fresh_ways width q [] out = refl
fresh_ways width q (l ∷ ls) out =
    let apart : l.place ≢ q = (λ e. out (0, omega arith, e)) in
    nodes-append q (whole_way width l.ticket l.place) (whole_ways width ls)
    ∙ (λ i. nodes_other l.ticket l.place q (way width l.place) apart i ++ fresh_ways width q ls (λ at. out (suc at.0, omega (arith, at.1), at.2)) i)

-- for a place that isn't lowered no node is
pub fresh_nodes : (width q : ℕ) (ls : List Lowering) → AreWhole width ls → (Contains (lowered_places ls) q → ⊥) → nodes_at q ls ≡ []
fresh_nodes width q ls whole out = ap (λ (l : List Lowering). nodes_at q l) whole ∙ fresh_ways width q (at_root ls) out

-- a node is lowered once for each lowered place below it
lowerings_way : (node ticket place : ℕ) (nodes : List ℕ) → lowerings_of node (at_nodes ticket place nodes) ≡ times node nodes
lowerings_way node ticket place [] = refl
lowerings_way node ticket place (n ∷ nodes) = omega (arith, lowerings_way node ticket place nodes)

lowerings_ways : (plan : Plan) (node : ℕ) (ls : List Lowering) → lowerings_of node (whole_ways (leaves plan) ls) ≡ places_under plan node (map (λ m. m.place) ls)
lowerings_ways plan node [] = refl
lowerings_ways plan node (l ∷ ls) =
    omega (
      arith,
      weigh_append (λ m. one_if_same m.node node) (whole_way (leaves plan) l.ticket l.place) (whole_ways (leaves plan) ls),
      lowerings_way node l.ticket l.place (way (leaves plan) l.place),
      lowerings_ways plan node ls,
    )

pub lowerings_whole : (plan : Plan) (node : ℕ) (ls : List Lowering) → AreWhole (leaves plan) ls → lowerings_of node ls ≡ places_under plan node (lowered_places ls)
lowerings_whole plan node ls whole = ap (λ (l : List Lowering). lowerings_of node l) whole ∙ lowerings_ways plan node (at_root ls)

-- as many weights of 1 as items
pub weigh_ones : (xs : List ℕ) → weigh (λ x. 1) xs ≡ length xs
weigh_ones [] = refl
weigh_ones (x ∷ xs) = omega (arith, weigh_ones xs)

below_ones : (n : ℕ) → below (λ x. 1) n ≡ n
below_ones zero = refl
below_ones (suc n) = omega (arith, below_ones n)

-- the numbers below n are n
pub how_many : (ts : List ℕ) (n : ℕ) → ((h : ℕ → ℕ) → weigh h ts ≡ below h n) → n ≡ length ts
how_many ts n are = omega (arith, are (λ x. 1), weigh_ones ts, below_ones n)

pub are_first : (ts : List ℕ) (n : ℕ) → ((h : ℕ → ℕ) → weigh h ts ≡ below h n) → AreFirst ts
are_first ts n are h = are h ∙ ap (λ (m : ℕ). below h m) (how_many ts n are)

-- where one of them is late, each job has its ticket
pub hold_all : (plan : Plan) (ts : List ℕ) → AreFirst ts → 1 ≤ late plan ts → HoldAll plan ts
hold_all plan ts first some_late t lt =
    first (λ y. one_if_same y t) ∙ below_once t (length ts) (omega (arith, first (one_if_late plan), late_below plan (length ts)))

-- each ticket is early or late
early_or_late : (b : Bool) → cond b 1 0 + cond b 0 1 ≡ 1
early_or_late true = refl
early_or_late false = refl

pub early_late : (plan : Plan) (ts : List ℕ) → early plan ts + late plan ts ≡ length ts
early_late plan [] = refl
early_late plan (t ∷ ts) = omega (arith, early_late plan ts, early_or_late (ltb t (length plan.jobs)))
