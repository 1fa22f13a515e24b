-- Words that change only where those above them do.
use Rattle.std.proofs.Common.{◌≡◌, ◌≢◌, ℕ, zero, suc, ◌+◌, ◌-◌, ◌*◌, ◌/◌, ◌^◌, ◌<◌, ◌≤◌, ◌⊎◌, inl, inr, ⊎_elim, List, length, set, get_or, refl, sym, ap, ◌∙◌, subst, arith, get_or-set_same, get_or-set_other, length-set}
use Rattle.std.proofs.lemmas.Bool.{cases_eq, cases_lt}
use Rattle.std.proofs.lemmas.Nat.{shr-shr, shr_le}
use Rattle.std.proofs.lemmas.List.{get_or_past}
use Rattle.std.proofs.lemmas.Grind.{same_number_lists}
use Rattle.pq_array.specs.Counts.{HalvesTo}
use Rattle.pq_board.specs.Changed.{FollowUnder, AreTakenUnder}

-- one halving more
half_more : (n t : ℕ) → n / 2 ^ suc t ≡ n / 2 ^ t / 2
half_more n t =
    let half : n / 2 ^ t / 2 ^ 1 ≡ n / 2 ^ t / 2 = refl in
    let steps : n / 2 ^ (t + 1) ≡ n / 2 ^ suc t = ap (λ (x : ℕ). n / 2 ^ x) (omega arith) in
    sym steps ∙ (sym (shr-shr n t 1) ∙ half)

-- and one before them
half_first : (n t : ℕ) → n / 2 ^ suc t ≡ n / 2 / 2 ^ t
half_first n t =
    let half : n / 2 ^ 1 / 2 ^ t ≡ n / 2 / 2 ^ t = refl in
    let steps : n / 2 ^ (1 + t) ≡ n / 2 ^ suc t = ap (λ (x : ℕ). n / 2 ^ x) (omega arith) in
    sym steps ∙ (sym (shr-shr n 1 t) ∙ half)

-- what stands below a child stands below its parent
pub below_parent : (n top child : ℕ) → child / 2 ≡ top → HalvesTo n child → HalvesTo n top
below_parent n top child half (t, is) = (suc t, half_more n t ∙ (ap (λ (x : ℕ). x / 2) is ∙ half))

-- what stands below a node is no less
pub below_le : (n top : ℕ) → HalvesTo n top → top ≤ n
below_le n top (t, is) = omega (arith, shr_le n t)

-- of what stands below a node: the node itself, or what stands below a child
below_cases : (n top : ℕ) → HalvesTo n top → (n ≡ top) ⊎ (HalvesTo n (2 * top) ⊎ HalvesTo n (2 * top + 1))
below_cases n top (zero, is) = inl (omega (arith, is))
below_cases n top (suc t, is) =
    let half : n / 2 ^ t / 2 ≡ top = sym (half_more n t) ∙ is in
    inr (⊎_elim (λ even. inl (t, even)) (λ odd. inr (t, omega arith)) (cases_eq (n / 2 ^ t) (2 * top)))

-- no number stands below both children
apart_more : (n t more top : ℕ) → 1 ≤ top → n / 2 ^ t ≤ 2 * top + 1 → 2 * top ≤ n / 2 ^ (t + suc more) → ⊥
apart_more n t more top some low high =
    let split : n / 2 ^ t / 2 ^ suc more ≡ n / 2 ^ (t + suc more) = shr-shr n t (suc more) in
    let half : n / 2 ^ t / 2 ^ suc more ≡ n / 2 ^ t / 2 / 2 ^ more = half_first (n / 2 ^ t) more in
    omega (arith, shr_le (n / 2 ^ t / 2) more)

apart : (n top : ℕ) → 1 ≤ top → HalvesTo n (2 * top) → HalvesTo n (2 * top + 1) → ⊥
apart n top some (t, left) (s, right) = ⊎_elim fewer (λ no_fewer. ⊎_elim more (λ no_more. same (omega arith)) (cases_lt s t)) (cases_lt t s)
  where
    fewer : t < s → ⊥
    fewer lt =
        let steps : s ≡ t + suc (s - suc t) = omega arith in
        let at : n / 2 ^ (t + suc (s - suc t)) ≡ 2 * top + 1 = ap (λ (x : ℕ). n / 2 ^ x) (sym steps) ∙ right in
        apart_more n t (s - suc t) top some (omega arith) (omega arith)

    more : s < t → ⊥
    more lt =
        let steps : t ≡ s + suc (t - suc s) = omega arith in
        let at : n / 2 ^ (s + suc (t - suc s)) ≡ 2 * top = ap (λ (x : ℕ). n / 2 ^ x) (sym steps) ∙ left in
        apart_more n s (t - suc s) top some (omega arith) (omega arith)

    same : t ≡ s → ⊥
    same is = let both : n / 2 ^ t ≡ n / 2 ^ s = ap (λ (x : ℕ). n / 2 ^ x) is in absurd (omega arith)

-- each number but 0 stands below node 1
below_one : (most n : ℕ) → n ≤ most → 1 ≤ n → HalvesTo n 1
below_one zero n fits some = absurd (omega arith)
below_one (suc most) n fits some = ⊎_elim (λ one. (0, omega (arith, one))) (λ higher. further (below_one most (n / 2) (omega arith) (omega arith))) (cases_eq n 1)
  where
    further : HalvesTo (n / 2) 1 → HalvesTo n 1
    further (t, is) = (suc t, half_first n t ∙ is)

-- where the word of the top is the same, all below it are
taken_same : (t top node : ℕ) (words other : List ℕ) → FollowUnder top words other → get_or words top 0 ≡ get_or other top 0 → node / 2 ^ t ≡ top → get_or words node 0 ≡ get_or other node 0
taken_same zero top node words other follow same is =
    let here : top ≡ node = omega (arith, is) in
    subst (λ (n : ℕ). get_or words n 0 ≡ get_or other n 0) here same
taken_same (suc t) top node words other follow same is =
    let up : node / 2 / 2 ^ t ≡ top = sym (half_first node t) ∙ is in
    let parent : get_or words (node / 2) 0 ≡ get_or other (node / 2) 0 = taken_same t top (node / 2) words other follow same up in
    let both = follow.children (node / 2) (t, up) parent in
    ⊎_elim (λ even. subst (λ (n : ℕ). get_or words n 0 ≡ get_or other n 0) (sym even) both.0)
    (λ odd. let is_odd : 2 * (node / 2) + 1 ≡ node = omega arith in subst (λ (n : ℕ). get_or words n 0 ≡ get_or other n 0) is_odd both.1) (cases_eq node (2 * (node / 2)))

pub taken_none : (top : ℕ) (words other : List ℕ) → FollowUnder top words other → get_or words top 0 ≡ get_or other top 0 → AreTakenUnder top words words other
taken_none top words other follow same = record { size = refl; under = λ node at. taken_same at.0 top node words other follow same at.1; elsewhere = λ node out. refl }

-- a leaf has none below it
pub taken_leaf : (top x : ℕ) (words other : List ℕ) → length other ≡ length words → top < length words → length words ≤ 2 * top → get_or other top 0 ≡ x →
    AreTakenUnder top words (set words top x) other
taken_leaf top x words other long inside leaf is = record {
  size = length-set words top x;
  under = λ node at. by node (below_cases node top at);
  elsewhere = λ node out. get_or-set_other words top node x 0 (λ e. out (0, omega (arith, e)));
}
  where
    past : (node : ℕ) → 2 * top ≤ node → get_or (set words top x) node 0 ≡ get_or other node 0
    past node le = get_or_past (set words top x) node 0 (omega (arith, length-set words top x)) ∙ sym (get_or_past other node 0 (omega arith))

    by : (node : ℕ) → (node ≡ top) ⊎ (HalvesTo node (2 * top) ⊎ HalvesTo node (2 * top + 1)) → get_or (set words top x) node 0 ≡ get_or other node 0
    by node (inl same) = subst (λ (n : ℕ). get_or (set words top x) n 0 ≡ get_or other n 0) (sym same) (get_or-set_same words top x 0 inside ∙ sym is)
    by node (inr (inl left)) = past node (below_le node (2 * top) left)
    by node (inr (inr right)) = past node (omega (arith, below_le node (2 * top + 1) right))

-- the words below the left child when that of the top is taken
pub follow_left : (top x : ℕ) (words other : List ℕ) → 1 ≤ top → FollowUnder top words other → FollowUnder (2 * top) (set words top x) other
follow_left top x words other some follow = record { children = λ node at same. children node at same }
  where
    still : (n : ℕ) → top < n → get_or (set words top x) n 0 ≡ get_or words n 0
    still n lt = get_or-set_other words top n x 0 (λ e. absurd (omega (arith, e)))

    children : (node : ℕ) → HalvesTo node (2 * top) → get_or (set words top x) node 0 ≡ get_or other node 0 →
        (get_or (set words top x) (2 * node) 0 ≡ get_or other (2 * node) 0) × (get_or (set words top x) (2 * node + 1) 0 ≡ get_or other (2 * node + 1) 0)
    children node at same =
        let low : 2 * top ≤ node = below_le node (2 * top) at in
        let both = follow.children node (below_parent node top (2 * top) (omega arith) at) (sym (still node (omega arith)) ∙ same) in
        (still (2 * node) (omega arith) ∙ both.0, still (2 * node + 1) (omega arith) ∙ both.1)

-- and those below the right child when those below the left one are, too
pub follow_right : (top x : ℕ) (words left other : List ℕ) → 1 ≤ top → FollowUnder top words other → AreTakenUnder (2 * top) (set words top x) left other → FollowUnder (2 * top + 1) left other
follow_right top x words left other some follow taken = record { children = λ node at same. children node at same }
  where
    still : (n : ℕ) → HalvesTo n (2 * top + 1) → get_or left n 0 ≡ get_or words n 0
    still n at =
        let low : 2 * top + 1 ≤ n = below_le n (2 * top + 1) at in
        taken.elsewhere n (λ other_side. apart n top some other_side at) ∙ get_or-set_other words top n x 0 (λ e. absurd (omega (arith, e)))

    below : (node child : ℕ) → child / 2 ≡ node → HalvesTo node (2 * top + 1) → HalvesTo child (2 * top + 1)
    below node child half (t, is) = (suc t, half_first child t ∙ (ap (λ (x : ℕ). x / 2 ^ t) half ∙ is))

    children : (node : ℕ) → HalvesTo node (2 * top + 1) → get_or left node 0 ≡ get_or other node 0 → (get_or left (2 * node) 0 ≡ get_or other (2 * node) 0) × (get_or left (2 * node + 1) 0 ≡ get_or other (2 * node + 1) 0)
    children node at same =
        let both = follow.children node (below_parent node top (2 * top + 1) (omega arith) at) (sym (still node at) ∙ same) in
        (still (2 * node) (below node (2 * node) (omega arith) at) ∙ both.0, still (2 * node + 1) (below node (2 * node + 1) (omega arith) at) ∙ both.1)

-- the word of the top and those below both children
pub taken_both : (top x : ℕ) (words left right other : List ℕ) → 1 ≤ top → top < length words → get_or other top 0 ≡ x → AreTakenUnder (2 * top) (set words top x) left other →
    AreTakenUnder (2 * top + 1) left right other → AreTakenUnder top words right other
taken_both top x words left right other some inside is first second = record {
  size = second.size ∙ (first.size ∙ length-set words top x);
  under = λ node at. by node (below_cases node top at);
  elsewhere = λ node out. second.elsewhere node (λ at. out (below_parent node top (2 * top + 1) (omega arith) at))
      ∙ (first.elsewhere node (λ at. out (below_parent node top (2 * top) (omega arith) at)) ∙ get_or-set_other words top node x 0 (λ e. out (0, omega (arith, e))));
}
  where
    here : get_or right top 0 ≡ get_or other top 0
    here = second.elsewhere top (λ at. absurd (omega (arith, below_le top (2 * top + 1) at)))
        ∙ (first.elsewhere top (λ at. absurd (omega (arith, below_le top (2 * top) at))) ∙ (get_or-set_same words top x 0 inside ∙ sym is))

    by : (node : ℕ) → (node ≡ top) ⊎ (HalvesTo node (2 * top) ⊎ HalvesTo node (2 * top + 1)) → get_or right node 0 ≡ get_or other node 0
    by node (inl same) = subst (λ (n : ℕ). get_or right n 0 ≡ get_or other n 0) (sym same) here
    by node (inr (inl at)) = second.elsewhere node (λ other_side. apart node top some at other_side) ∙ first.under node at
    by node (inr (inr at)) = second.under node at

-- with word 0 these are all words
pub taken_all : (old new other : List ℕ) (x : ℕ) → AreTakenUnder 1 old new other → length other ≡ length old → 1 < length old → get_or other 0 0 ≡ x → set new 0 x ≡ other
taken_all old new other x taken long some is =
    same_number_lists (set new 0 x) other (length-set new 0 x ∙ (taken.size ∙ sym long)) (λ k lt. by k (cases_eq k 0))
  where
    by : (k : ℕ) → (k ≡ 0) ⊎ (k ≢ 0) → get_or (set new 0 x) k 0 ≡ get_or other k 0
    by k (inl none) = subst (λ (n : ℕ). get_or (set new 0 x) n 0 ≡ get_or other n 0) (sym none) (get_or-set_same new 0 x 0 (omega (arith, taken.size)) ∙ sym is)
    by k (inr some_k) = get_or-set_other new 0 k x 0 some_k ∙ taken.under k (below_one k k (omega arith) (omega arith))
