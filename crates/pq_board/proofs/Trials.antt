-- Boards for tests: a tree whose first leaves are live, and jobs of two places each.
use Rattle.std.proofs.Common.{◌≡◌, ℕ, zero, suc, ◌+◌, ◌-◌, ◌*◌, ◌<◌, ◌≤◌, ◌⊎◌, inl, inr, ⊎_elim, Some, List, [], ◌∷◌, ◌++◌, map, length, get_or, refl, sym, ap, ◌∙◌, subst, arith}
use Rattle.std.specs.Prelude.{All, Contains}
use Rattle.std.specs.List.{concat}
use Rattle.std.proofs.lemmas.Bool.{cases_lt}
use Rattle.std.proofs.lemmas.List.Folds.{concat-append}
use Rattle.std.proofs.lemmas.List.{length_push, get_or_push, get_or_append_left}
use Rattle.std.proofs.lemmas.List.Elements.{All-append, All-weaker, All-nil, All-push, All-contains}
use Rattle.pq_array.specs.Cells.{live_places_from}
use Rattle.pq_board.specs.Law.{stake, leaves}
use Rattle.pq_board.specs.Steps.{Opened, Held, BelongsTo, unused, with_lowered, whole_way, lowered_places, Claimed}
use Rattle.pq_board.proofs.Claiming.{Drawn, claimed_some}
use Rattle.pq_board.specs.declared.plan.Plan.{Plan}
use Rattle.pq_board.specs.declared.plan.Lowering.{Lowering}
use Rattle.pq_board.specs.declared.plan.View.{View}

-- where all cells hold a gate, all places are live
pub all_live : {A : Type 0} (gates : List A) (first i : ℕ) → i < length gates → Contains (live_places_from first (map Some gates)) (first + i)
all_live [] first i lt = absurd (omega arith)
all_live (g ∷ gs) first zero lt = (0, omega arith, omega arith)
all_live (g ∷ gs) first (suc i) lt =
    let e : first + 1 + i ≡ first + suc i = omega arith in
    let at : Contains (live_places_from (first + 1) (map Some gs)) (first + suc i) = subst (Contains (live_places_from (first + 1) (map Some gs))) e (all_live gs (first + 1) i (omega arith)) in
    (suc at.0, omega (arith, at.1), at.2)

-- the jobs so far
pub record Pairs (jobs : List (List ℕ)) (count : ℕ) : Type 0 where
  pub count_is : length jobs ≡ count
  pub each : (ticket : ℕ) → ticket < count → get_or jobs ticket [] ≡ (2 * ticket) ∷ (2 * ticket + 1) ∷ []
  pub inside : All (λ place. place < 2 * count) (concat jobs)

pub pairs_none : Pairs [] 0
pairs_none = record { count_is = refl; each = λ ticket lt. absurd (omega arith); inside = All-nil (λ place. place < 0) }

two_below : (n m : ℕ) → 2 * n + 1 < m → All (λ place. place < m) ((2 * n) ∷ (2 * n + 1) ∷ [])
two_below n m lt zero d inside = omega arith
two_below n m lt (suc zero) d inside = lt
two_below n m lt (suc (suc k)) d inside = absurd (omega arith)

two_above : (x n : ℕ) → x < 2 * n → All (λ place. x < place) ((2 * n) ∷ (2 * n + 1) ∷ [])
two_above x n lt zero d inside = lt
two_above x n lt (suc zero) d inside = omega arith
two_above x n lt (suc (suc k)) d inside = absurd (omega arith)

-- the next pair comes behind them
pub pairs_behind : (jobs : List (List ℕ)) (n : ℕ) → Pairs jobs n → All (λ earlier. All (λ place. earlier < place) ((2 * n) ∷ (2 * n + 1) ∷ [])) (concat jobs)
pairs_behind jobs n pairs = All-weaker (λ place. place < 2 * n) (λ earlier. All (λ place. earlier < place) ((2 * n) ∷ (2 * n + 1) ∷ [])) (λ x lt. two_above x n lt) (concat jobs) pairs.inside

pub pairs_more : (jobs : List (List ℕ)) (n : ℕ) → Pairs jobs n → Pairs (jobs ++ ((2 * n) ∷ (2 * n + 1) ∷ []) ∷ []) (n + 1)
pairs_more jobs n pairs = record {
  count_is = omega (arith, length_push jobs ((2 * n) ∷ (2 * n + 1) ∷ []), pairs.count_is);
  each = λ ticket lt. ⊎_elim (earlier ticket) (λ le. last ticket (omega arith)) (cases_lt ticket n);
  inside = rw (concat-append jobs (((2 * n) ∷ (2 * n + 1) ∷ []) ∷ []))
      (All-append (λ place. place < 2 * (n + 1)) (concat jobs) ((2 * n) ∷ (2 * n + 1) ∷ [])
      (All-weaker (λ place. place < 2 * n) (λ place. place < 2 * (n + 1)) (λ x lt. omega arith) (concat jobs) pairs.inside)
      (two_below n (2 * (n + 1)) (omega arith)));
}
  where
    earlier : (ticket : ℕ) → ticket < n → get_or (jobs ++ ((2 * n) ∷ (2 * n + 1) ∷ []) ∷ []) ticket [] ≡ (2 * ticket) ∷ (2 * ticket + 1) ∷ []
    earlier ticket lt = get_or_append_left jobs (((2 * n) ∷ (2 * n + 1) ∷ []) ∷ []) [] ticket (omega (arith, pairs.count_is)) ∙ pairs.each ticket lt

    last : (ticket : ℕ) → ticket ≡ n → get_or (jobs ++ ((2 * n) ∷ (2 * n + 1) ∷ []) ∷ []) ticket [] ≡ (2 * ticket) ∷ (2 * ticket + 1) ∷ []
    last ticket same = get_or_push jobs ((2 * n) ∷ (2 * n + 1) ∷ []) [] ticket (omega (arith, pairs.count_is)) ∙ ap (λ (t : ℕ). (2 * t) ∷ (2 * t + 1) ∷ []) (sym same)

-- the second place of a pair
pub second_of : (l : List ℕ) (n : ℕ) → l ≡ (2 * n) ∷ (2 * n + 1) ∷ [] → Contains l (2 * n + 1)
second_of l n is = subst (λ (m : List ℕ). Contains m (2 * n + 1)) (sym is) (1, omega arith, refl)

-- a worker whose next ticket is at least this one, and which lowered places below its pair alone
pub record Works (board : Opened) (old now : Held) (next : ℕ) : Type 0 where
  pub belongs : BelongsTo board now
  pub right : 1 ≤ now.view.rights
  pub staked : stake board.plan now.view ≡ stake board.plan old.view
  pub last : (next ≡ 0) ⊎ ((1 ≤ next) × Contains now.view.tickets (next - 1))
  pub inside : All (λ place. place < 2 * next) (lowered_places now.view.lowered)
  pub fits : next ≤ length board.plan.jobs

pub works_none : (board : Opened) (pass : Held) → BelongsTo board pass → 1 ≤ pass.view.rights → pass.view ≡ unused pass.view.plan pass.view.rights → Works board pass pass 0
works_none board pass belongs right idle = record {
  belongs = belongs;
  right = right;
  staked = refl;
  last = inl refl;
  inside = subst (λ (l : List Lowering). All (λ place. place < 0) (lowered_places l)) (sym (ap (λ (v : View). v.lowered) idle)) (All-nil (λ place. place < 0));
  fits = omega arith;
}

-- a ticket that is drawn isn't less than it
pub next_most : (next ticket : ℕ) (tickets : List ℕ) → (next ≡ 0) ⊎ ((1 ≤ next) × Contains tickets (next - 1)) → All (λ before. before < ticket) tickets → next ≤ ticket
next_most next ticket tickets (inl none) greatest = omega arith
next_most next ticket tickets (inr (low, held)) greatest = omega (arith, All-contains (λ before. before < ticket) tickets (next - 1) greatest held)

-- so its second place wasn't lowered
pub still_fresh : (next ticket : ℕ) (places : List ℕ) → next ≤ ticket → All (λ place. place < 2 * next) places → Contains places (2 * ticket + 1) → ⊥
still_fresh next ticket places le inside at = omega (arith, All-contains (λ place. place < 2 * next) places (2 * ticket + 1) inside at)

-- and then it is
pub more_inside : (next ticket : ℕ) (places : List ℕ) → next ≤ ticket → All (λ place. place < 2 * next) places → All (λ place. place < 2 * (ticket + 1)) (places ++ (2 * ticket + 1) ∷ [])
more_inside next ticket places le inside =
    All-push (λ place. place < 2 * (ticket + 1)) places (2 * ticket + 1) (All-weaker (λ place. place < 2 * next) (λ place. place < 2 * (ticket + 1)) (λ x lt. omega arith) places inside) (omega arith)

-- after one more job
pub works_on : (board : Opened) (old now claimed lowered : Held) (next ticket : ℕ) → Works board old now next → claimed.board ≡ now.board → Claimed now.view (Some ticket) claimed.view →
    stake board.plan claimed.view ≡ stake board.plan now.view → lowered.board ≡ claimed.board → lowered.view ≡ with_lowered (whole_way (leaves board.plan) ticket (2 * ticket + 1)) claimed.view →
    lowered_places lowered.view.lowered ≡ lowered_places claimed.view.lowered ++ (2 * ticket + 1) ∷ [] → Works board old lowered (ticket + 1)
works_on board old now claimed lowered next ticket w here c staked there is places =
    let d : Drawn now.view claimed.view ticket = claimed_some now.view claimed.view ticket c in
    let le : next ≤ ticket = next_most next ticket now.view.tickets w.last d.greatest in
    let rights : lowered.view.rights ≡ now.view.rights = ap (λ (v : View). v.rights) is ∙ d.rights in
    let tickets : lowered.view.tickets ≡ claimed.view.tickets = ap (λ (v : View). v.tickets) is in
    let before : ticket + 1 - 1 ≡ ticket = omega arith in
    let jobs : length now.view.plan.jobs ≡ length board.plan.jobs = ap (λ (p : Plan). length p.jobs) w.belongs.plan in
    let same : lowered_places claimed.view.lowered ≡ lowered_places now.view.lowered = ap (λ (l : List Lowering). lowered_places l) d.lowered in
    record {
      belongs = record { here = there ∙ (here ∙ w.belongs.here); plan = ap (λ (v : View). v.plan) is ∙ (d.plan ∙ w.belongs.plan) };
      right = omega (arith, w.right);
      staked = ap (λ (v : View). stake board.plan v) is ∙ (staked ∙ w.staked);
      last = inr (omega arith, rw (tickets, before) d.held);
      inside = rw (places, same) (more_inside next ticket (lowered_places now.view.lowered) le w.inside);
      fits = omega (arith, d.early);
    }
