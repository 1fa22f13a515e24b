use Rattle.std.proofs.Common.{◌≡◌, ℕ, ◌<◌, ◌≤◌, ◌⊎◌, inl, inr, refl, subst, get_or, arith, below_more}
use Rattle.std.proofs.lemmas.Bool.{cases_lt}
use Rattle.pq_match.specs.Redex.{gate_at}
use Rattle.pq_match.specs.Search.{AreAlike}
use Rattle.pq_match.proofs.search.fits.Goals as goal

pub returns-then-not-is_alike_alone : goal.returns-then-not-is_alike_alone
returns-then-not-is_alike_alone c = (λ no. absurd (cc), λ fit. c.if-not-is_alike_alone.ensures.1 (fit.wires c.args.last (omega arith)))

pub returns-then-not-are_alike : goal.returns-then-not-are_alike
returns-then-not-are_alike c = (λ no. absurd (cc), λ fit. c.if-not-are_alike.ensures.1 (fit.wires c.loop-s.s (omega arith)))

pub loop-s-preserved : goal.loop-s-preserved
loop-s-preserved c = below_more _ _ c.loop-s.invariant (c.if-not-are_alike.ensures.0 refl)

pub returns : goal.returns
returns c = (
  λ yes. record {
    kind = c.requires.kind;
    wires = λ s upto. at s upto (cases_lt s c.args.last);
  },
  λ fit. refl,
)
  where
    alike : ℕ → Type 0
    alike s = AreAlike (gate_at c.args.pattern.now s) (gate_at c.args.pattern.now c.args.last) (gate_at c.args.gates.now (get_or c.args.places.now s 0)) (gate_at c.args.gates.now (get_or c.args.places.now c.args.last 0))

    at : (s : ℕ) → s ≤ c.args.last → (s < c.args.last) ⊎ (c.args.last ≤ s) → alike s
    at s upto (inl less) = c.loop-s.invariant s (omega arith)
    at s upto (inr more) = (let same : c.args.last ≡ s = omega arith in subst alike same (c.if-not-is_alike_alone.ensures.0 refl))
