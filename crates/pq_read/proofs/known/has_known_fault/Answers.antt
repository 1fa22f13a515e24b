use Rattle.std.proofs.Common.{◌≡◌, ◌<◌, true, false, refl, sym, ap, ◌∙◌, inl, inr, arith}
use Rattle.pq_lex.specs.Lex.{Position, tokens}
use Rattle.pq_lex.specs.Token.{seen}
use Rattle.pq_lex.specs.Added.{extended}
use Rattle.pq_read.specs.Begins.{position_of}
use Rattle.pq_read.specs.Drafts.{env_of}
use Rattle.pq_read.proofs.Walked.{walked_first, walked_on, walked_enough, walked_strays, walked_malformed, malformed_first, unknown_first, walked_unknown}
use Rattle.pq_read.specs.declared.program.Options.{Options}
use Rattle.pq_read.specs.Faults.{head}
use Rattle.pq_read.specs.Leads.{HasFault}
use Rattle.pq_read.proofs.known.has_known_fault.Goals as goal

pub returns-in_default-clause-fault : goal.returns-in_default-clause-fault
returns-in_default-clause-fault c = λ is.
    let place = c.at-lexer.ensures ∙ (λ i. record { rest = c.as_slice.ensures.value i; line = c.args.begun.now.line; column = c.args.begun.now.column }) in
    malformed_first (env_of c.args.draft.now) (position_of c.args.begun.now) c.sure.new.self
    (λ more. c.in_default.ensures.stays more ∙ ap (λ (p : Position). tokens (extended p more)) place) (c.is_malformed.ensures.stays is)

pub tokens-init : goal.tokens-init
tokens-init c =
    let place = c.at-lexer.ensures ∙ (λ i. record { rest = c.as_slice.ensures.value i; line = c.args.begun.now.line; column = c.args.begun.now.column }) in
    walked_first (env_of c.args.draft.now) (position_of c.args.begun.now) c.sure.new.self (seen c.in-Some.first) c.begins_barrier-long.result c.in-Some.ensures.inner
    (sym c.has_form.ensures ∙ c.if-has_form.false) c.begins_barrier-long.ensures
    (λ more. ap (λ (p : Position). tokens (extended p more)) (sym place) ∙ c.in-Some.ensures.found more)

pub returns-in_default-sure-clause-fault : goal.returns-in_default-sure-clause-fault
returns-in_default-sure-clause-fault c = λ is.
    walked_malformed (env_of c.args.draft.now) (position_of c.args.begun.now) c.tokens.lexer c.sure-in-tokens.new.self c.begins_barrier-long.result c.tokens.count c.tokens.expected c.tokens.invariant
    c.in_default-sure.ensures.stays (c.is_malformed-in_default-sure.ensures.stays is)

pub tokens-preserved : goal.tokens-preserved
tokens-preserved c =
    walked_on (env_of c.args.draft.now) (position_of c.args.begun.now) c.tokens.lexer c.sure-in-tokens.new.self (seen c.in-Some-sure.token) c.begins_barrier-long.result c.tokens.count c.saturating_add-count.result c.tokens.expected c.after-expected.result c.tokens.invariant
    c.in-Some-sure.ensures.inner (sym c.has_form-in-tokens.ensures ∙ c.if-has_form-2.false) (grind arith)
    (λ short. let few : c.tokens.count < 16 = c.is_refused.ensures.few c.if-is_refused.false short in grind arith) c.after-expected.ensures c.in-Some-sure.ensures.found

pub returns-then-is_refused-clause-fault : goal.returns-then-is_refused-clause-fault
returns-then-is_refused-clause-fault c = λ _.
    let E = env_of c.args.draft.now in
    let p = position_of c.args.begun.now in
    elim c.begins_barrier-long.result as (λ b. c.begins_barrier-long.result ≡ b → (options : Options) → HasFault options E p) [
      | true ↦ λ long. walked_strays E p c.tokens.lexer c.begins_barrier-long.result c.tokens.count c.tokens.expected c.tokens.invariant long (c.is_refused.ensures.long c.if-is_refused.true long)
      | false ↦ λ short. walked_enough E p c.tokens.lexer c.begins_barrier-long.result c.tokens.count c.tokens.expected c.tokens.invariant short (let many = c.is_refused.ensures.short c.if-is_refused.true short in grind arith)
    ] refl

pub returns-in_default-clause-none : goal.returns-in_default-clause-none
returns-in_default-clause-none c = λ is.
    let place = c.at-lexer.ensures ∙ (λ i. record { rest = c.as_slice.ensures.value i; line = c.args.begun.now.line; column = c.args.begun.now.column }) in
    unknown_first (env_of c.args.draft.now) (position_of c.args.begun.now) c.sure.new.self
    (λ more. c.in_default.ensures.stays more ∙ ap (λ (p : Position). tokens (extended p more)) place)
    (inr (record { token = c.in_default.ensures.none; malformed = c.is_malformed.ensures.none is }))

pub returns-then-has_form-clause-none : goal.returns-then-has_form-clause-none
returns-then-has_form-clause-none c = λ _.
    let place = c.at-lexer.ensures ∙ (λ i. record { rest = c.as_slice.ensures.value i; line = c.args.begun.now.line; column = c.args.begun.now.column }) in
    unknown_first (env_of c.args.draft.now) (position_of c.args.begun.now) (position_of c.args.begun.now) (λ _. refl)
    (inl (seen c.in-Some.first, sym c.has_form.ensures ∙ c.if-has_form.true, λ more. ap (λ (p : Position). head (tokens (extended p more))) (sym place) ∙ ap head (c.in-Some.ensures.found more)))

pub returns-in_default-sure-clause-none : goal.returns-in_default-sure-clause-none
returns-in_default-sure-clause-none c = λ is.
    walked_unknown (env_of c.args.draft.now) (position_of c.args.begun.now) c.tokens.lexer c.sure-in-tokens.new.self c.begins_barrier-long.result c.tokens.count c.tokens.expected c.tokens.invariant
    c.in_default-sure.ensures.stays (inr (record { token = c.in_default-sure.ensures.none; malformed = c.is_malformed-in_default-sure.ensures.none is }))
    (c.is_refused.ensures.few c.if-is_refused.false) (c.is_refused.ensures.straight c.if-is_refused.false)

pub returns-then-has_form-2-clause-none : goal.returns-then-has_form-2-clause-none
returns-then-has_form-2-clause-none c = λ _.
    walked_unknown (env_of c.args.draft.now) (position_of c.args.begun.now) c.tokens.lexer c.tokens.lexer c.begins_barrier-long.result c.tokens.count c.tokens.expected c.tokens.invariant
    (λ _. refl) (inl (seen c.in-Some-sure.token, sym c.has_form-in-tokens.ensures ∙ c.if-has_form-2.true, λ more. ap head (c.in-Some-sure.ensures.found more)))
    (c.is_refused.ensures.few c.if-is_refused.false) (c.is_refused.ensures.straight c.if-is_refused.false)
