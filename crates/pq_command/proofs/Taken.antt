-- A parse of a simple command that finds no fault in the words takes them.
use Rattle.std.proofs.Common.{◌≡◌, ◌∙◌, ◌&&◌, ◌||◌, ℕ, Bool, true, false, cond, not, zero, suc, refl, sym, ap, arith, true≢false, List, [], ◌∷◌, Option, Some, None, is_some, length}
use Rattle.std.specs.Prelude.{codes, slice_get, nat_le}
use Rattle.std.specs.List.{list_all, list_any}
use Rattle.std.specs.Option.{option_map_or}
use Rattle.std.specs.Str.{bytes_eq, chars}
use Rattle.std.proofs.lemmas.Bool.Decides.{nat_tests}
use Rattle.clap.specs.Lexer.{long_of, short_of}
use Rattle.clap.specs.Facts.{explicit_source, parser_of_value, unwrap_or_range}
use Rattle.clap.specs.ValueTests.{accepts}
use Rattle.clap.specs.Walk.{Held, Names, Row, Rule, Step, Text, Waiting, Walk, action_of, arg_by_id, arg_by_index, arg_by_long, arg_by_short, attached_value, finished, has_row, is_pending, most_values, nothing_held, reacted, settled, subcommand_met, takes_several, takes_values, values_or_missing, walk, walk_from, walked, word_met, next, trailing, subcommand, value}
use Rattle.clap.specs.Simple.{App, Shape, built}
use Rattle.clap.proofs.TakesLemmas.{leaf_takes}
use Rattle.clap.proofs.FaultLemmas.{leaf_fault}
use Rattle.pq_command.specs.CommandLine.{app}
use Rattle.clap.specs.Kinds.{Kinds, check_kinds, or_else, range_kinds, value_kinds}
use Rattle.clap.specs.Faults.{fault_of, action_fault, bundle_fault, bundle_step_fault, check_fault, count_fault, flag_word_fault, flags_fault, has_free_rules, level_fault, long_fault, option_fault, other_fault, positional_fault, react_fault, repeat_fault, set_fault, settle_fault, short_fault, step_fault, stray_fault, turn_fault, use_fault, values_fault, walk_fault, word_fault}
use Rattle.clap.specs.Takes.{takes, action_passes, bundle_passes, bundle_step_passes, count_passes, default_passes, flag_word_passes, flags_pass, is_given, is_valid, level_passes, long_passes, option_passes, other_passes, positional_passes, react_passes, set_passes, settle_passes, short_passes, step_passes, turn_passes, use_passes, value_passes, values_pass, walk_passes, word_passes}
use Rattle.clap.specs.declared.builder.action.ArgAction.{ArgAction}
use Rattle.clap.specs.declared.builder.action.ArgAction.TheVariants as action
use Rattle.clap.specs.declared.error.kind.ErrorKind.{ErrorKind}
use Rattle.clap.specs.declared.error.kind.ErrorKind.TheVariants as kind

-- where no kind comes, the test passes
abbrev Clear : Kinds → Bool → Type 0
Clear kinds passes = kinds ≡ [] → passes ≡ true

some_kind : (k : ErrorKind) (passes : Bool) → Clear (k ∷ []) passes
some_kind k passes e = cc

both_clear : (a b : Kinds) (p q : Bool) → Clear a p → Clear b q → Clear (or_else a b) (p && q)
both_clear [] b p q first second e = rw (first refl) (second e)
both_clear (k ∷ ks) b p q first second e = cc

-- ---- one use of an argument

value_clear : (a : Rule) (text : Text) → Clear (value_kinds a.ignore_case (parser_of_value a.parser) text) (value_passes a text)
value_clear a text = go (accepts a.ignore_case (parser_of_value a.parser) text) _
  where
    go : (b : Bool) (k : ErrorKind) → Clear (cond b [] (k ∷ [])) b
    go true k e = refl
    go false k e = cc

values_clear : (a : Rule) (values : List Text) → Clear (values_fault a values) (values_pass a values)
values_clear a [] e = refl
values_clear a (v ∷ vs) e = both_clear _ _ _ _ (value_clear a v) (values_clear a vs) e

count_clear : (a : Rule) (values : List Text) (rows : List Row) → Clear (count_fault a values rows) (count_passes a values rows)
count_clear a [] rows e = value_clear a _ e
count_clear a (v ∷ vs) rows e = values_clear a (v ∷ vs) e

set_clear : (again : Bool) (a : Rule) (values : List Text) (rows : List Row) → Clear (set_fault again a values rows) (set_passes again a values rows)
set_clear again a values rows e = both_clear (repeat_fault again a.id rows) _ _ _ (go (has_row a.id rows) again _) (values_clear a values) e
  where
    go : (has again : Bool) (k : ErrorKind) → Clear (cond (has && not again) (k ∷ []) []) (not has || again)
    go true true k e = refl
    go true false k e = cc
    go false again k e = refl

action_clear : (x : ArgAction) (again : Bool) (a : Rule) (values : List Text) (rows : List Row) → Clear (action_fault x again a values rows) (action_passes x again a values rows)
action_clear action.Set again a values rows e = set_clear again a values rows e
action_clear action.SetTrue again a values rows e = set_clear again a values rows e
action_clear action.SetFalse again a values rows e = set_clear again a values rows e
action_clear action.Append again a values rows e = values_clear a values e
action_clear action.Count again a values rows e = count_clear a values rows e
action_clear action.Help again a values rows e = cc
action_clear action.HelpShort again a values rows e = cc
action_clear action.HelpLong again a values rows e = cc
action_clear action.Version again a values rows e = cc

range_clear : (least most n : ℕ) → Clear (range_kinds least most n) (nat_le least n && nat_le n most)
range_clear least most n e = grind (arith, nat_tests)

three : (p q r : Bool) → ((p && q) && r) ≡ true → (p && (q && r)) ≡ true
three true q r e = e
three false q r e = e

use_clear : (again : Bool) (a : Rule) (values : List Text) (rows : List Row) → Clear (use_fault again a values rows) (use_passes again a values rows)
use_clear again a values rows e =
    three (nat_le (unwrap_or_range a.range).start_inclusive (length values)) (nat_le (length values) (most_values a)) (action_passes (action_of a) again a (values_or_missing a values) rows)
    (both_clear _ _ _ _ (range_clear (unwrap_or_range a.range).start_inclusive (most_values a) (length values)) (action_clear (action_of a) again a _ rows) e)

-- ---- the walk

settle_clear : (c : List Rule) (again : Bool) (h : Held) → Clear (settle_fault c again h) (settle_passes c again h)
settle_clear c again h = go h.pending
  where
    used : (o : Option Rule) (values : List Text) → Clear (option_map_or (λ a. use_fault again a values h.rows) o []) (option_map_or (λ a. use_passes again a values h.rows) o true)
    used None values e = refl
    used (Some a) values e = use_clear again a values h.rows e

    go : (o : Option (Text × List Text)) → Clear (option_map_or (λ p. option_map_or (λ a. use_fault again a p.1 h.rows) (arg_by_id c p.0) []) o [])
        (option_map_or (λ p. option_map_or (λ a. use_passes again a p.1 h.rows) (arg_by_id c p.0) true) o true)
    go None e = refl
    go (Some p) e = used (arg_by_id c p.0) p.1 e

react_clear : (c : List Rule) (again : Bool) (a : Rule) (values : List Text) (h : Held) → Clear (react_fault c again a values h) (react_passes c again a values h)
react_clear c again a values h = both_clear _ _ _ _ (settle_clear c again h) (use_clear again a values (settled c h).rows)

option_clear : (c : List Rule) (again : Bool) (a : Rule) (v : Option Text) (h : Held) → Clear (option_fault c again a v h) (option_passes c again a v h)
option_clear c again a (Some v) h e = react_clear c again a (v ∷ []) h e
option_clear c again a None h e = settle_clear c again h e

-- one of two steps
either_clear : (t : Bool) (a b : Kinds) (p q : Bool) → Clear a p → Clear b q → Clear (cond t a b) (cond t p q)
either_clear true a b p q first second = first
either_clear false a b p q first second = second

long_clear : (c : List Rule) (again : Bool) (found : Option Rule) (v : Option Text) (h : Held) → Clear (long_fault c again found v h) (long_passes c again found v h)
long_clear c again None v h e = cc
long_clear c again (Some a) v h e = either_clear (takes_values a) _ _ _ _ (option_clear c again a v h) (go (is_some v) _ _ _ (react_clear c again a [] h)) e
  where
    go : (has : Bool) (k : ErrorKind) (b : Kinds) (q : Bool) → Clear b q → Clear (cond has (k ∷ []) b) (not has && q)
    go true k b q then e = cc
    go false k b q then e = then e

short_clear : (c : List Rule) (again : Bool) (found : Option Rule) (rest : Text) (h : Held) (fails : Held → Kinds) (passes : Held → Bool) → ((g : Held) → Clear (fails g) (passes g))
    → Clear (short_fault c again found rest h fails) (short_passes c again found rest h passes)
short_clear c again None rest h fails passes then e = cc
short_clear c again (Some a) rest h fails passes then e =
    either_clear (takes_values a) _ _ _ _ (option_clear c again a (attached_value rest) h) (both_clear _ _ _ _ (react_clear c again a [] h) (then (reacted c a [] h))) e

bundle_step_clear : (c : List Rule) (again : Bool) (first : Option ℕ) (flags : Text) (skip : ℕ) (h : Held) (fails : Text → ℕ → Held → Kinds) (passes : Text → ℕ → Held → Bool)
    → ((t : Text) (k : ℕ) (g : Held) → Clear (fails t k g) (passes t k g)) → Clear (bundle_step_fault c again first flags skip h fails) (bundle_step_passes c again first flags skip h passes)
bundle_step_clear c again None flags skip h fails passes then e = refl
bundle_step_clear c again (Some x) flags zero h fails passes then e = short_clear c again (arg_by_short c x) _ h _ _ (then _ 0) e
bundle_step_clear c again (Some x) flags (suc skip) h fails passes then e = then _ skip h e

flags_clear : (c : List Rule) (again : Bool) (k : ℕ) (flags : Text) (skip : ℕ) (h : Held) → Clear (flags_fault c again k flags skip h) (flags_pass c again k flags skip h)
unfolding flags_fault flags_pass
flags_clear c again zero flags skip h e = refl
flags_clear c again (suc k) flags skip h e = bundle_step_clear c again (slice_get (chars flags) 0) flags skip h _ _ (flags_clear c again k) e

flag_word_clear : (c : List Rule) (again : Bool) (long : Option (Text × Option Text)) (word : Text) (h : Held) → Clear (flag_word_fault c again long word h) (flag_word_passes c again long word h)
flag_word_clear c again (Some p) word h e = long_clear c again (arg_by_long c p.0) p.1 h e
flag_word_clear c again None word h e = go (short_of word) e
  where
    go : (o : Option Text) → Clear (option_map_or (λ flags. bundle_fault c again flags h) o []) (option_map_or (λ flags. bundle_passes c again flags h) o true)
    go None e = refl
    go (Some flags) e = flags_clear c again (length flags) flags h.skip (record h { skip = 0 }) e

-- a step that is passed over
over_clear : (t : Bool) (b : Kinds) (q : Bool) → Clear b q → Clear (cond t [] b) (t || q)
over_clear true b q then e = refl
over_clear false b q then e = then e

other_clear : (s : Shape) (name : Option Text) (word : Text) (h : Held) → Clear (other_fault s name word h) (other_passes s name word h)
other_clear s (Some name) word h e = go (bytes_eq name (codes "help")) s.disable_help_subcommand _ _ e
  where
    go : (b d : Bool) (k : ErrorKind) (ks : Kinds) → Clear (cond (b && not d) (k ∷ ks) []) (not b || d)
    go true true k ks e = refl
    go true false k ks e = cc
    go false d k ks e = refl
other_clear s None word h e = over_clear (bytes_eq word (45 ∷ 45 ∷ [])) _ _ (flag_word_clear s.rules s.args_override_self (long_of word) word h) e

word_clear : (s : Shape) (names : Names) (is_trailing : Bool) (waiting : Waiting) (word : Text) (h : Held)
    → Clear (word_fault s names is_trailing waiting word h) (word_passes s names is_trailing waiting word h)
word_clear s names is_trailing waiting word h = over_clear is_trailing _ _ (other_clear s (subcommand_met names waiting word) word h)

positional_clear : (c : List Rule) (again : Bool) (a : Rule) (h : Held) → Clear (positional_fault c again a h) (positional_passes c again a h)
positional_clear c again a h = over_clear (is_pending a h.pending && takes_several a) _ _ (settle_clear c again h)

step_clear : (s : Shape) (position : ℕ) (h : Held) (step : Step) → Clear (step_fault s position h step) (step_passes s position h step)
step_clear s position h value e = go (arg_by_index s.rules position) e
  where
    stray : (leaf : Bool) (k l : ErrorKind) → Clear (cond leaf (k ∷ []) (k ∷ l ∷ [])) false
    stray true k l e = cc
    stray false k l e = cc

    go : (o : Option Rule) → Clear (option_map_or (λ a. positional_fault s.rules s.args_override_self a h) o (stray_fault s)) (option_map_or (λ a. positional_passes s.rules s.args_override_self a h) o false)
    go None e = stray s.is_leaf _ _ e
    go (Some a) e = positional_clear s.rules s.args_override_self a h e
step_clear s position h (next waiting) e = refl
step_clear s position h (trailing p) e = refl
step_clear s position h (subcommand name) e = refl

turn_clear : (s : Shape) (names : Names) (w : Walk) (word : Text) → Clear (turn_fault s names w word) (turn_passes s names w word)
turn_clear s names w word =
    let met = word_met s.rules names w.is_trailing w.waiting w.position word w.held in
    over_clear (is_some w.stopped) _ _ (both_clear _ _ _ _ (word_clear s names w.is_trailing w.waiting word w.held) (step_clear s w.position met.0 met.1))

walk_clear : (s : Shape) (names : Names) (w : Walk) (words : List Text) → Clear (walk_fault s names w words) (walk_passes s names w words)
unfolding walk_fault walk_passes
walk_clear s names w [] e = refl
walk_clear s names w (word ∷ rest) e = both_clear _ _ _ _ (turn_clear s names w word) (walk_clear s names (walked s.rules names w word) rest) e

-- ---- after the walk

none_wanted : (rows : List Row) (rules : List Rule) → list_any (λ a. a.required && not (is_given a.id rows)) rules ≡ false
    → list_all (λ a. not a.required || is_given a.id rows) rules ≡ true
none_wanted rows [] e = refl
none_wanted rows (a ∷ rest) e = go a.required (is_given a.id rows) _ e (none_wanted rows rest)
  where
    go : (r g more : Bool) → ((r && not g) || more) ≡ false → (more ≡ false → list_all (λ a. not a.required || is_given a.id rows) rest ≡ true)
        → ((not r || g) && list_all (λ a. not a.required || is_given a.id rows) rest) ≡ true
    go true true more e all = all e
    go true false more e all = absurd (true≢false e)
    go false g more e all = all e

check_clear : (s : Shape) (rows : List Row) (has : Bool) → has_free_rules s ≡ true → Clear (check_fault s rows has) (is_valid s rows has)
check_clear s rows has free e =
    rw free (go has s.arg_required_else_help (list_any (λ r. explicit_source r.source) rows) s.subcommand_required s.subcommand_negates_reqs _ _ (none_wanted rows s.rules) e)
  where
    go : (has help given sub negates wants all : Bool) → (wants ≡ false → all ≡ true)
        → Clear (check_kinds (not has && (help && not given)) (not has && sub) (not (negates && has) && wants))
        ((not help || (has || given)) && ((not sub || has) && ((negates && has) || all)))
    go has help given sub negates wants all gives e = grind arith

after_clear : (below settles defaults checks : Kinds) (p q r : Bool) → Clear settles p → q ≡ true → Clear checks r
    → Clear (or_else below (or_else settles (or_else defaults checks))) (p && (q && r))
after_clear [] [] [] checks p q r first second third e = rw (first refl, second) (third e)
after_clear [] [] (k ∷ ks) checks p q r first second third e = cc
after_clear [] (k ∷ ks) defaults checks p q r first second third e = cc
after_clear (k ∷ ks) settles defaults checks p q r first second third e = cc

level_clear : (s : Shape) (names : Names) (h : Held) (words : List Text) (has : Bool) (below : Kinds) → has_free_rules s ≡ true → list_all default_passes s.rules ≡ true
    → Clear (level_fault s names h words has below) (level_passes s names h words has)
level_clear s names h words has below free defaults e =
    let end = (walk s.rules names h words).held in
    both_clear _ _ _ _ (walk_clear s names (walk_from h) words)
    (after_clear below _ _ _ _ _ _ (settle_clear s.rules s.args_override_self end) defaults (check_clear s (finished s.rules end) has free)) e

-- the command line takes the words in which the parse finds no fault
pub words_taken : (words : List Text) → fault_of app words ≡ [] → takes app words ≡ true
words_taken words e =
    leaf_takes (built app) nothing_held words refl
    (level_clear (built app).top [] nothing_held words false [] refl refl (sym (leaf_fault (built app) nothing_held words refl) ∙ e))

-- an error other than out of memory comes only where the words aren't taken
pub words_untaken : (a : App) (words : List Text) (k : ErrorKind) → a ≡ app → (takes a words ≡ true → k ≡ kind.OutOfMemory) → (k ≡ kind.OutOfMemory → ⊥) → takes app words ≡ false
words_untaken a words k is passes other = go (takes app words) (λ e. other (passes (ap (λ b. takes b words) is ∙ e)))
  where
    go : (t : Bool) → (t ≡ true → ⊥) → t ≡ false
    go true h = absurd (h refl)
    go false h = refl
