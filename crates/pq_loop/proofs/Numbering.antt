-- The numbers of a round, summed over its results.
use Rattle.std.proofs.Common.{◌≡◌, ℕ, ◌+◌, ◌*◌, ◌%◌, ◌≤◌, cond, List, [], ◌∷◌, length, drop, refl, sym, ap, ◌∙◌, arith}
use Rattle.std.proofs.lemmas.List.{drop_all}
use Rattle.pq_oracle.specs.Outcomes.{WorkedView}
use Rattle.pq_method.specs.Round.{improved_of, phases_of}
use Rattle.pq_loop.specs.Segments.{works_of, AreNumbersOf}

-- how many of the results are improved
abbrev pub improved_in : List WorkedView → ℕ
improved_in [] = 0
improved_in (worked ∷ results) = cond worked.answer.improved 1 0 + improved_in results

-- by how many eighths they turn together
abbrev pub phases_in : List WorkedView → ℕ
phases_in [] = 0
phases_in (worked ∷ results) = worked.answer.phase + phases_in results

-- the works have the same numbers, whatever their gaps
pub improved_works : (reach count : ℕ) (gaps : List ℕ) (results : List WorkedView) → length gaps ≡ length results →
    improved_of (works_of reach count gaps results) ≡ improved_in results
improved_works reach count [] [] same = refl
improved_works reach count [] (worked ∷ results) same = absurd (omega arith)
improved_works reach count (gap ∷ gaps) [] same = absurd (omega arith)
improved_works reach count (gap ∷ gaps) (worked ∷ results) same =
    ap (λ n. cond worked.answer.improved 1 0 + n) (improved_works reach count gaps results (omega arith))

pub phases_works : (reach count : ℕ) (gaps : List ℕ) (results : List WorkedView) → length gaps ≡ length results →
    phases_of (works_of reach count gaps results) ≡ phases_in results
phases_works reach count [] [] same = refl
phases_works reach count [] (worked ∷ results) same = absurd (omega arith)
phases_works reach count (gap ∷ gaps) [] same = absurd (omega arith)
phases_works reach count (gap ∷ gaps) (worked ∷ results) same =
    ap (λ n. worked.answer.phase + n) (phases_works reach count gaps results (omega arith))

-- the numbers of the first results, which are not too great, with those of the others
pub record SumsUpTo (results : List WorkedView) (index improved phases : ℕ) : Type 0 where
  pub improved_so_far : improved + improved_in (drop index results) ≡ improved_in results
  pub phases_so_far : phases + phases_in (drop index results) ≡ phases_in results
  pub few : improved ≤ index
  pub low : phases ≤ 255 * index

-- at the end they are those of all
pub sums_all : (results : List WorkedView) (index improved removed phases : ℕ) → length results ≤ index → SumsUpTo results index improved phases →
    AreNumbersOf results (record { selected = length results; improved = improved; removed = removed; phase = phases % 8 })
sums_all results index improved removed phases end sums = record {
  selected_is = refl;
  improved_is = λ reach count gaps same. all_improved ∙ sym (improved_works reach count gaps results same);
  phase_is = λ reach count gaps same. ap (λ n. n % 8) (all_phases ∙ sym (phases_works reach count gaps results same));
}
  where
    all_improved : improved ≡ improved_in results
    all_improved = omega (arith, sums.improved_so_far, ap improved_in (drop_all index results end))

    all_phases : phases ≡ phases_in results
    all_phases = omega (arith, sums.phases_so_far, ap phases_in (drop_all index results end))
