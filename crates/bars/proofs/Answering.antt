-- The answers of the bar book, from what its functions compute. Assumes nothing.
use Rattle.std.proofs.Common.{◌≡◌, ℕ, suc, ◌+◌, ◌-◌, ◌≤◌, Bool, true, false, cond, ◌∷◌, get_or, is_ok, Some, None, Option, unwrap_or, sym, refl, ap, ◌∙◌, ap₂, arith}
use Rattle.std.proofs.lemmas.Bool.{cond-true}
use Rattle.std.proofs.lemmas.Option.{cond_some}
use Rattle.eurocode.specs.declared.Situation.{Situation}
use Rattle.annex.specs.declared.numbers.Numbers.{Numbers}
use Rattle.anchorage.specs.declared.Bar.{Bar}
use Rattle.anchorage.specs.declared.Detail.{Detail}
use Rattle.anchorage.specs.Lengths.{figure}
use Rattle.anchorage.specs.Rules.{rules}
use Rattle.checklist.specs.Firsts.{first_failed, test_at}
use Rattle.book.specs.Meaning.{or_zero, figure_of, meets_of, mark_of}
use Rattle.bars.specs.declared.lines.BarLine.{BarLine}
use Rattle.bars.specs.Details.{detail_of, bar_of}
use Rattle.bars.specs.Tests.{test_of}
use Rattle.bars.specs.Meaning.{bar_figure, bar_meets, bar_meaning}

or_zero_is : (o : Option ℕ) → unwrap_or o 0 ≡ or_zero o
or_zero_is None = refl
or_zero_is (Some k) = refl

module _ (n : Numbers) (s : Situation) (l : BarLine) where
  -- of a line that passes, with its detail d and its bar b
  module _ (d : Detail) (b : Bar) (ed : d ≡ detail_of l) (eb : Some b ≡ cond (is_ok (test_of n s l)) (Some (bar_of n s l)) None) where
    passed : (is_ok (test_of n s l) ≡ true) × (bar_of n s l ≡ b)
    passed = cond_some (is_ok (test_of n s l)) (bar_of n s l) b (sym eb)

    pub figure_answer : figure d b ≡ figure_of (bar_meaning n) s l
    unfolding bar_figure
    figure_answer = ap₂ figure ed (sym passed.1) ∙ sym (cond-true (is_ok (test_of n s l)) (bar_figure n s l) 0 passed.0)

    tests_are : rules d b ≡ rules (detail_of l) (bar_of n s l)
    tests_are = ap₂ rules ed (sym passed.1)

    pub mark_answer : unwrap_or (first_failed (test_at (rules d b)) 0 8) 0 ≡ mark_of (bar_meaning n) s l
    unfolding bar_meets
    mark_answer =
        or_zero_is (first_failed (test_at (rules d b)) 0 8) ∙ ap (λ ts. or_zero (first_failed (test_at ts) 0 8)) tests_are
        ∙ ap (λ t. or_zero (first_failed (λ i. cond t (bar_meets n s (i + 1) l) true) 0 8)) (sym passed.0)

    pub meets_answer : (r : ℕ) → 1 ≤ r → get_or (rules d b) (r - 1) true ≡ meets_of (bar_meaning n) s r l
    unfolding bar_meets
    meets_answer r h =
        let e : suc (r - 1) ≡ r = omega arith in
        ap (λ ts. get_or ts (r - 1) true) tests_are ∙ ap (λ k. get_or (true ∷ rules (detail_of l) (bar_of n s l)) k true) e
        ∙ sym (cond-true (is_ok (test_of n s l)) (bar_meets n s r l) true passed.0)

  -- there is no rule 0, and none past the eighth
  pub meets_none : (r : ℕ) → get_or (true ∷ rules (detail_of l) (bar_of n s l)) r true ≡ true → true ≡ meets_of (bar_meaning n) s r l
  unfolding bar_meets
  meets_none r e = sym (go (is_ok (test_of n s l)))
    where
      go : (t : Bool) → cond t (get_or (true ∷ rules (detail_of l) (bar_of n s l)) r true) true ≡ true
      go true = e
      go false = refl
