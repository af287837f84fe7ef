-- The mark of a line, and how lines in order are judged, by two meanings. Assumes nothing.
use Rattle.std.proofs.Common.{◌≡◌, ℕ, ◌+◌, ◌-◌, ◌≤◌, Bool, true, false, cond, Some, None, Option, sym, ap, ◌∙◌, subst, ⊎_elim, arith, MatchOption}
use Rattle.std.proofs.lemmas.Bool.{both_ways, cases_order}
use Rattle.eurocode.specs.declared.Situation.{Situation}
use Rattle.checklist.specs.Firsts.{Passes, FailsFirst, first_failed}
use Rattle.checklist.proofs.Failing.{first_law}
use Rattle.book.specs.Meaning.{Meaning, Above, IsMark, JudgedAbove, or_zero, passes, figure_of, meets_of, mark_of, judged}

-- the first failed of the tests of all rules is the mark
pub mark_is : (n : ℕ) (met : ℕ → Bool) → IsMark n met (or_zero (first_failed (λ i. met (i + 1)) 0 n))
mark_is n met = go (first_failed (λ i. met (i + 1)) 0 n) (first_law (λ i. met (i + 1)) 0 n)
  where
    at : (r : ℕ) → 1 ≤ r → met (r - 1 + 1) ≡ met r
    at r h = let e : r - 1 + 1 ≡ r = omega arith in ap met e

    go : (o : Option ℕ) → MatchOption o (Passes (λ i. met (i + 1)) 0 n) (FailsFirst (λ i. met (i + 1)) 0 n) → IsMark n met (or_zero o)
    go None all =
        record {
          none = λ _ r h k. sym (at r h) ∙ all (r - 1) (omega arith) (omega arith);
          broken = λ h. absurd (omega arith);
          earliest = λ r h k. absurd (omega arith);
        }
    go (Some f) first =
        record {
          none = λ e. absurd (omega (arith, first.from));
          broken = λ h. (omega (arith, first.upto), sym (at f h) ∙ first.fails);
          earliest = λ r h k. sym (at r h) ∙ first.before (r - 1) (omega arith) (omega arith);
        }

-- where every rule is met, the mark is 0
all_met : (n : ℕ) (met : ℕ → Bool) (k : ℕ) → ((r : ℕ) → met r ≡ true) → IsMark n met k → k ≡ 0
all_met n met k all is = ⊎_elim (λ e. e) (⊎_elim (λ l. absurd (omega arith)) (λ g. absurd (both_ways (met k) (is.broken g).1 (all k)))) (cases_order k 0)

-- where each rule that is met by the first is met by the second, the first breaks no later rule
marks_order : (n : ℕ) (met met' : ℕ → Bool) (k k' : ℕ) → ((r : ℕ) → 1 ≤ r → r ≤ n → met r ≡ true → met' r ≡ true) → IsMark n met k → IsMark n met' k' → 1 ≤ k' → (1 ≤ k) × (k ≤ k')
marks_order n met met' k k' kept is is' h = (some, ⊎_elim (λ e. omega arith) (⊎_elim (λ l. omega arith) (λ g. absurd (clash (is.earliest k' h g)))) (cases_order k k'))
  where
    clash : met k' ≡ true → ⊥
    clash t = both_ways (met' k') (is'.broken h).1 (kept k' h (is'.broken h).0 t)

    some : 1 ≤ k
    some = ⊎_elim (λ e. absurd (clash (is.none e k' h (is'.broken h).0))) (⊎_elim (λ l. absurd (omega arith)) (λ g. g)) (cases_order k 0)

module _ {L : Type 0} (m : Meaning L) (s : Situation) (l : L) where
  mark_right : IsMark m.rules (λ r. meets_of m s r l) (mark_of m s l)
  mark_right = mark_is m.rules (λ r. meets_of m s r l)

  -- a line that fails its test
  pub judged_failed : passes m s l ≡ false → judged m s l ≡ (0, 0)
  judged_failed e =
      let figure : figure_of m s l ≡ 0 = ap (λ b. cond b (m.figure s l) 0) e in
      let mark : mark_of m s l ≡ 0 = all_met m.rules (λ r. meets_of m s r l) (mark_of m s l) (λ r. ap (λ b. cond b (m.meets s r l) true) e) mark_right in
      λ i. (figure i, mark i)

  -- a line that passes it
  pub figure_passed : passes m s l ≡ true → figure_of m s l ≡ m.figure s l
  figure_passed e = ap (λ b. cond b (m.figure s l) 0) e

  pub meets_passed : passes m s l ≡ true → (r : ℕ) → meets_of m s r l ≡ m.meets s r l
  meets_passed e r = ap (λ b. cond b (m.meets s r l) true) e

  -- what is right of a judgement
  pub right : (k : ℕ) → k ≡ mark_of m s l → IsMark m.rules (λ r. meets_of m s r l) k
  right k e = subst (IsMark m.rules (λ r. meets_of m s r l)) (sym e) mark_right

-- lines in order, by two meanings of as many rules
pub judged_above : {L : Type 0} (m : Meaning L) (s : Situation) (p : L) (n : Meaning L) (t : Situation) (q : L) → m.rules ≡ n.rules → passes m s p ≡ true → passes n t q ≡ true → Above m s p n t q → JudgedAbove (judged m s p) (judged n t q)
judged_above m s p n t q same pp pq above =
    record {
      figures = omega (arith, above.figures, figure_passed m s p pp, figure_passed n t q pq);
      marks = marks_order n.rules (λ r. meets_of m s r p) (λ r. meets_of n t r q) (mark_of m s p) (mark_of n t q)
          (λ r h k e. meets_passed n t q pq r ∙ above.rules r h k (sym (meets_passed m s p pp r) ∙ e))
          (subst (λ k. IsMark k (λ r. meets_of m s r p) (mark_of m s p)) same (mark_right m s p)) (mark_right n t q);
    }
