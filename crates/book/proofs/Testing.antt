-- What the test of a line says. Assumes nothing.
use Rattle.std.proofs.Common.{◌≡◌, ℕ, Bool, true, false, List, length, is_ok, Some, None, Option, refl, ap, MatchOption}
use Rattle.std.proofs.lemmas.Bool.{both_ways}
use Rattle.checklist.specs.Firsts.{Passes, FailsFirst, first_failed, test_at}
use Rattle.checklist.proofs.Failing.{first_law}
use Rattle.book.specs.Fields.{tested_as, tested, TestSays}

module _ (fields : List Bool) where
  says_as : (o : Option ℕ) (agree borne : Bool) → MatchOption o (Passes (test_at fields) 0 (length fields)) (FailsFirst (test_at fields) 0 (length fields)) → TestSays fields agree borne (tested_as o agree borne)
  says_as (Some f) agree borne first = first
  says_as None true true all = (all, refl, refl)
  says_as None true false all = (all, refl, refl)
  says_as None false borne all = (all, refl)

  pub test_says : (agree borne : Bool) → TestSays fields agree borne (tested fields agree borne)
  test_says agree borne = says_as (first_failed (test_at fields) 0 (length fields)) agree borne (first_law (test_at fields) 0 (length fields))

  passed_as : (o : Option ℕ) (agree borne : Bool) → MatchOption o (Passes (test_at fields) 0 (length fields)) (FailsFirst (test_at fields) 0 (length fields)) → is_ok (tested_as o agree borne) ≡ true → Passes (test_at fields) 0 (length fields) × (agree ≡ true) × (borne ≡ true)
  passed_as (Some f) agree borne first e = absurd (both_ways false refl e)
  passed_as None true true all e = (all, refl, refl)
  passed_as None true false all e = absurd (both_ways false refl e)
  passed_as None false borne all e = absurd (both_ways false refl e)

  -- what a line that passes keeps to
  pub passed : (agree borne : Bool) → is_ok (tested fields agree borne) ≡ true → Passes (test_at fields) 0 (length fields) × (agree ≡ true) × (borne ≡ true)
  passed agree borne e = passed_as (first_failed (test_at fields) 0 (length fields)) agree borne (first_law (test_at fields) 0 (length fields)) e

-- where one stress can be borne if another can, the test that passes by the one passes by the other
pub passes_on : (fields : List Bool) (agree borne borne' : Bool) → (borne ≡ true → borne' ≡ true) → is_ok (tested fields agree borne) ≡ true → is_ok (tested fields agree borne') ≡ true
passes_on fields agree borne borne' h = go (first_failed (test_at fields) 0 (length fields)) agree borne borne' h
  where
    go : (o : Option ℕ) (a b b' : Bool) → (b ≡ true → b' ≡ true) → is_ok (tested_as o a b) ≡ true → is_ok (tested_as o a b') ≡ true
    go (Some f) a b b' h e = e
    go None true true b' h e = ap (λ x. is_ok (tested_as None true x)) (h refl)
    go None true false b' h e = absurd (both_ways false refl e)
    go None false b b' h e = e
