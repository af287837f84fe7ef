-- The test of a line: each field in order, then how the fields agree, then the stress. Assumes nothing.
use Rattle.std.specs.Prelude.{◌≡◌, ℕ, Bool, true, false, cond, List, length, Some, None, Ok, Err, Option, Result}
use Rattle.checklist.specs.Firsts.{Passes, FailsFirst, first_failed, test_at}
use Rattle.book.specs.declared.faults.LineFault.{LineFault}
use Rattle.book.specs.declared.faults.LineFault.TheVariants.{Range, Contradiction, Overstressed}

-- the test of a line by three: its fields, whether they agree, and whether the stress can be borne
abbrev pub tested_as : Option ℕ → Bool → Bool → Result (Unit {0}) LineFault
tested_as (Some field) agree borne = Err (Range field)
tested_as None agree borne = cond agree (cond borne (Ok tt) (Err Overstressed)) (Err Contradiction)

abbrev pub tested : List Bool → Bool → Bool → Result (Unit {0}) LineFault
tested fields agree borne = tested_as (first_failed (test_at fields) 0 (length fields)) agree borne

-- What the test says. A line passes where every field admits its number, the fields agree and the stress can be borne. Else
-- it is told the first field that does not admit its number; where all do, that they contradict each other; where they
-- agree too, that it is overstressed.
abbrev pub TestSays : List Bool → Bool → Bool → Result (Unit {0}) LineFault → Type 0
TestSays fields agree borne (Ok _) = Passes (test_at fields) 0 (length fields) × (agree ≡ true) × (borne ≡ true)
TestSays fields agree borne (Err (Range field)) = FailsFirst (test_at fields) 0 (length fields) field
TestSays fields agree borne (Err Contradiction) = Passes (test_at fields) 0 (length fields) × (agree ≡ false)
TestSays fields agree borne (Err Overstressed) = Passes (test_at fields) 0 (length fields) × (agree ≡ true) × (borne ≡ false)
