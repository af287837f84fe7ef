-- The text that a program prints of an annex. Assumes nothing.
use Rattle.std.specs.Prelude.{ℕ, List, [], ◌∷◌, map, length, Ok, Err, codes, decimal, Result, slice_index, slice_index_or}
use Rattle.std.specs.List.{range_with_len}
use Rattle.refusal.specs.declared.Refusal.{Refusal}
use Rattle.refusal.specs.Refusals.{numbers_of}
use Rattle.text.specs.Texts.{Bytes, Parts, text_of}
use Rattle.annex.specs.declared.numbers.Numbers.{Numbers}
use Rattle.annex.specs.Numbers.{annex_names, fields_of}
use Rattle.annex.specs.Laws.{Ranged}

-- the line of a field, by its place from 0: its name and its number
abbrev pub field_line : Numbers → ℕ → Parts
field_line n i = slice_index_or annex_names i [] ∷ decimal (slice_index (fields_of n) i) ∷ []

-- the lines of k fields from the place i on
abbrev pub field_lines : Numbers → ℕ → ℕ → List Parts
field_lines n i k = map (field_line n) (range_with_len i k)

-- the numbers, a line for each in the order of the fields
unfoldable pub numbers_text : Numbers → Bytes
numbers_text n = text_of (field_lines n 0 (length annex_names))

-- a refusal: the names of its three numbers, and below them the numbers
unfoldable pub refusal_text : Refusal → Bytes
refusal_text r = text_of ((codes "refused" ∷ codes "line" ∷ codes "place" ∷ []) ∷ (decimal (numbers_of r).0 ∷ decimal (numbers_of r).1 ∷ decimal (numbers_of r).2 ∷ []) ∷ [])

-- the report of what came out: the numbers that an annex means, or why it was refused
abbrev pub report_of : Result Numbers Refusal → Bytes
report_of (Ok n) = numbers_text n
report_of (Err r) = refusal_text r

-- what can come out: numbers in their ranges, or any refusal
abbrev pub Reportable : Result Numbers Refusal → Type 0
Reportable (Ok n) = Ranged (fields_of n)
Reportable (Err r) = Unit {0}
