-- The lines of values under a header, and a whole text, as numbers by field or by what is refused first. Assumes nothing.
use Rattle.std.specs.Prelude.{ℕ, ◌+◌, ◌-◌, cond, List, [], ◌∷◌, map, length, Some, None, Ok, Err, Option, Result, ◌==◌, slice_index}
use Rattle.refusal.specs.declared.Refusal.{Refusal}
use Rattle.refusal.specs.declared.Refusal.TheVariants.{Text, Form, Count}
use Rattle.refusal.specs.Refusals.{at_line, on_err, on_ok}
use Rattle.text.specs.Texts.{Bytes, Parts, is_text, parts_by_line}
use Rattle.text.specs.Tokens.{this_line, later_lines}
use Rattle.text.specs.Values.{value_of}
use Rattle.reader.specs.Names.{places_of}

-- the value of a part in front of the others, or that it is none
abbrev pub value_then : Option ℕ → ℕ → Result (List ℕ) Refusal → Result (List ℕ) Refusal
value_then None place others = Err (Form 0 place)
value_then (Some v) place others = on_ok (λ vs. v ∷ vs) others

-- the values of the parts, the first of which stands at this place; or the first that is none
abbrev pub values_from : ℕ → Parts → Result (List ℕ) Refusal
values_from place [] = Ok []
values_from place (p ∷ ps) = value_then (value_of p) place (values_from (place + 1) ps)

-- as many values as fields, in the text's order; the count is looked at first
abbrev pub values_of : ℕ → Parts → Result (List ℕ) Refusal
values_of fields parts = cond (length parts == fields) (values_from 1 parts) (Err (Count 0))

-- the numbers by field, from those by place
abbrev pub by_field : List ℕ → List ℕ → List ℕ
by_field places values = map (λ p. slice_index values (p - 1)) places

-- a line of values by field, the fields' names standing at these places
abbrev pub line_of : List ℕ → Parts → Result (List ℕ) Refusal
line_of places parts = on_ok (by_field places) (values_of (length places) parts)

abbrev pub line_then : Result (List ℕ) Refusal → Result (List (List ℕ)) Refusal → Result (List (List ℕ)) Refusal
line_then (Ok line) others = on_ok (λ lines. line ∷ lines) others
line_then (Err e) others = Err e

-- the lines of values, the first of which is this line of the text; or the first refusal, with its text line
abbrev pub lines_from : List ℕ → ℕ → List Parts → Result (List (List ℕ)) Refusal
lines_from places k [] = Ok []
lines_from places k (parts ∷ lines) = line_then (on_err (at_line k) (line_of places parts)) (lines_from places (k + 1) lines)

-- where the names stand in the first line of a text
abbrev pub header_of : List Bytes → Bytes → Result (List ℕ) Refusal
header_of names text = cond (is_text text) (places_of names (this_line (parts_by_line text))) (Err Text)

abbrev pub lines_under : Result (List ℕ) Refusal → List Parts → Result (List (List ℕ)) Refusal
lines_under (Ok places) lines = lines_from places 2 lines
lines_under (Err e) lines = Err e

-- all that a text says: its lines of values by field, or what is refused first
abbrev pub read_of : List Bytes → Bytes → Result (List (List ℕ)) Refusal
read_of names text = lines_under (header_of names text) (later_lines (parts_by_line text))
