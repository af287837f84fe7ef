-- The refusals: the number of each and the two numbers beside it, and how one learns where it was met. Assumes nothing.
use Rattle.std.specs.Prelude.{ℕ, Ok, Err, Result}
use Rattle.refusal.specs.declared.Refusal.{Refusal}
use Rattle.refusal.specs.declared.Refusal.TheVariants.{Rows, Place, Situation, Range, Contradiction, Overstressed, Unfit, Full, Text, Name, Missing, Form, Count, AnnexRange, Falling, AnnexLines, Buffer}

-- the refusal's number; then, mostly, the text line and the place or field in it
abbrev pub numbers_of : Refusal → ℕ × ℕ × ℕ
numbers_of Rows = (1, 0, 0)
numbers_of Place = (2, 0, 0)
numbers_of Situation = (3, 0, 0)
numbers_of (Range line field) = (4, line, field)
numbers_of (Contradiction line) = (5, line, 0)
numbers_of (Overstressed line) = (6, line, 0)
numbers_of (Unfit place) = (7, 0, place)
numbers_of Full = (8, 0, 0)
numbers_of Text = (9, 0, 0)
numbers_of (Name place) = (10, 1, place)
numbers_of Missing = (10, 1, 0)
numbers_of (Form line place) = (11, line, place)
numbers_of (Count line) = (12, line, 0)
numbers_of (AnnexRange field) = (13, 2, field)
numbers_of (Falling field) = (14, 2, field)
numbers_of AnnexLines = (15, 0, 0)
numbers_of (Buffer needed) = (16, 0, needed)

-- met in the text line n: told by the refusals that a line of values can meet, and no matter to the others
abbrev pub at_line : ℕ → Refusal → Refusal
at_line n (Range line field) = Range n field
at_line n (Contradiction line) = Contradiction n
at_line n (Overstressed line) = Overstressed n
at_line n (Form line place) = Form n place
at_line n (Count line) = Count n
at_line n Rows = Rows
at_line n Place = Place
at_line n Situation = Situation
at_line n (Unfit place) = Unfit place
at_line n Full = Full
at_line n Text = Text
at_line n (Name place) = Name place
at_line n Missing = Missing
at_line n (AnnexRange field) = AnnexRange field
at_line n (Falling field) = Falling field
at_line n AnnexLines = AnnexLines
at_line n (Buffer needed) = Buffer needed

-- met at the place n of a line: only a value that is no number has a place of its own
abbrev pub at_place : ℕ → Refusal → Refusal
at_place n (Form line place) = Form line n
at_place n Rows = Rows
at_place n Place = Place
at_place n Situation = Situation
at_place n (Range line field) = Range line field
at_place n (Contradiction line) = Contradiction line
at_place n (Overstressed line) = Overstressed line
at_place n (Unfit place) = Unfit place
at_place n Full = Full
at_place n Text = Text
at_place n (Name place) = Name place
at_place n Missing = Missing
at_place n (Count line) = Count line
at_place n (AnnexRange field) = AnnexRange field
at_place n (Falling field) = Falling field
at_place n AnnexLines = AnnexLines
at_place n (Buffer needed) = Buffer needed

-- r with its value changed by f
abbrev pub on_ok : {X Y E : Type 0} → (X → Y) → Result X E → Result Y E
on_ok f (Ok x) = Ok (f x)
on_ok f (Err e) = Err e

-- r with its error changed by f
abbrev pub on_err : {X E F : Type 0} → (E → F) → Result X E → Result X F
on_err f (Ok x) = Ok x
on_err f (Err e) = Err (f e)
