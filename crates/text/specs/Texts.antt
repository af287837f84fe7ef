-- A text by its lines and their parts, and the text that lines and parts make. Assumes nothing.
use Rattle.std.specs.Prelude.{◌≡◌, ℕ, ◌-◌, ◌≤◌, Bool, cond, ◌&&◌, List, [], ◌∷◌, ◌++◌, map, length, Option, MatchOption, ◌==◌, ◌≢◌, nat_le, nat_lt, slice_index, count_by}
use Rattle.std.specs.Borrow.{Bor}
use Rattle.std.specs.List.{flat_map, AllByRecursion}

-- a byte is a number below 256: 59 is the semicolon, 10 the line feed
abbrev pub Bytes : Type 0
Bytes = List ℕ

-- a line by its parts
abbrev pub Parts : Type 0
Parts = List Bytes

-- at most 65535 bytes, the last of them a line feed; so never empty
abbrev pub is_text : Bytes → Bool
is_text bs = nat_le (length bs) 65535 && slice_index bs (length bs - 1) == 10

-- b in front of the first list, where there is one
abbrev pub on_first : ℕ → List Bytes → List Bytes
on_first b [] = []
on_first b (l ∷ ls) = (b ∷ l) ∷ ls

-- the lists of bytes between the bytes s; `end` stands for what is left where no s follows
abbrev pub between : ℕ → List Bytes → Bytes → List Bytes
between s end [] = end
between s end (b ∷ bs) = cond (b == s) ([] ∷ between s end bs) (on_first b (between s end bs))

-- the lines of a text, without the line feeds that end them
abbrev pub lines_of : Bytes → List Bytes
lines_of text = between 10 [] text

-- the parts of a line, without the semicolons between them; an empty line is one empty part
abbrev pub parts_of : Bytes → Parts
parts_of line = between 59 ([] ∷ []) line

-- a text by its lines, each by its parts
abbrev pub parts_by_line : Bytes → List Parts
parts_by_line text = map parts_of (lines_of text)

-- the byte behind a part: a semicolon if more parts follow, else a line feed
abbrev pub ending : Bool → ℕ
ending more = cond more 59 10

-- a part and its ending
abbrev pub part_text : Bytes → Bool → Bytes
part_text part more = part ++ (ending more ∷ [])

-- a line's text: its parts joined by semicolons and ended by a line feed
abbrev pub line_text : Parts → Bytes
line_text [] = []
line_text (part ∷ parts) = part_text part (nat_lt 0 (length parts)) ++ line_text parts

-- the text of these lines, one after the other
abbrev pub text_of : List Parts → Bytes
text_of lines = flat_map line_text lines

-- no byte is s
abbrev pub Lacks : ℕ → Bytes → Type 0
Lacks s bs = AllByRecursion (λ b. b ≢ s) bs

-- a part that can be told from its neighbours: no semicolon and no line feed in it
abbrev pub Plain : Bytes → Type 0
Plain part = Lacks 59 part × Lacks 10 part

-- a line of such parts, one at least
abbrev pub PlainLine : Parts → Type 0
PlainLine parts = (1 ≤ length parts) × AllByRecursion Plain parts

-- how many bytes are line feeds
abbrev pub line_feeds : Bytes → ℕ
line_feeds bs = count_by (λ b. b == 10) bs

-- the bytes before the first s and those behind it, or nothing where there is no s
abbrev pub Cuts : ℕ → Bytes → Option (Bor Bytes × Bor Bytes) → Type 0
Cuts s bs r = MatchOption r (Lacks s bs) (λ p. (bs ≡ p.0.now ++ (s ∷ p.1.now)) × Lacks s p.0.now)
