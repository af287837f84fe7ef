-- What it is for a text to say lines of numbers, without a word on how it is read. Assumes nothing.
use Rattle.std.specs.Prelude.{◌≡◌, ℕ, ◌<◌, ◌≤◌, List, [], ◌∷◌, length, Result, MatchResult, slice_index, slice_index_or}
use Rattle.refusal.specs.declared.Refusal.{Refusal}
use Rattle.refusal.specs.Refusals.{on_ok}
use Rattle.text.specs.Texts.{Bytes, Parts, text_of}
use Rattle.text.specs.Values.{Writes}
use Rattle.reader.specs.Lines.{read_of}
use Rattle.reader.specs.Names.{EachOnce}

-- a line of values under the header: as many parts, and each field holds the number that is written under its name
pub record Under (names : List Bytes) (header : Parts) (parts : Parts) (line : List ℕ) : Type 0 where
  pub parts_count : length parts ≡ length header
  pub fields_count : length line ≡ length names
  pub written : (f k : ℕ) → f < length names → k < length header → slice_index_or header k [] ≡ slice_index_or names f [] → Writes (slice_index_or parts k []) (slice_index line f)

-- line by line
abbrev pub AllUnder : List Bytes → Parts → List Parts → List (List ℕ) → Type 0
AllUnder names header [] [] = Unit {0}
AllUnder names header [] (line ∷ lines) = ⊥
AllUnder names header (parts ∷ rest) [] = ⊥
AllUnder names header (parts ∷ rest) (line ∷ lines) = Under names header parts line × AllUnder names header rest lines

-- the text says these lines of numbers, by field: at most 65535 bytes; parts joined by semicolons, every line ended by
-- a line feed; first a line of all the names, each once, in some order; then for each line one of written numbers
pub record Says (names : List Bytes) (text : Bytes) (lines : List (List ℕ)) : Type 0 where
  pub header : Parts
  pub rest : List Parts
  pub short : length text ≤ 65535
  pub joined : text_of (header ∷ rest) ≡ text
  pub names_once : EachOnce names header
  pub values : AllUnder names header rest lines

-- a text is read exactly where it says something: as many lines as it then says, or else it says nothing
abbrev pub Counts : List Bytes → Bytes → Result ℕ Refusal → Type 0
Counts names text r = MatchResult r (λ n. (lines : List (List ℕ)) × Says names text lines × (length lines ≡ n)) (λ _. (lines : List (List ℕ)) → Says names text lines → ⊥)

-- what `check` answers: how many lines are read, or what is refused first; and that is as the text says
pub record Checks (names : List Bytes) (text : Bytes) (r : Result ℕ Refusal) : Type 0 where
  pub count : r ≡ on_ok length (read_of names text)
  pub says : Counts names text r
