-- What a lexer has still to give, and what one step takes of it. Assumes nothing.
use Rattle.std.specs.Prelude.{◌≡◌, Bool, true, false, cond, List, [], ◌∷◌, Some, None, Option}
use Rattle.text.specs.declared.tokens.Token.{Token}
use Rattle.text.specs.declared.tokens.Token.TheVariants.{Name, Value, LineEnd}
use Rattle.text.specs.declared.tokens.Position.{Position}
use Rattle.text.specs.declared.tokens.Position.TheVariants as position
use Rattle.text.specs.declared.tokens.Lexer.{Lexer}
use Rattle.text.specs.Texts.{Bytes, Parts, parts_of, parts_by_line}

-- what a token says: the bytes that it borrows, whether they are a name or a value, or that a line ends
pub data Lexeme : Type 0 where
  name : Bytes → Lexeme
  value : Bytes → Lexeme
  line_end : Lexeme

abbrev pub lexeme : Token → Lexeme
lexeme (Name part) = name part.now
lexeme (Value part) = value part.now
lexeme LineEnd = line_end

-- the parts left of the line in which a lexer stands
abbrev pub parts_behind : Position → Parts
parts_behind position.LineStart = []
parts_behind (position.Part line) = parts_of line.now
parts_behind position.LineEnd = []

-- the lexer stands in a line, before a part or behind the last
abbrev pub in_line : Position → Bool
in_line position.LineStart = false
in_line (position.Part line) = true
in_line position.LineEnd = true

-- the lines from a position on, these being the ones not yet begun
abbrev pub lines_from : Position → List Parts → List Parts
lines_from position.LineStart lines = lines
lines_from (position.Part line) lines = parts_of line.now ∷ lines
lines_from position.LineEnd lines = [] ∷ lines

-- what a lexer has still to give: the lines left, the first of them by the parts that are left of it
abbrev pub ahead : Lexer → List Parts
ahead l = lines_from l.position (parts_by_line l.rest.now)

-- the parts left of this line
abbrev pub this_line : List Parts → Parts
this_line [] = []
this_line (parts ∷ lines) = parts

-- the lines behind this one
abbrev pub later_lines : List Parts → List Parts
later_lines [] = []
later_lines (parts ∷ lines) = lines

-- the next part of this line
abbrev pub next_part : List Parts → Option Bytes
next_part [] = None
next_part ([] ∷ lines) = None
next_part ((part ∷ parts) ∷ lines) = Some part

-- what is ahead once the next token is taken, a part or the line's end
abbrev pub after_next : List Parts → List Parts
after_next [] = []
after_next ([] ∷ lines) = lines
after_next ((part ∷ parts) ∷ lines) = parts ∷ lines

-- the next token: a name on the first line, a value on a later one, or the line's end
abbrev pub next_lexeme : Bool → List Parts → Option Lexeme
next_lexeme in_names [] = None
next_lexeme in_names ([] ∷ lines) = Some line_end
next_lexeme in_names ((part ∷ parts) ∷ lines) = Some (cond in_names (name part) (value part))

-- the first line is over once its end is passed
abbrev pub still_in_names : Bool → List Parts → Bool
still_in_names in_names [] = in_names
still_in_names in_names ([] ∷ lines) = false
still_in_names in_names ((part ∷ parts) ∷ lines) = in_names

-- with these lines ahead, on the first line or not, the token t comes next and leaves the lexer as l
pub record Gives (in_names : Bool) (lines : List Parts) (t : Option Lexeme) (l : Lexer) : Type 0 where
  pub token : t ≡ next_lexeme in_names lines
  pub after : ahead l ≡ after_next lines
  pub names : l.in_names ≡ still_in_names in_names lines
