-- What a header and a line of values hold. Assumes nothing.
use Rattle.std.specs.Prelude.{ℕ, List, take}
use Rattle.reader.specs.declared.headers.Header.{Header}
use Rattle.reader.specs.declared.headers.Fields.{Fields}

-- where each field's name stands in the first line, counted from 1
abbrev pub places_in : Header → List ℕ
places_in h = take h.fields h.places

-- the numbers of a line, in the order of its fields
abbrev pub numbers_in : Fields → List ℕ
numbers_in line = take line.count line.numbers
