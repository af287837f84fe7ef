-- The words that ask for pages. Assumes nothing.
use Rattle.std.specs.Prelude.{ℕ, List, cond, codes}
use Rattle.std.specs.Str.{bytes_eq}

-- how many words a page takes behind its name: the tables none, a curve or a picture a diameter, a strength and a bond
abbrev pub taken : List ℕ → ℕ
taken name = cond (bytes_eq name (codes "tables")) 0 3
