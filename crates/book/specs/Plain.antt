-- A book without rules, which tries the trait: a line is a length, always passes, and its figure is that length.
-- Assumes nothing.
use Rattle.std.specs.Prelude.{ℕ, ◌≤◌, true, Ok}
use Rattle.measure.specs.Fractions.{whole}
use Rattle.book.specs.Meaning.{Meaning}

abbrev pub plain : Meaning ℕ
plain = record { rules = 0; AsksNoLess = λ p q. q ≤ p; test = λ s l. Ok tt; meets = λ s r l. true; exact = λ s l. whole l; figure = λ s l. l }
