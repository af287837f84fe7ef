use Rattle.std.proofs.Common.{◌≡◌, ℕ, ◌<◌, ◌≤◌, true}
use Rattle.book.specs.Meaning.{meets_of}
use Rattle.book.proofs.books.Book.mark.Given as goal

-- the rules before this one are met
abbrev pub invariant-loop-rule : goal.invariant-loop-rule
invariant-loop-rule g l = (r : ℕ) → 1 ≤ r → r < l.rule → meets_of (g.Self.Book.meaning l.self) l.situation r l.line ≡ true
