use Rattle.std.proofs.Common.{◌≡◌, ◌+◌, length}
use Rattle.text.specs.Tokens.{ahead, this_line}
use Rattle.text.proofs.tokens.Lexer.has_parts.Given as goal

abbrev pub invariant-loop : goal.invariant-loop
invariant-loop l = length (this_line (ahead l.lexer)) + l.counter ≡ length (this_line (ahead l.self))
