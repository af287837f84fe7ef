use Rattle.std.proofs.Common.{length}
use Rattle.text.specs.Tokens.{ahead, this_line}
use Rattle.reader.proofs.Turns.{Reading}
use Rattle.reader.proofs.headers.line.read_values.Given as goal

abbrev pub invariant-loop-part : goal.invariant-loop-part
invariant-loop-part l = Reading (ahead l.initial.lexer) (ahead l.lexer) l.values l.place

abbrev pub decreases-loop-part : goal.decreases-loop-part
decreases-loop-part l = length (this_line (ahead l.lexer))
