use Rattle.std.proofs.Common.{length}
use Rattle.text.specs.Tokens.{ahead, this_line}
use Rattle.reader.proofs.Tables.{Placing}
use Rattle.reader.proofs.headers.placing.place_names.Given as goal

abbrev pub invariant-loop-name : goal.invariant-loop-name
invariant-loop-name g l = Placing (g.N.Named.names l.named) (ahead l.initial.lexer) (ahead l.lexer) l.found l.place

abbrev pub decreases-loop-name : goal.decreases-loop-name
decreases-loop-name g l = length (this_line (ahead l.lexer))
