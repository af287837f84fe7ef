use Rattle.text.specs.Tokens.{ahead}
use Rattle.reader.specs.Headers.{places_in}
use Rattle.reader.proofs.Turns.{Checking}
use Rattle.reader.proofs.headers.whole.check.Given as goal

abbrev pub invariant-loop-line : goal.invariant-loop-line
invariant-loop-line g l = Checking (places_in l.header) (ahead l.initial.lexer) (ahead l.lexer) l.line
