use Rattle.std.proofs.Common.{drop}
use Rattle.writer.proofs.Writing.{Going}
use Rattle.writer.proofs.Writer.bytes.Given as goal

-- the bytes from this one on are left
abbrev pub invariant-loop-b : goal.invariant-loop-b
invariant-loop-b l = Going l.text (drop l.b-index l.text) l.initial.self l.self
