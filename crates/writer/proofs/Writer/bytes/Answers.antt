use Rattle.std.proofs.lemmas.List.{drop_more, drop_all}
use Rattle.writer.proofs.Writing.{going_none, going_more, going_all}
use Rattle.writer.proofs.Writer.bytes.Goals as goal

pub loop-b-init : goal.loop-b-init
loop-b-init c = going_none _ _

pub loop-b-preserved : goal.loop-b-preserved
loop-b-preserved c = going_more c.loop-b.invariant (drop_more _ _ 0 c.loop-b-test.true) c.byte.ensures

pub returns : goal.returns
returns c = going_all c.loop-b.invariant (drop_all _ _ c.loop-b-test.false)
