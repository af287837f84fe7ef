use Rattle.std.proofs.Common.{sym, arith}
use Rattle.std.proofs.lemmas.Fmt.{decimal_step}
use Rattle.writer.proofs.Spelling.{one_digit}
use Rattle.writer.proofs.Writing.{wrote_none, wrote_both, wrote_as, wrote_at}
use Rattle.writer.proofs.Writer.+number.Goals as goal
use Rattle.writer.proofs.Writer.+number.Goals.{then-n-ge-BASE, else-n-ge-BASE}

pub returns : goal.returns
returns t c =
    elim c.if-n-ge-BASE.branch [
      | then-n-ge-BASE w ↦ wrote_as (sym (decimal_step c.args.n w.if-n-ge-BASE.true (omega arith))) (wrote_both (wrote_at w.self-is w.number.ensures) c.byte.ensures)
      | else-n-ge-BASE w ↦ wrote_as (sym (one_digit c.args.n w.if-n-ge-BASE.false)) (wrote_both (wrote_at w.self-is (wrote_none _)) c.byte.ensures)
    ]
