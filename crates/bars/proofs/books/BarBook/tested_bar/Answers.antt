use Rattle.std.proofs.Common.{is_err, sym, ap, ◌∙◌}
use Rattle.bars.specs.Tests.{test_of}
use Rattle.bars.specs.Passing.{not_refused, bar_is}
use Rattle.bars.proofs.books.BarBook.tested_bar.Goals as goal

pub returns-in_err-bar-clause-bar : goal.returns-in_err-bar-clause-bar
returns-in_err-bar-clause-bar g c =
    let n = g.A.Annex.means c.args.self.now.annex in
    let s = c.args.situation in
    let l = c.args.line.now in
    let passed = not_refused (test_of n s l) (sym (c.if-is_err.ensures.value ∙ ap is_err c.test_line.ensures)) in
    rw c.from_residual.ensures (bar_is n (g.met.A.Annex.ranged c.args.self.now.annex) s l _ passed c.in_err-bar.ensures).0

pub invariant_of-result : goal.invariant_of-result
invariant_of-result g c =
    let n = g.A.Annex.means c.args.self.now.annex in
    let s = c.args.situation in
    let l = c.args.line.now in
    let passed = not_refused (test_of n s l) (sym (c.if-is_err.ensures.value ∙ ap is_err c.test_line.ensures)) in
    record { ranged = (bar_is n (g.met.A.Annex.ranged c.args.self.now.annex) s l _ passed c.in_ok-bar.ensures).1 }
