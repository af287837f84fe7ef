use Rattle.std.proofs.Common.{sym, subst}
use Rattle.text.specs.Texts.{Cuts}
use Rattle.text.proofs.Cutting.{cut_here, found_place, found_none}
use Rattle.text.proofs.tokens.cut.Goals as goal

pub returns-in_err-place : goal.returns-in_err-place
returns-in_err-place c = subst (Cuts c.args.at c.args.bytes.now) (sym c.from_residual.ensures) (found_none c.args.at c.args.bytes.now c.in_err-place.ensures)

pub returns : goal.returns
returns c = cut_here c.args.bytes.now c.in_ok-place.place c.args.at (found_place c.args.at c.args.bytes.now c.in_ok-place.place c.in_ok-place.ensures)
