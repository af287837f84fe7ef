use Rattle.std.proofs.Common.{length, ap, ◌∙◌}
use Rattle.std.specs.Prelude.{unwrap_or}
use Rattle.checklist.specs.Firsts.{first_failed, test_at}
use Rattle.bars.proofs.Answering.{mark_answer}
use Rattle.bars.proofs.books.BarBookBook.mark.Goals as goal

pub returns : goal.returns
returns g c =
    let b = c.in-Some.bar in
    c.unwrap_or.ensures ∙ ap (λ o. unwrap_or o 0) c.first_failed.ensures.value ∙ ap (λ ts. unwrap_or (first_failed (test_at ts) 0 (length ts)) 0) c.rules_met.ensures
    ∙ mark_answer (g.A.Annex.means c.args.self.now.annex) c.args.situation c.args.line.now b.detail b.bar c.in-Some.ensures.detail c.in-Some.ensures.bar
