use Rattle.std.proofs.Common.{◌-◌, ◌<◌, ◌≤◌, true, false, ◌∷◌, get_or, ap, ◌∙◌, ⊎_elim, arith}
use Rattle.std.proofs.lemmas.List.{get_or_past, get_or_default}
use Rattle.anchorage.specs.Rules.{rules}
use Rattle.bars.specs.Details.{detail_of, bar_of}
use Rattle.bars.proofs.Answering.{meets_answer, meets_none}
use Rattle.bars.proofs.books.BarBookBook.meets.Goals as goal

pub returns-then-rule-eq0 : goal.returns-then-rule-eq0
returns-then-rule-eq0 g c =
    let n = g.A.Annex.means c.args.self.now.annex in
    let s = c.args.situation in
    let l = c.args.line.now in
    let tests = true ∷ rules (detail_of l) (bar_of n s l) in
    meets_none n s l c.args.rule (⊎_elim (λ e. ap (λ r. get_or tests r true) e) (λ h. get_or_past tests c.args.rule true (omega (arith, h.1))) c.then-rule-eq0.either)

pub returns : goal.returns
returns g c =
    let n = g.A.Annex.means c.args.self.now.annex in
    let b = c.in-Some.bar in
    let r = c.args.rule in
    let some : 1 ≤ r = omega arith in
    let within : r - 1 < 8 = omega arith in
    ap (λ i. get_or c.rules_met.result (i - 1) false) c.from.ensures ∙ ap (λ ts. get_or ts (r - 1) false) c.rules_met.ensures ∙ get_or_default (rules b.detail b.bar) (r - 1) false true within
    ∙ meets_answer n c.args.situation c.args.line.now b.detail b.bar c.in-Some.ensures.detail c.in-Some.ensures.bar r some
