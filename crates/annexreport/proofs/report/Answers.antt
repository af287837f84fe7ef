use Rattle.std.proofs.Common.{◌≡◌, ◌≤◌, min, length, Ok, Err, Result, refl, sym, ap, ◌∙◌, subst, rules}
use Rattle.refusal.specs.declared.Refusal.{Refusal}
use Rattle.refusal.specs.Refusals.{on_ok}
use Rattle.writer.specs.Wrote.{laid_over}
use Rattle.annex.specs.declared.numbers.Numbers.{Numbers}
use Rattle.annex.specs.Numbers.{fields_of}
use Rattle.annex.specs.Keeping.{ranged_decides}
use Rattle.national.specs.declared.annexes.NationalAnnex.{NationalAnnex}
use Rattle.national.specs.Reading.{annex_of, Leaves}
use Rattle.annexreport.specs.Report.{report_of, Reportable}
use Rattle.annexreport.proofs.report.Goals as goal

-- the numbers of an annex that was read, or why it was not, are what the text grants
read_is : (o : Result Numbers Refusal) (old new : NationalAnnex) → Leaves o old new → on_ok (λ _. new.numbers) (on_ok {Y = Unit {0}} (λ _. tt) o) ≡ o
read_is (Ok n) old new h = ap Ok h
read_is (Err e) old new h = refl

reportable : (annex : NationalAnnex) (r : Result (Unit {0}) Refusal) → Reportable (on_ok (λ _. annex.numbers) r)
reportable annex (Ok x) = (ranged_decides (fields_of annex.numbers)).0 annex.ranged
reportable annex (Err e) = tt

pub returns : goal.returns
returns c =
    let annex = c.read.new.self in
    let text = c.args.text.now in
    let told : c.map-outcome.result ≡ on_ok (λ _. annex.numbers) c.read.result = search rules in
    let is : c.map-outcome.result ≡ annex_of text = told ∙ ap (on_ok (λ _. annex.numbers)) c.read.ensures.answers ∙ read_is (annex_of text) c.new-annex.result annex c.read.ensures.leaves in
    record {
      laid = c.write_report.ensures.laid ∙ ap (λ o. laid_over (report_of o) c.args.buffer.now) is;
      counted = c.write_report.ensures.counted ∙ ap (λ o. min (length c.args.buffer.now) (length (report_of o))) is;
      short = subst (λ o. length (report_of o) ≤ 400) is (c.write_report.ensures.short (subst Reportable (sym told) (reportable annex c.read.result)));
    }
