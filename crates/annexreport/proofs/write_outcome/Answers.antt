use Rattle.std.proofs.Common.{◌≤◌, length, sym, subst}
use Rattle.annexreport.specs.Report.{report_of, Reportable}
use Rattle.annexreport.proofs.Measuring.{numbers_short}
use Rattle.annexreport.proofs.write_outcome.Goals as goal

pub returns-in-Ok-clause-short : goal.returns-in-Ok-clause-short
returns-in-Ok-clause-short c = subst (λ o. Reportable o → length (report_of o) ≤ 400) (sym c.in-Ok.is) (numbers_short c.in-Ok.numbers)
