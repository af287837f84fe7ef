use Rattle.std.proofs.Common.{decimal}
use Rattle.annexreport.proofs.Printing.{line_two}
use Rattle.annexreport.proofs.write_line.Goals as goal

pub returns : goal.returns
returns c = line_two c.args.name.now (decimal c.args.n) c.part.ensures c.part-2.ensures
