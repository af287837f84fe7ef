use Rattle.std.proofs.Common.{rules}
use Rattle.bars.specs.Listing.{listed}
use Rattle.bars.proofs.books.BarBook.line_of.Goals as goal

pub returns : goal.returns
returns g c = listed c.args.fields.now (search rules)
