-- The laws of the book without rules. Assumes nothing.
use Rattle.std.proofs.Common.{arith, rules}
use Rattle.measure.specs.Fractions.{◌plus◌}
use Rattle.book.specs.Meaning.{NearLaw, OrderLaw}
use Rattle.book.specs.Plain.{plain}

pub plain_near : NearLaw plain
unfolding ◌plus◌
plain_near s l e = omega arith

pub plain_order : OrderLaw plain
plain_order = search rules
