use Rattle.std.proofs.Common.{◌≡◌, ◌+◌, ◌^◌, ◌<◌, drop}
use Rattle.text.specs.Values.{digits_from}
use Rattle.text.proofs.values.digits.Given as goal

abbrev pub invariant-loop-b : goal.invariant-loop-b
invariant-loop-b l = (digits_from l.number (drop l.b-index l.rest) ≡ digits_from l.first l.rest) × (l.number < 10 ^ (l.b-index + 1))
