use Rattle.national.proofs.Accepting.{accepted_keeps}
use Rattle.national.proofs.annexes.NationalAnnex.set.Goals as goal

pub invariant_of-self : goal.invariant_of-self
invariant_of-self c = let kept = accepted_keeps c.args.fields.now c.in_ok-self.field-0 c.in_ok-self.ensures in record { ranged = kept.1; rising = kept.2 }
