use Rattle.annex.specs.Keeping.{recommended_ranged, recommended_rising}
use Rattle.national.proofs.annexes.NationalAnnex.new.Goals as goal

pub invariant_of-result : goal.invariant_of-result
invariant_of-result c = record { ranged = recommended_ranged; rising = recommended_rising }
