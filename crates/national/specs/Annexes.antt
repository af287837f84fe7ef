-- What a national annex means. Assumes nothing.
use Rattle.annex.specs.declared.numbers.Numbers.{Numbers}
use Rattle.national.specs.declared.annexes.NationalAnnex.{NationalAnnex}

-- its numbers
abbrev pub means_of : NationalAnnex → Numbers
means_of a = a.numbers
