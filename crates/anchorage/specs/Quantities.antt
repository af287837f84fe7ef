-- The numbers of a bar under the standard's names. Assumes nothing.
use Rattle.std.specs.Prelude.{ℕ}
use Rattle.measure.specs.Fractions.{Fraction, whole, tenths, hundredths}
use Rattle.anchorage.specs.declared.Bar.{Bar}

-- the diameter, in mm
abbrev pub φ : Bar → ℕ
φ b = b.dia

-- the bar's area, in mm²
abbrev pub As : Bar → Fraction
As b = tenths b.area

-- the transverse steel, in mm²
abbrev pub Ast : Bar → Fraction
Ast b = tenths b.trans

-- the design stress of the bar, in MPa
abbrev pub σ : Bar → Fraction
σ b = tenths b.stress

-- the steel's characteristic yield strength, in MPa
abbrev pub fyk : Bar → Fraction
fyk b = whole b.fyk

-- the concrete's characteristic strength in compression, in MPa
abbrev pub fck : Bar → Fraction
fck b = whole b.fck

-- the concrete's characteristic strength in tension, in MPa
abbrev pub fctk : Bar → Fraction
fctk b = tenths b.fctk

-- the partial factors of concrete and of steel
abbrev pub γc : Bar → Fraction
γc b = hundredths b.gc

abbrev pub γs : Bar → Fraction
γs b = hundredths b.gs

-- the factors on the concrete's strength in tension and in compression
abbrev pub αct : Bar → Fraction
αct b = hundredths b.act

abbrev pub αcc : Bar → Fraction
αcc b = hundredths b.acc

-- how well the transverse steel confines the bar
abbrev pub K : Bar → Fraction
K b = hundredths b.eff

-- the pressure across the bar, in MPa
abbrev pub p : Bar → Fraction
p b = tenths b.press
