use Rattle.std.proofs.Common.{refl}
use Rattle.measure.specs.Fractions.{◌·◌, ◌÷◌, ◌plus◌, ◌less◌, ◌⊔◌}
use Rattle.measure.specs.Rounding.{ceiling, ths, rounded, reaches}
use Rattle.eurocode.specs.Tables.{diameters, areas, strengths, fctks, tabled, place, beside, area_of, fctk_of}
use Rattle.anchorage.specs.Lengths.{fbd, lb, cd, factor, α2, Astmin, by_surplus, α5, α6, α235, lbd, l0, required, figure}
use Rattle.anchorage.specs.Rules.{fcd, least_mandrel, rule3}
use Rattle.bars.specs.Tests.{in_range}
use Rattle.bars.specs.Meaning.{bar_figure, bar_meets}
use Rattle.worked.proofs.worked_lines.Goals as goal

pub returns : goal.returns
unfolding ◌·◌ ◌÷◌ ◌plus◌ ◌less◌ ◌⊔◌ ceiling ths rounded reaches diameters areas strengths fctks tabled place beside area_of fctk_of fbd lb cd factor α2 Astmin by_surplus α5 α6 α235 lbd l0 required figure fcd least_mandrel rule3 in_range bar_figure bar_meets
returns c = record { count = refl; hold = (refl, (refl, (refl, (refl, (refl, (refl, (refl, (refl, (refl, (refl, (refl, (refl, tt)))))))))))) }
