-- When the numbers of one bar ask no less than those of another. Assumes nothing.
use Rattle.std.proofs.Common.{◌≡◌, ◌*◌, ◌≤◌, true}
use Rattle.anchorage.specs.declared.Bar.{Bar}
use Rattle.anchorage.specs.declared.Shape.{Shape}
use Rattle.anchorage.specs.Lengths.{bond_quality, twice_cd}
use Rattle.anchorage.specs.Rules.{several, linked}

-- no less length; the cover that counts may grow with the diameter, as long as in diameters it is no larger
pub record Longer (s : Shape) (p q : Bar) : Type 0 where
  pub dia : q.dia ≤ p.dia
  pub area : q.area ≤ p.area
  pub stress : q.stress ≤ p.stress
  pub fctk : p.fctk ≤ q.fctk
  pub fyk : p.fyk ≤ q.fyk
  pub gc : q.gc ≤ p.gc
  pub gs : q.gs ≤ p.gs
  pub act : p.act ≤ q.act
  pub bond : bond_quality p.bond ≤ bond_quality q.bond
  pub cover : twice_cd s p * q.dia ≤ twice_cd s q * p.dia
  pub trans : p.trans ≤ q.trans
  pub eff : p.eff ≤ q.eff
  pub weld : p.weld ≤ q.weld
  pub press : p.press ≤ q.press
  pub share : q.share ≤ p.share

-- no less in any respect
pub record Stricter (s : Shape) (p q : Bar) : Type 0 where
  pub longer : Longer s p q
  pub slender : q.area * p.dia ≤ p.area * q.dia
  pub fck : p.fck ≤ q.fck
  pub gap : p.gap ≤ q.gap
  pub acc : p.acc ≤ q.acc
  pub k1 : q.k1 ≤ p.k1
  pub k2 : q.k2 ≤ p.k2
  pub multiple : q.multiple ≤ p.multiple
  pub layers : several q.layers ≡ true → several p.layers ≡ true
  pub apart : p.apart ≤ q.apart
  pub ties : linked p.ties ≡ true → linked q.ties ≡ true
  pub agg : q.agg ≤ p.agg
  pub mandrel : p.mandrel ≤ q.mandrel
  pub pitch : p.pitch ≤ q.pitch
  pub provided : p.provided ≤ q.provided
