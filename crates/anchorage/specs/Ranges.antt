-- What the formulas may rely on: the ranges of a line that passes its test, of the tables and of every annex. Assumes nothing.
use Rattle.std.specs.Prelude.{◌≤◌}
use Rattle.anchorage.specs.declared.Bar.{Bar}

pub record Ranged (b : Bar) : Type 0 where
  pub dia_low : 6 ≤ b.dia
  pub dia_high : b.dia ≤ 40
  pub area_low : 283 ≤ b.area
  pub area_high : b.area ≤ 12566
  pub fck_low : 12 ≤ b.fck
  pub fck_high : b.fck ≤ 50
  pub fctk_low : 11 ≤ b.fctk
  pub fctk_high : b.fctk ≤ 29
  pub fyk_low : 400 ≤ b.fyk
  pub fyk_high : b.fyk ≤ 600
  pub stress_high : b.stress ≤ 6000
  pub gap_high : b.gap ≤ 1000
  pub side_high : b.side ≤ 1000
  pub cover_high : b.cover ≤ 1000
  pub trans_high : b.trans ≤ 500000
  pub eff_high : b.eff ≤ 10
  pub weld_high : b.weld ≤ 40
  pub press_high : b.press ≤ 200
  pub share_high : b.share ≤ 100
  pub apart_high : b.apart ≤ 1000
  pub agg_high : b.agg ≤ 63
  pub mandrel_high : b.mandrel ≤ 2000
  pub pitch_high : b.pitch ≤ 2000
  pub gc_low : 100 ≤ b.gc
  pub gc_high : b.gc ≤ 200
  pub gs_high : b.gs ≤ 150
  pub act_low : 80 ≤ b.act
  pub act_high : b.act ≤ 100
  pub acc_low : 80 ≤ b.acc
  pub acc_high : b.acc ≤ 100
  pub k1_high : b.k1 ≤ 30
  pub k2_high : b.k2 ≤ 20
  pub multiple_high : b.multiple ≤ 20
