-- A bar line as the formulas see it: which case it is, and its numbers beside those of the tables and the annex.
-- Assumes nothing.
use Rattle.std.specs.Prelude.{ℕ, cond, ◌||◌, ◌==◌, nat_le}
use Rattle.eurocode.specs.declared.Situation.{Situation}
use Rattle.eurocode.specs.Tables.{area_of, fctk_of}
use Rattle.annex.specs.declared.numbers.Numbers.{Numbers}
use Rattle.annex.specs.Numbers.{gc_of, gs_of, multiple_of}
use Rattle.anchorage.specs.declared.bonds.Bond.{Bond}
use Rattle.anchorage.specs.declared.bonds.Bond.TheVariants.{Good, Other}
use Rattle.anchorage.specs.declared.Bar.{Bar}
use Rattle.anchorage.specs.declared.Detail.{Detail}
use Rattle.anchorage.specs.declared.Layers.{Layers}
use Rattle.anchorage.specs.declared.Layers.TheVariants.{One, Several}
use Rattle.anchorage.specs.declared.Ties.{Ties}
use Rattle.anchorage.specs.declared.Ties.TheVariants.{Links}
use Rattle.anchorage.specs.declared.Ties.TheVariants.{Other as OtherTies}
use Rattle.anchorage.specs.declared.Shape.{Shape}
use Rattle.anchorage.specs.declared.Shape.TheVariants.{Straight, Bent, Loop}
use Rattle.bars.specs.declared.lines.BarLine.{BarLine}

-- 1 straight, 2 a bend or hook, 3 a loop
abbrev pub shape_of : ℕ → Shape
shape_of n = cond (n == 1) Straight (cond (n == 2) Bent Loop)

-- 1 good, 2 other; a lesser number counts as 1 and a greater as 2, here and for the layers
abbrev pub bond_of : ℕ → Bond
bond_of n = cond (nat_le n 1) Good Other

-- 1 one, 2 several
abbrev pub layers_of : ℕ → Layers
layers_of n = cond (nat_le n 1) One Several

-- 1 links or U bars, any other number other
abbrev pub ties_of : ℕ → Ties
ties_of n = cond (n == 1) Links OtherTies

-- kinds 3 and 4 are laps, kinds 1 and 3 in tension; member 1 is a beam
abbrev pub detail_of : BarLine → Detail
detail_of l = record { lap = nat_le 3 l.kind; tension = l.kind == 1 || (l.kind == 3); beam = (l.member == 1); shape = shape_of l.shape }

abbrev pub bar_of : Numbers → Situation → BarLine → Bar
bar_of n s l = record {
  dia = l.dia;
  area = area_of l.dia;
  fck = l.fck;
  fctk = fctk_of l.fck;
  fyk = l.fyk;
  stress = l.stress;
  bond = bond_of l.bond;
  gap = l.gap;
  side = l.side;
  cover = l.cover;
  trans = l.trans;
  eff = l.eff;
  weld = l.weld;
  press = l.press;
  share = l.share;
  layers = layers_of l.layers;
  apart = l.apart;
  ties = ties_of l.form;
  agg = l.agg;
  mandrel = l.mandrel;
  pitch = l.pitch;
  provided = l.provided;
  gc = gc_of n s;
  gs = gs_of n s;
  act = n.act;
  acc = n.acc;
  k1 = n.k1;
  k2 = n.k2;
  multiple = multiple_of n l.dia;
}
