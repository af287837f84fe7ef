-- A bar line: its fields, their names and values, and the list of its numbers. Assumes nothing.
use Rattle.std.specs.Prelude.{ℕ, List, [], ◌∷◌, codes, slice_index}
use Rattle.eurocode.specs.Tables.{diameters, strengths}
use Rattle.fields.specs.Fields.{Field, field, up_to, between, one_of}
use Rattle.bars.specs.declared.lines.BarLine.{BarLine}

-- lengths in mm, areas in tenths of mm², stresses in tenths of MPa, strengths in MPa
abbrev pub bar_fields : List Field
bar_fields =
    field (codes "kind") (between 1 4) ∷  -- anchorage in tension, in compression, lap in tension, in compression
    field (codes "dia") (one_of diameters) ∷
    field (codes "fck") (one_of strengths) ∷
    field (codes "fyk") (between 400 600) ∷
    field (codes "stress") (up_to 6000) ∷
    field (codes "bond") (between 1 2) ∷  -- good, other
    field (codes "shape") (between 1 3) ∷  -- straight, bend or hook, loop
    field (codes "gap") (up_to 1000) ∷  -- clear to the next bar
    field (codes "side") (up_to 1000) ∷  -- side cover
    field (codes "cover") (up_to 1000) ∷
    field (codes "trans") (up_to 500000) ∷  -- transverse area
    field (codes "eff") (one_of (0 ∷ 5 ∷ 10 ∷ [])) ∷  -- K, in hundredths
    field (codes "member") (between 1 2) ∷  -- beam, slab
    field (codes "weld") (one_of (0 ∷ diameters)) ∷  -- welded cross bar, 0 for none
    field (codes "press") (up_to 200) ∷
    field (codes "share") (up_to 100) ∷  -- lapped, in percent
    field (codes "layers") (between 1 2) ∷  -- one, several
    field (codes "apart") (up_to 1000) ∷  -- clear between laps
    field (codes "form") (up_to 1) ∷  -- 1 links or U bars, 0 other
    field (codes "agg") (between 4 63) ∷  -- largest aggregate
    field (codes "mandrel") (up_to 2000) ∷
    field (codes "pitch") (up_to 2000) ∷  -- bar centres across the bend
    field (codes "length") (up_to 20000) ∷
    []

-- the numbers of a line by field
abbrev pub numbers_of : BarLine → List ℕ
numbers_of l =
    l.kind ∷ l.dia ∷ l.fck ∷ l.fyk ∷ l.stress ∷ l.bond ∷ l.shape ∷ l.gap ∷ l.side ∷ l.cover ∷ l.trans ∷ l.eff ∷
    l.member ∷ l.weld ∷ l.press ∷ l.share ∷ l.layers ∷ l.apart ∷ l.form ∷ l.agg ∷ l.mandrel ∷ l.pitch ∷ l.provided ∷ []

-- the line of these numbers; a missing one counts as 0
abbrev pub line_of : List ℕ → BarLine
line_of ns = record {
  kind = slice_index ns 0;
  dia = slice_index ns 1;
  fck = slice_index ns 2;
  fyk = slice_index ns 3;
  stress = slice_index ns 4;
  bond = slice_index ns 5;
  shape = slice_index ns 6;
  gap = slice_index ns 7;
  side = slice_index ns 8;
  cover = slice_index ns 9;
  trans = slice_index ns 10;
  eff = slice_index ns 11;
  member = slice_index ns 12;
  weld = slice_index ns 13;
  press = slice_index ns 14;
  share = slice_index ns 15;
  layers = slice_index ns 16;
  apart = slice_index ns 17;
  form = slice_index ns 18;
  agg = slice_index ns 19;
  mandrel = slice_index ns 20;
  pitch = slice_index ns 21;
  provided = slice_index ns 22;
}
