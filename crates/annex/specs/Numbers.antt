-- The 21 numbers of a national annex: their names and ranges, the recommended ones, and which answers which question. Assumes nothing.
use Rattle.std.specs.Prelude.{ℕ, List, [], ◌∷◌, map, codes, slice_index}
use Rattle.std.specs.List.{range_with_len}
use Rattle.eurocode.specs.declared.Situation.{Situation}
use Rattle.eurocode.specs.declared.Situation.TheVariants.{Persistent, Accidental}
use Rattle.eurocode.specs.Tables.{diameters, beside}
use Rattle.annex.specs.declared.numbers.Factor.{Factor}
use Rattle.annex.specs.declared.numbers.Numbers.{Numbers}

-- the fields in their order: γc and γs, each in the persistent and in the accidental situation, αct, αcc, k1, k2, km, ks,
-- and the mandrel multiples by the tabled diameters
abbrev pub annex_names : List (List ℕ)
annex_names =
    codes "gc1" ∷ codes "gc2" ∷ codes "gs1" ∷ codes "gs2" ∷ codes "act" ∷ codes "acc" ∷ codes "k1" ∷ codes "k2" ∷ codes "km" ∷ codes "ks" ∷
    codes "m6" ∷ codes "m8" ∷ codes "m10" ∷ codes "m12" ∷ codes "m14" ∷ codes "m16" ∷ codes "m20" ∷ codes "m25" ∷ codes "m28" ∷ codes "m32" ∷ codes "m40" ∷ []

-- by field the least and the greatest number: factors in hundredths, k1 in tenths, k2 in mm, km and ks in hundredths,
-- multiples in bar diameters
abbrev pub ranges : List (ℕ × ℕ)
ranges =
    (100, 200) ∷ (100, 200) ∷ (100, 150) ∷ (100, 150) ∷ (80, 100) ∷ (80, 100) ∷ (10, 30) ∷ (0, 20) ∷ (2, 8) ∷ (50, 100) ∷
    (1, 20) ∷ (1, 20) ∷ (1, 20) ∷ (1, 20) ∷ (1, 20) ∷ (1, 20) ∷ (1, 20) ∷ (1, 20) ∷ (1, 20) ∷ (1, 20) ∷ (1, 20) ∷ []

-- the numbers by field
abbrev pub fields_of : Numbers → List ℕ
fields_of n =
    n.gc.persistent ∷ n.gc.accidental ∷ n.gs.persistent ∷ n.gs.accidental ∷ n.act ∷ n.acc ∷ n.k1 ∷ n.k2 ∷ n.km ∷ n.ks ∷ n.multiples

-- the numbers from their list by field; a missing one counts as 0
abbrev pub numbers_of : List ℕ → Numbers
numbers_of ns = record {
  gc = record { persistent = slice_index ns 0; accidental = slice_index ns 1 };
  gs = record { persistent = slice_index ns 2; accidental = slice_index ns 3 };
  act = slice_index ns 4;
  acc = slice_index ns 5;
  k1 = slice_index ns 6;
  k2 = slice_index ns 7;
  km = slice_index ns 8;
  ks = slice_index ns 9;
  multiples = map (λ i. slice_index ns i) (range_with_len 10 11);
}

-- what the standard recommends
abbrev pub recommended : Numbers
recommended = record {
  gc = record { persistent = 150; accidental = 120 };
  gs = record { persistent = 115; accidental = 100 };
  act = 100;
  acc = 100;
  k1 = 10;
  k2 = 5;
  km = 4;
  ks = 75;
  multiples = 4 ∷ 4 ∷ 4 ∷ 4 ∷ 4 ∷ 4 ∷ 7 ∷ 7 ∷ 7 ∷ 7 ∷ 7 ∷ [];
}

-- a factor in a design situation
abbrev pub in_situation : Factor → Situation → ℕ
in_situation f Persistent = f.persistent
in_situation f Accidental = f.accidental

-- γc and γs in a design situation
abbrev pub gc_of : Numbers → Situation → ℕ
gc_of n s = in_situation n.gc s

abbrev pub gs_of : Numbers → Situation → ℕ
gs_of n s = in_situation n.gs s

-- the least mandrel diameter of a bar of diameter φ, in bar diameters
abbrev pub multiple_of : Numbers → ℕ → ℕ
multiple_of n φ = beside diameters n.multiples φ
