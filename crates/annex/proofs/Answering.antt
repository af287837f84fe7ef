-- The two laws in the words of the questions. Assumes nothing.
use Rattle.std.proofs.Common.{◌≡◌, ℕ, ◌+◌, ◌<◌, ◌≤◌, T, get_or, take, replicate, sym, ap, ◌∙◌, arith, lit<}
use Rattle.std.proofs.lemmas.List.{get_or-append-add, get_or-replicate}
use Rattle.eurocode.specs.declared.Situation.{Situation}
use Rattle.eurocode.specs.declared.Situation.TheVariants.{Persistent, Accidental}
use Rattle.eurocode.specs.Tables.{diameters, tabled, place}
use Rattle.eurocode.proofs.Tabled.{beside_tabled}
use Rattle.eurocode.proofs.Rising.{place_rises, place_within}
use Rattle.annex.specs.declared.numbers.Numbers.{Numbers}
use Rattle.annex.specs.Numbers.{ranges, fields_of, gc_of, gs_of, multiple_of}
use Rattle.annex.specs.Laws.{Ranged, Rising}

-- the multiple of a tabled bar is the field behind the first ten at the bar's place
multiple_field : (n : Numbers) (φ : ℕ) → T (tabled φ diameters) → get_or (fields_of n) (10 + place φ diameters) 0 ≡ multiple_of n φ
multiple_field n φ m =
    get_or-append-add (take 10 (fields_of n)) n.multiples (place φ diameters) 0 ∙ sym (beside_tabled diameters n.multiples φ m)

-- every multiple has one range
multiple_range : (i : ℕ) → i < 11 → get_or ranges (10 + i) (0, 0) ≡ (1, 20)
multiple_range i h = get_or-append-add (take 10 ranges) (replicate 11 (1, 20)) i (0, 0) ∙ get_or-replicate 11 i (1, 20) (0, 0) h

-- of numbers in their ranges
module _ (n : Numbers) (r : Ranged (fields_of n)) where
  pub gc_within : (s : Situation) → (100 ≤ gc_of n s) × (gc_of n s ≤ 200)
  gc_within Persistent = (r.least 0 (lit< tt), r.most 0 (lit< tt))
  gc_within Accidental = (r.least 1 (lit< tt), r.most 1 (lit< tt))

  pub gs_within : (s : Situation) → (100 ≤ gs_of n s) × (gs_of n s ≤ 150)
  gs_within Persistent = (r.least 2 (lit< tt), r.most 2 (lit< tt))
  gs_within Accidental = (r.least 3 (lit< tt), r.most 3 (lit< tt))

  pub act_within : (80 ≤ n.act) × (n.act ≤ 100)
  act_within = (r.least 4 (lit< tt), r.most 4 (lit< tt))

  pub acc_within : (80 ≤ n.acc) × (n.acc ≤ 100)
  acc_within = (r.least 5 (lit< tt), r.most 5 (lit< tt))

  pub k1_within : (10 ≤ n.k1) × (n.k1 ≤ 30)
  k1_within = (r.least 6 (lit< tt), r.most 6 (lit< tt))

  pub k2_within : n.k2 ≤ 20
  k2_within = r.most 7 (lit< tt)

  pub km_within : (2 ≤ n.km) × (n.km ≤ 8)
  km_within = (r.least 8 (lit< tt), r.most 8 (lit< tt))

  pub ks_within : (50 ≤ n.ks) × (n.ks ≤ 100)
  ks_within = (r.least 9 (lit< tt), r.most 9 (lit< tt))

  pub multiple_within : (φ : ℕ) → T (tabled φ diameters) → (1 ≤ multiple_of n φ) × (multiple_of n φ ≤ 20)
  multiple_within φ m =
      let p = place φ diameters in
      let h = place_within φ m in
      let range = multiple_range p h in
      let field = multiple_field n φ m in
      let low : (get_or ranges (10 + p) (0, 0)).0 ≤ get_or (fields_of n) (10 + p) 0 = r.least (10 + p) (omega arith) in
      let high : get_or (fields_of n) (10 + p) 0 ≤ (get_or ranges (10 + p) (0, 0)).1 = r.most (10 + p) (omega arith) in
      (omega (arith, low, field, ap (λ b. b.0) range), omega (arith, high, field, ap (λ b. b.1) range))

-- of multiples that never fall: a thicker bar has no smaller one
pub multiple_rises : (n : Numbers) → Rising (fields_of n) → (φ φ' : ℕ) → T (tabled φ diameters) → T (tabled φ' diameters) → φ ≤ φ' → multiple_of n φ ≤ multiple_of n φ'
multiple_rises n rise φ φ' m m' h =
    let order = place_rises.weak φ φ' m m' h in
    let last = place_within φ' m' in
    omega (arith, rise (10 + place φ diameters) (10 + place φ' diameters) (omega arith) (omega arith) (omega arith), multiple_field n φ m, multiple_field n φ' m')
