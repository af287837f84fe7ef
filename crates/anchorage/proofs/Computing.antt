-- What a program computes on numerators over common denominators, by the formulas. Assumes nothing.
use Rattle.std.proofs.Common.{◌≡◌, ℕ, ◌+◌, ◌-◌, ◌*◌, ◌<◌, ◌≤◌, max, true, false, cond, leb, sym, refl, ap, ◌∙◌, ap₂, le_trans, le_of_eq, mul-pos, one-mul, arith, lit<}
use native.Mathlib.Nat.{max_comm}
use Rattle.std.proofs.lemmas.Bool.Decides.{nat_tests}
use Rattle.measure.specs.Fractions.{Fraction, ◌over◌, whole, tenths, ◌·◌, ◌÷◌, ◌less◌, ◌plus◌, ◌⊔◌, ◌≼◌}
use Rattle.measure.specs.Rounding.{ceiling, ths, rounded, reaches}
use Rattle.measure.proofs.Ceiling.{ceiling_same}
use Rattle.measure.proofs.Order.{≼_refl, ·-mono, ÷-mono, less_mono, equal, ths_same, ths-⊔, ths_mono, ths_whole, ths_one, ths_over, ths_four}
use Rattle.anchorage.specs.declared.Bar.{Bar}
use Rattle.anchorage.specs.declared.Detail.{Detail}
use Rattle.anchorage.specs.declared.Shape.{Shape}
use Rattle.anchorage.specs.Quantities.{As, σ, γs, fyk}
use Rattle.anchorage.specs.Lengths.{η1, η2, fbd, lb, twice_cd, cd, factor, α1, ample, α2, Astmin, by_surplus, α3, α4, α5, α6, α235, lbd, l0, millionths}
use Rattle.anchorage.specs.Rules.{fcd, least_mandrel}
use Rattle.anchorage.specs.Ranges.{Ranged}
use Rattle.anchorage.proofs.Rising.{η1_pos, η2_pos, factor_mono}
use Rattle.anchorage.proofs.Bounds.{round_most_15, α6_most, α235_most, with-α6_most, lb_most, l0_most, lbd_most}

pub lb_den : (b : Bar) → Ranged b → 0 < (η1 b).num * (η2 b).num * b.act * b.fctk
lb_den b s = mul-pos (mul-pos (mul-pos (η1_pos b).num_pos (η2_pos b s).num_pos) (omega (arith, s.act_low))) (omega (arith, s.fctk_low))

pub lb_code : (b : Bar) → Ranged b → ceiling (100000 * (b.dia * b.stress * b.gc)) (9 * ((η1 b).num * (η2 b).num * b.act * b.fctk)) ≡ ths 100 (lb b)
unfolding ths lb fbd ◌·◌ ◌÷◌
lb_code b s =
    let e = (η1 b).num in
    let f = (η2 b).num in
    ceiling_same (100000 * (b.dia * b.stress * b.gc)) (9 * (e * f * b.act * b.fctk)) _ _ (omega (arith, lb_den b s)) (omega (arith, lb_den b s)) (omega arith)

pub factor_same : (k : ℕ) (x y : Fraction) → 0 < x.den → 0 < y.den → x.num * y.den ≡ y.num * x.den → ths k (factor x) ≡ ths k (factor y)
factor_same k x y p q e = ths_same k (factor_mono (equal q p (sym e))) (factor_mono (equal p q e))

less_den : (n d : ℕ) → 0 < d → 0 < (whole 1 less n over d).den
unfolding ◌less◌
less_den n d p = omega arith

less_ths : (n d : ℕ) → ths 1000000 (whole 1 less n over d) ≡ ceiling (1000000 * (d - n)) d
unfolding ths ◌less◌
less_ths n d =
    let e : 1 * d - n * 1 ≡ d - n = omega arith in
    rw (e, one-mul d)

seven_ths : ths 1000000 (tenths 7) ≡ 700000
unfolding ths ceiling
seven_ths = refl

pub factor_code : (n d : ℕ) → 0 < d → max (ceiling (1000000 * (d - n)) d) 700000 ≡ ths 1000000 (factor (n over d))
unfolding factor
factor_code n d p = max_comm _ 700000 ∙ sym (rw (ths-⊔ 1000000 (tenths 7) (whole 1 less n over d) (lit< tt) (less_den n d p), seven_ths, less_ths n d))

pub cover_code : (s : Shape) (b : Bar) → Ranged b → ths 1000000 (factor ((15 * twice_cd s b - 30 * ample s * b.dia) over (200 * b.dia))) ≡ ths 1000000 (α2 s b)
unfolding α2 cd ◌·◌ ◌÷◌ ◌less◌
cover_code s b h =
    let t = twice_cd s b in
    let k = ample s in
    let e : 15 * t - 30 * k * b.dia ≡ 15 * (t * 1 - k * b.dia * 2) = omega arith in
    factor_same 1000000 _ _ (omega (arith, h.dia_low)) (omega (arith, h.dia_low)) (rw e (omega arith))

-- the least steel is `least` of `parts` parts of the bar's area
pub surplus_code : (b : Bar) → Ranged b → (least parts : ℕ) → 0 < parts → ths 1000000 (factor ((b.eff * (b.trans * parts - least * b.area)) over (100 * b.area * parts))) ≡ ths 1000000 (by_surplus b ((b.area * least) over (10 * parts)))
unfolding by_surplus ◌·◌ ◌÷◌ ◌less◌
surplus_code b h least parts p =
    let a : 0 < b.area = omega (arith, h.area_low) in
    let d = mul-pos a p in
    let n = b.trans * parts - least * b.area in
    let e : b.trans * (10 * parts) - b.area * least * 10 ≡ 10 * n = omega arith in
    factor_same 1000000 _ _ (omega (arith, d)) (omega (arith, d)) (rw e (omega arith))

pub share_low : (b : Bar) → b.share ≤ 25 → α6 b ≡ whole 1
unfolding α6
share_low b h = grind (arith, nat_tests)

pub share_second : (b : Bar) → 25 < b.share → b.share ≤ 33 → α6 b ≡ (800 + 15 * (b.share - 25)) over 800
unfolding α6
share_second b h k = grind (arith, nat_tests)

pub share_third : (b : Bar) → 33 < b.share → b.share ≤ 50 → α6 b ≡ (1955 + 25 * (b.share - 33)) over 1700
unfolding α6
share_third b h k = grind (arith, nat_tests)

pub share_high : (b : Bar) → 50 < b.share → α6 b ≡ tenths 15
unfolding α6
share_high b h = grind (arith, nat_tests)

pub pressure_code : (b : Bar) → ths 1000000 (factor ((4 * b.press) over 1000)) ≡ ths 1000000 (α5 b)
unfolding α5 ◌·◌
pressure_code b = refl

-- α3 by its three cases
surplus_mono : (b : Bar) → Ranged b → {x y : Fraction} → x ≼ y → by_surplus b x ≼ by_surplus b y
unfolding by_surplus
surplus_mono b h o =
    let a : 0 < b.area = omega (arith, h.area_low) in
    factor_mono (·-mono (≼_refl _ (lit< tt)) (÷-mono (less_mono (≼_refl _ (lit< tt)) o) (≼_refl _ (lit< tt)) a a))

surplus_same : (b : Bar) → Ranged b → (x y : Fraction) → 0 < x.den → 0 < y.den → x.num * y.den ≡ y.num * x.den → ths 1000000 (by_surplus b x) ≡ ths 1000000 (by_surplus b y)
surplus_same b h x y p q e = ths_same 1000000 (surplus_mono b h (equal p q e)) (surplus_mono b h (equal q p (sym e)))

-- the least steel of a lap
lap_least : (b : Bar) → Ranged b → (0 < (As b · σ b · γs b ÷ fyk b).den) × ((b.area * (b.stress * b.gs)) * (As b · σ b · γs b ÷ fyk b).den ≡ (As b · σ b · γs b ÷ fyk b).num * (10 * (1000 * b.fyk)))
unfolding ◌·◌ ◌÷◌
lap_least b h = (omega (arith, h.fyk_low), omega arith)

pub lap_steel : (c : Detail) (b : Bar) → Ranged b → c.lap ≡ true → ths 1000000 (by_surplus b ((b.area * (b.stress * b.gs)) over (10 * (1000 * b.fyk)))) ≡ ths 1000000 (α3 c b)
unfolding Astmin
lap_steel c b h e =
    surplus_same b h _ (As b · σ b · γs b ÷ fyk b) (omega (arith, h.fyk_low)) (lap_least b h).0 (lap_least b h).1
    ∙ sym (ap (λ t. ths 1000000 (by_surplus b (cond t (As b · σ b · γs b ÷ fyk b) (cond c.beam (As b ÷ whole 4) (whole 0))))) e)

pub beam_steel : (c : Detail) (b : Bar) → c.lap ≡ false → c.beam ≡ true → ths 1000000 (by_surplus b ((b.area * 1) over (10 * 4))) ≡ ths 1000000 (α3 c b)
unfolding Astmin ◌÷◌
beam_steel c b e f = rw (e, f) refl

pub slab_steel : (c : Detail) (b : Bar) → Ranged b → c.lap ≡ false → c.beam ≡ false → ths 1000000 (by_surplus b ((b.area * 0) over (10 * 1))) ≡ ths 1000000 (α3 c b)
unfolding Astmin
slab_steel c b h e f = surplus_same b h ((b.area * 0) over 10) (whole 0) (lit< tt) (lit< tt) (omega arith) ∙ rw (e, f) refl

-- how large the rounded numbers are
module _ (c : Detail) (b : Bar) (s : Ranged b) where
  pub share_top : ths 1000000 (α6 b) ≤ 1500000
  unfolding rounded
  share_top = omega (arith, (round_most_15 (α6_most c b s)).cross)

  pub lb_top : ths 100 (lb b) ≤ 941100
  unfolding rounded
  lb_top = omega (arith, (lb_most c b s).cross)

  pub product_top : (α235 rounded c b).num ≤ 1000000
  unfolding rounded α235
  product_top = omega (arith, (α235_most c b s).cross)

-- the α235 of the three factors
pub tension_code : (c : Detail) (b : Bar) → c.tension ≡ true → max (ceiling (ths 1000000 (α2 c.shape b) * ths 1000000 (α3 c b) * ths 1000000 (α5 b)) 1000000000000) 700000 ≡ (α235 rounded c b).num
unfolding α235 rounded ◌·◌
tension_code c b e =
    let A = ths 1000000 (α2 c.shape b) in
    let B = ths 1000000 (α3 c b) in
    let C = ths 1000000 (α5 b) in
    let x = (A * B * C) over 1000000000000000000 in
    let t = ceiling_same (1000000 * (A * B * C)) 1000000000000000000 (A * B * C) 1000000000000 (lit< tt) (lit< tt) (omega arith) in
    max_comm _ 700000
    ∙ sym (ap (λ t. ths 1000000 (cond t (tenths 7 ⊔ x) (whole 1))) e ∙ ths-⊔ 1000000 (tenths 7) x (lit< tt) (lit< tt) ∙ ap₂ max seven_ths (ths_over 1000000 (A * B * C) 1000000000000000000 ∙ t))

pub compression_code : (c : Detail) (b : Bar) → c.tension ≡ false → 1000000 ≡ (α235 rounded c b).num
unfolding α235 rounded ths ceiling
compression_code c b e = sym (ap (λ t. ths 1000000 (cond t (tenths 7 ⊔ rounded millionths (α2 c.shape b) · rounded millionths (α3 c b) · rounded millionths (α5 b)) (whole 1))) e)

-- that α235 times α6
with-α6_code : (c : Detail) (b : Bar) → ceiling ((α235 rounded c b).num * ths 1000000 (α6 b)) 1000000 ≡ ths 1000000 (α235 rounded c b · rounded millionths (α6 b))
unfolding α235 rounded ◌·◌
with-α6_code c b =
    let n = (α235 rounded c b).num * ths 1000000 (α6 b) in
    sym (ths_over 1000000 n 1000000000000 ∙ ceiling_same (1000000 * n) 1000000000000 n 1000000 (lit< tt) (lit< tt) (omega arith))

pub l0_code : (c : Detail) (b : Bar) → max (max (max (ceiling ((α1 c b).num * ceiling ((α235 rounded c b).num * ths 1000000 (α6 b)) 1000000 * ths 100 (lb b)) 1000000000) (ceiling (3 * ths 1000000 (α6 b) * ths 100 (lb b)) 1000000000)) (15 * b.dia)) 200 ≡ ths 1 (l0 rounded c b)
unfolding l0 rounded ◌·◌
l0_code c b =
    let L = ths 100 (lb b) in
    let A = ths 1000000 (α6 b) in
    let Q = ths 1000000 (α235 rounded c b · rounded millionths (α6 b)) in
    let x = ((α1 c b).num * Q * L) over 1000000000 in
    let y = (3 * A * L) over 1000000000 in
    rw (with-α6_code c b)
    (sym (ths_four x y (whole (15 * b.dia)) (whole 200) (lit< tt) (lit< tt) (lit< tt) (lit< tt)
    ∙ ap₂ max (ap₂ max (ap₂ max (ths_one ((α1 c b).num * Q * L) 1000000000) (ths_one (3 * A * L) 1000000000)) (ths_whole (15 * b.dia))) (ths_whole 200)))

pub lbd_code : (c : Detail) (b : Bar) → max (max (max (ceiling ((α1 c b).num * (α235 rounded c b).num * (α4 b).num * ths 100 (lb b)) 10000000000) (ceiling (cond c.tension 3 6 * ths 100 (lb b)) 1000)) (10 * b.dia)) 100 ≡ ths 1 (lbd rounded c b)
unfolding lbd rounded α235 ◌·◌
lbd_code c b =
    let L = ths 100 (lb b) in
    let n = (α1 c b).num * (α235 rounded c b).num * (α4 b).num * L in
    let x = n over 10000000000 in
    let y = (cond c.tension 3 6 * L) over 1000 in
    sym (ths_four x y (whole (10 * b.dia)) (whole 100) (lit< tt) (lit< tt) (lit< tt) (lit< tt)
    ∙ ap₂ max (ap₂ max (ap₂ max (ths_one n 10000000000) (ths_one (cond c.tension 3 6 * L) 1000)) (ths_whole (10 * b.dia))) (ths_whole 100))

-- what the program multiplies fits
module _ (c : Detail) (b : Bar) (s : Ranged b) where
  pub lap_product_top : ceiling ((α235 rounded c b).num * ths 1000000 (α6 b)) 1000000 ≤ 1500000
  unfolding rounded
  lap_product_top = rw (with-α6_code c b) (omega (arith, (with-α6_most c b s).cross))

  pub l0_top : ths 1 (l0 rounded c b) ≤ 14117
  l0_top = le_trans (ths_mono 1 (l0_most c b s)) (le_of_eq (ths_whole 14117))

  pub lbd_top : ths 1 (lbd rounded c b) ≤ 14117
  lbd_top = le_trans (ths_mono 1 (lbd_most c b s)) (le_of_eq (ths_whole 14117))

leb_scaled : (a b a' b' : ℕ) → a' ≡ 100 * a → b' ≡ 100 * b → leb a b ≡ leb a' b'
leb_scaled a b a' b' h k = grind (arith, nat_tests)

pub mandrel_code : (b : Bar) → leb (b.area * b.stress * b.gc * (4 * b.dia + b.pitch)) (b.mandrel * (b.acc * b.fck * 200 * b.dia * b.pitch)) ≡ reaches b.mandrel (least_mandrel b)
unfolding reaches least_mandrel fcd ◌·◌ ◌÷◌ ◌plus◌
mandrel_code b = leb_scaled _ _ _ _ (omega arith) (omega arith)

-- what proves each function of a program: of the basic length, α3, α6, α2·α3·α5, a lap, the figure
pub ruleset basic_length = (lb_code, lb_top)

pub ruleset transverse_steel = (lap_steel, beam_steel, slab_steel)

pub ruleset share_lapped = (share_low, share_second, share_third, share_high, share_top)

pub ruleset product = (tension_code, compression_code, product_top)

pub ruleset lap_length = (lap_product_top, l0_code)

pub ruleset longest = (l0_top, lbd_top)
