-- The figure is near the exact requirement: the errors of the roundings, added up. Assumes nothing.
use Rattle.std.proofs.Common.{ℕ, ◌+◌, ◌-◌, ◌*◌, ◌<◌, ◌≤◌, Bool, true, false, cond, ◌&&◌, leb, mul-le-mul_right, arith, lit<, lit≤}
use Rattle.measure.specs.Fractions.{Fraction, ◌over◌, whole, tenths, ◌·◌, ◌÷◌, ◌less◌, ◌⊔◌, ◌≼◌, Near}
use Rattle.measure.specs.Rounding.{ceiling, ths, rounded, unrounded}
use Rattle.measure.proofs.Order.{≼_trans, ·-mono, less_le, ⊔-least, rounded_mono, lit≼, over_mono, leb_cases, cond_most}
use Rattle.measure.proofs.Errors.{Within, within_self, within-·, within-⊔, within_rounded, within_whole, within_cond, exactly}
use Rattle.anchorage.specs.declared.Bar.{Bar}
use Rattle.anchorage.specs.declared.bonds.Bond.TheVariants.{Other}
use Rattle.anchorage.specs.declared.Detail.{Detail}
use Rattle.anchorage.specs.declared.Shape.{Shape}
use Rattle.anchorage.specs.declared.Shape.TheVariants.{Straight}
use Rattle.anchorage.specs.Lengths.{fbd, lb, twice_cd, factor, far, α1, α2, by_surplus, α3, α4, α5, α6, α235, lbd, l0, required, figure, exact, millionths}
use Rattle.anchorage.specs.Ranges.{Ranged}
use Rattle.anchorage.proofs.Asking.{Longer}
use Rattle.anchorage.proofs.Rising.{bond_least, lb_mono, α2_mono, α3_mono, α5_mono}

-- the bar that asks most of its basic length, else as b
worst : Bar → Bar
worst b = record {
  dia = 40;
  area = b.area;
  stress = 6000;
  fctk = 11;
  fyk = b.fyk;
  gc = 200;
  gs = b.gs;
  act = 80;
  bond = Other;
  gap = 0;
  side = b.side;
  cover = b.cover;
  trans = b.trans;
  eff = b.eff;
  weld = b.weld;
  press = b.press;
  share = b.share;
  fck = b.fck;
  acc = b.acc;
  k1 = b.k1;
  k2 = b.k2;
  multiple = b.multiple;
  layers = b.layers;
  apart = b.apart;
  ties = b.ties;
  agg = b.agg;
  mandrel = b.mandrel;
  pitch = b.pitch;
  provided = b.provided;
}

-- with no gap a straight bar has no cover that counts
worst_asks : (b : Bar) → Ranged b → Longer Straight (worst b) b
unfolding worst
worst_asks b s =
    let none : twice_cd Straight (worst b) ≤ 0 = omega arith in
    omega (arith, s, bond_least b.bond, mul-le-mul_right b.dia none)

worst_ranged : (b : Bar) → Ranged b → Ranged (worst b)
unfolding worst
worst_ranged b s = omega (arith, s)

worst_lb : (b : Bar) → lb (worst b) ≼ 94110 over 10
unfolding worst lb fbd ◌·◌ ◌÷◌
worst_lb b = lit≼ tt tt tt

lb_under : (b : Bar) → Ranged b → lb b ≼ 94110 over 10
lb_under b s = ≼_trans (lb_mono (worst_asks b s) (worst_ranged b s) s) (worst_lb b)

-- 1, over the denominator that bounds are written with
abbrev pub unit : Fraction
unit = 10 over 10

same : (s : Shape) (b : Bar) → Longer s b b
same s b = omega arith

factor_most : (x : Fraction) → 0 < (factor x).den → factor x ≼ unit
unfolding factor ◌⊔◌ ◌less◌
factor_most x p = ⊔-least (lit≼ tt tt tt) (≼_trans (less_le (whole 1) x (lit< tt) (omega arith)) (lit≼ tt tt tt))

-- rounded to millionths, a fraction at most 1 is at most 1, and one at most 1.5 is at most 1.5
pub round_most : {x : Fraction} → x ≼ unit → rounded millionths x ≼ unit
unfolding rounded ths ceiling
round_most h = ≼_trans (rounded_mono millionths (lit< tt) h) (lit≼ tt tt tt)

pub round_most_15 : {x : Fraction} → x ≼ 15 over 10 → rounded millionths x ≼ 15 over 10
unfolding rounded ths ceiling
round_most_15 h = ≼_trans (rounded_mono millionths (lit< tt) h) (lit≼ tt tt tt)

·-most : {x y : Fraction} → x ≼ unit → y ≼ unit → x · y ≼ unit
unfolding ◌·◌
·-most h k = ≼_trans (·-mono h k) (lit≼ tt tt tt)

·-most-15 : {x y : Fraction} → x ≼ unit → y ≼ 15 over 10 → x · y ≼ 15 over 10
unfolding ◌·◌
·-most-15 h k = ≼_trans (·-mono h k) (lit≼ tt tt tt)

pub α1_most : (c : Detail) (b : Bar) → α1 c b ≼ unit
α1_most c b = go (c.tension && far c.shape b)
  where
    go : (t : Bool) → tenths (cond t 7 10) ≼ unit
    go true = lit≼ tt tt tt
    go false = lit≼ tt tt tt

pub α4_most : (b : Bar) → α4 b ≼ unit
α4_most b = go (leb (10 * b.weld) (6 * b.dia))
  where
    go : (t : Bool) → tenths (cond t 10 7) ≼ unit
    go true = lit≼ tt tt tt
    go false = lit≼ tt tt tt

millionth : {e : ℕ} {x y : Fraction} → Within e x y → Within (e + 1000) x (rounded millionths y)
millionth h = within_rounded 1000 millionths (lit< tt) (lit≤ tt) h

module _ (c : Detail) (b : Bar) (s : Ranged b) where
  pub α2_most : α2 c.shape b ≼ unit
  unfolding α2
  α2_most = factor_most _ (α2_mono c.shape (same c.shape b) s s).left

  pub α3_most : α3 c b ≼ unit
  unfolding by_surplus
  α3_most = factor_most _ (α3_mono c (same c.shape b) s s).left

  pub α5_most : α5 b ≼ unit
  unfolding α5
  α5_most = factor_most _ (α5_mono (same c.shape b)).left

  pub α6_most : α6 b ≼ 15 over 10
  unfolding α6
  α6_most =
      cond_most (leb b.share 25) (lit≼ tt tt tt)
      (leb_cases (λ t. cond t ((800 + 15 * (b.share - 25)) over 800) (cond (leb b.share 50) ((1955 + 25 * (b.share - 33)) over 1700) (15 over 10)) ≼ 15 over 10) b.share 33 (λ h. record { left = lit< tt; right = lit< tt; cross = omega arith })
      (λ _. leb_cases (λ t. cond t ((1955 + 25 * (b.share - 33)) over 1700) (15 over 10) ≼ 15 over 10) b.share 50 (λ h. record { left = lit< tt; right = lit< tt; cross = omega arith }) (λ _. lit≼ tt tt tt)))

  -- the three factors: off by one millionth each
  three_within : Within 3000 (α2 c.shape b · α3 c b · α5 b) (rounded millionths (α2 c.shape b) · rounded millionths (α3 c b) · rounded millionths (α5 b))
  three_within =
      within-· 3000 10 10
      (within-· 2000 10 10 (millionth (within_self _ α2_most.left)) (millionth (within_self _ α3_most.left)) (round_most α2_most) (round_most α3_most) (lit≤ tt))
      (millionth (within_self _ α5_most.left))
      (·-most (round_most α2_most) (round_most α3_most)) (round_most α5_most) (lit≤ tt)

  α235_within : Within 4000 (α235 unrounded c b) (α235 rounded c b)
  unfolding α235
  α235_within = millionth (within_cond c.tension (within-⊔ (exactly 3000 (tenths 7) (lit< tt)) three_within) (exactly 3000 (whole 1) (lit< tt)))

  pub α235_most : α235 rounded c b ≼ unit
  unfolding α235
  α235_most =
      round_most (cond_most c.tension (⊔-least (lit≼ tt tt tt) (·-most (·-most (round_most α2_most) (round_most α3_most)) (round_most α5_most))) (lit≼ tt tt tt))

  α6_within : Within 1000 (α6 b) (rounded millionths (α6 b))
  α6_within = millionth (within_self _ α6_most.left)

  -- that α235 times α6
  with-α6_within : Within 8000 (α235 unrounded c b · α6 b) (rounded millionths (α235 rounded c b · rounded millionths (α6 b)))
  with-α6_within = millionth (within-· 7000 10 15 α235_within α6_within α235_most (round_most_15 α6_most) (lit≤ tt))

  pub with-α6_most : rounded millionths (α235 rounded c b · rounded millionths (α6 b)) ≼ 15 over 10
  with-α6_most = round_most_15 (·-most-15 α235_most (round_most_15 α6_most))

  lb_within : Within 10000000 (lb b) (rounded 100 (lb b))
  lb_within = within_rounded 10000000 100 (lit< tt) (lit≤ tt) (within_self _ (lb_under b s).left)

  pub lb_most : rounded 100 (lb b) ≼ 94110 over 10
  unfolding rounded ths ceiling
  lb_most = ≼_trans (rounded_mono 100 (lit< tt) (lb_under b s)) (lit≼ tt tt tt)

  l0_within : Within 90300000 (l0 unrounded c b) (l0 rounded c b)
  unfolding l0
  l0_within =
      within-⊔
      (within-⊔
      (within-⊔
      (within-· 90300000 15 94110 (within-· 8000 10 15 (within_self _ (α1_most c b).left) with-α6_within (α1_most c b) with-α6_most (lit≤ tt)) lb_within (·-most-15 (α1_most c b) with-α6_most) lb_most (lit≤ tt))
      (within-· 90300000 15 94110 (within-· 1000 10 15 (exactly 0 (3 over 10) (lit< tt)) α6_within (lit≼ tt tt tt) (round_most_15 α6_most) (lit≤ tt)) lb_within (·-most-15 (lit≼ tt tt tt) (round_most_15 α6_most)) lb_most (lit≤ tt)))
      (exactly 90300000 (whole (15 * b.dia)) (lit< tt)))
      (exactly 90300000 (whole 200) (lit< tt))

  least_share : tenths (cond c.tension 3 6) ≼ unit
  least_share = go c.tension
    where
      go : (t : Bool) → tenths (cond t 3 6) ≼ unit
      go true = lit≼ tt tt tt
      go false = lit≼ tt tt tt

  lbd_within : Within 90300000 (lbd unrounded c b) (lbd rounded c b)
  unfolding lbd
  lbd_within =
      within-⊔
      (within-⊔
      (within-⊔
      (within-· 90300000 10 94110
      (within-· 4000 10 10 (within-· 4000 10 10 (within_self _ (α1_most c b).left) α235_within (α1_most c b) α235_most (lit≤ tt)) (within_self _ (α4_most b).left) (·-most (α1_most c b) α235_most) (α4_most b) (lit≤ tt))
      lb_within (·-most (·-most (α1_most c b) α235_most) (α4_most b)) lb_most (lit≤ tt))
      (within-· 90300000 10 94110 (within_self _ least_share.left) lb_within least_share lb_most (lit≤ tt)))
      (exactly 90300000 (whole (10 * b.dia)) (lit< tt)))
      (exactly 90300000 (whole 100) (lit< tt))

  -- no length is above 14117 mm
  by_lb_15 : {x : Fraction} → x ≼ 15 over 10 → x · rounded 100 (lb b) ≼ whole 14117
  unfolding ◌·◌
  by_lb_15 h = ≼_trans (·-mono h lb_most) (lit≼ tt tt tt)

  pub l0_most : l0 rounded c b ≼ whole 14117
  unfolding l0
  l0_most =
      ⊔-least
      (⊔-least (⊔-least (by_lb_15 (·-most-15 (α1_most c b) with-α6_most)) (by_lb_15 (·-most-15 (lit≼ tt tt tt) (round_most_15 α6_most))))
      (over_mono 1 (lit< tt) (omega (arith, s.dia_high))))
      (lit≼ tt tt tt)

  pub lbd_most : lbd rounded c b ≼ whole 14117
  unfolding lbd
  lbd_most =
      ⊔-least
      (⊔-least (⊔-least (by_lb_15 (≼_trans (·-most (·-most (α1_most c b) α235_most) (α4_most b)) (lit≼ tt tt tt))) (by_lb_15 (≼_trans least_share (lit≼ tt tt tt))))
      (over_mono 1 (lit< tt) (omega (arith, s.dia_high))))
      (lit≼ tt tt tt)

  pub figure_near : Near (figure c b) (exact c b)
  unfolding figure exact required
  figure_near = within_whole (lit< tt) (within_cond c.lap l0_within lbd_within)
