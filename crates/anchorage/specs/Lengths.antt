-- The length that an anchorage or a lap needs (EN 1992-1-1, 8.4 and 8.7). Assumes nothing.
-- `up k x` is how x is rounded to k-ths: with `unrounded` the formulas give the exact requirement, with `rounded` the figure
-- before it is itself rounded to whole mm.
use Rattle.std.specs.Prelude.{ℕ, ◌+◌, ◌-◌, ◌*◌, min, Bool, false, cond, ◌&&◌, nat_le, nat_lt}
use Rattle.measure.specs.Fractions.{Fraction, ◌over◌, whole, tenths, hundredths, ◌·◌, ◌÷◌, ◌less◌, ◌⊔◌}
use Rattle.measure.specs.Rounding.{ths, rounded, unrounded}
use Rattle.anchorage.specs.declared.bonds.Bond.{Bond}
use Rattle.anchorage.specs.declared.bonds.Bond.TheVariants.{Good, Other}
use Rattle.anchorage.specs.declared.Bar.{Bar}
use Rattle.anchorage.specs.declared.Detail.{Detail}
use Rattle.anchorage.specs.declared.Shape.{Shape}
use Rattle.anchorage.specs.declared.Shape.TheVariants.{Straight, Bent, Loop}
use Rattle.anchorage.specs.Quantities.{φ, As, Ast, σ, fyk, fctk, γc, γs, αct, K, p}

-- in tenths: 1 for good bond, else 0.7
abbrev pub bond_quality : Bond → ℕ
bond_quality Good = 10
bond_quality Other = 7

-- for the bond
abbrev pub η1 : Bar → Fraction
η1 b = tenths (bond_quality b.bond)

-- 1 up to 32 mm, else (132 − φ)/100
abbrev pub η2 : Bar → Fraction
η2 b = hundredths (cond (nat_le (φ b) 32) 100 (132 - φ b))

-- the bond strength
unfoldable pub fbd : Bar → Fraction
fbd b = hundredths 225 · η1 b · η2 b · αct b · fctk b ÷ γc b

-- the basic length
unfoldable pub lb : Bar → Fraction
lb b = φ b over 4 · (σ b ÷ fbd b)

-- twice the cover that counts, since half the gap is part of it
abbrev pub twice_cd : Shape → Bar → ℕ
twice_cd Straight b = min b.gap (min (2 * b.side) (2 * b.cover))
twice_cd Bent b = min b.gap (2 * b.side)
twice_cd Loop b = 2 * b.cover

-- the cover that counts
unfoldable pub cd : Shape → Bar → Fraction
cd s b = twice_cd s b over 2

-- 1 − x, but from 0.7 to 1
unfoldable pub factor : Fraction → Fraction
factor x = tenths 7 ⊔ (whole 1 less x)

-- the bar is not straight, and cd is above 3φ
abbrev pub far : Shape → Bar → Bool
far Straight b = false
far Bent b = nat_lt (6 * φ b) (twice_cd Bent b)
far Loop b = nat_lt (6 * φ b) (twice_cd Loop b)

-- for the bar's shape
abbrev pub α1 : Detail → Bar → Fraction
α1 d b = tenths (cond (d.tension && far d.shape b) 7 10)

-- the cover, in diameters, above which α2 falls
abbrev pub ample : Shape → ℕ
ample Straight = 1
ample Bent = 3
ample Loop = 3

-- for the cover
unfoldable pub α2 : Shape → Bar → Fraction
α2 s b = factor (hundredths 15 · ((cd s b less whole (ample s * φ b)) ÷ whole (φ b)))

-- the least transverse steel
unfoldable pub Astmin : Detail → Bar → Fraction
Astmin d b = cond d.lap (As b · σ b · γs b ÷ fyk b) (cond d.beam (As b ÷ whole 4) (whole 0))

-- for transverse steel beyond the least; a surplus below 0 counts as 0
unfoldable pub by_surplus : Bar → Fraction → Fraction
by_surplus b least = factor (K b · ((Ast b less least) ÷ As b))

abbrev pub α3 : Detail → Bar → Fraction
α3 d b = by_surplus b (Astmin d b)

-- for a welded cross bar of more than 0.6φ
abbrev pub α4 : Bar → Fraction
α4 b = tenths (cond (nat_le (10 * b.weld) (6 * φ b)) 10 7)

-- for pressure across the bar
unfoldable pub α5 : Bar → Fraction
α5 b = factor (hundredths 4 · p b)

-- for the share lapped: 1 up to 25 percent, 1.15 at 33 and 1.4 at 50, straight lines between, and 1.5 above 50
unfoldable pub α6 : Bar → Fraction
α6 b =
    cond (nat_le b.share 25) (whole 1)
    (cond (nat_le b.share 33) ((800 + 15 * (b.share - 25)) over 800)
    (cond (nat_le b.share 50) ((1955 + 25 * (b.share - 33)) over 1700) (tenths 15)))

abbrev pub millionths : ℕ
millionths = 1000000

module _ (up : ℕ → Fraction → Fraction) where
  -- α2·α3·α5, at least 0.7; 1 in compression
  unfoldable pub α235 : Detail → Bar → Fraction
  α235 d b =
      up millionths
      (cond d.tension (tenths 7 ⊔ up millionths (α2 d.shape b) · up millionths (α3 d b) · up millionths (α5 b)) (whole 1))

  -- of an anchorage: the greatest of four
  unfoldable pub lbd : Detail → Bar → Fraction
  lbd d b =
      let basic = up 100 (lb b) in
      α1 d b · α235 d b · α4 b · basic ⊔ tenths (cond d.tension 3 6) · basic ⊔ whole (10 * φ b) ⊔ whole 100

  -- of a lap: the greatest of four
  unfoldable pub l0 : Detail → Bar → Fraction
  l0 d b =
      let basic = up 100 (lb b) in
      let lapped = up millionths (α6 b) in
      α1 d b · up millionths (α235 d b · lapped) · basic ⊔ tenths 3 · lapped · basic ⊔ whole (15 * φ b) ⊔ whole 200

  unfoldable pub required : Detail → Bar → Fraction
  required d b = cond d.lap (l0 d b) (lbd d b)

-- the exact requirement, in mm
unfoldable pub exact : Detail → Bar → Fraction
exact = required unrounded

-- the figure: each step rounded upward, the whole to mm
unfoldable pub figure : Detail → Bar → ℕ
figure d b = ths 1 (required rounded d b)
