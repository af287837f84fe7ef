-- The figure rises with what a bar asks. Assumes nothing.
use Rattle.std.proofs.Common.{ℕ, ◌+◌, ◌-◌, ◌*◌, ◌<◌, ◌≤◌, Bool, true, false, cond, ◌&&◌, ltb, leb, le_refl, mul-le-mul_right, lt_of_mul-lt-mul_right, mul-le-mul_left, arith, lit<, lit≤}
use Rattle.std.proofs.lemmas.Bool.Decides.{nat_tests}
use Rattle.measure.specs.Fractions.{Fraction, ◌over◌, whole, tenths, ◌÷◌, ◌less◌, ◌≼◌}
use Rattle.measure.specs.Rounding.{rounded}
use Rattle.measure.proofs.Order.{≼_refl, ·-mono, ÷-mono, less_mono, ⊔-mono, cond_mono, ths_mono, rounded_mono, lit≼, over_mono, leb_cases, Positive, ·-pos, ÷-pos, sub_mul}
use Rattle.anchorage.specs.declared.Bar.{Bar}
use Rattle.anchorage.specs.declared.bonds.Bond.{Bond}
use Rattle.anchorage.specs.declared.bonds.Bond.TheVariants.{Good, Other}
use Rattle.anchorage.specs.declared.Detail.{Detail}
use Rattle.anchorage.specs.declared.Shape.{Shape}
use Rattle.anchorage.specs.declared.Shape.TheVariants.{Straight, Bent, Loop}
use Rattle.anchorage.specs.Quantities.{As}
use Rattle.anchorage.specs.Lengths.{bond_quality, η1, η2, fbd, lb, twice_cd, cd, factor, far, α1, ample, α2, Astmin, by_surplus, α3, α4, α5, α6, α235, lbd, l0, required, figure, millionths}
use Rattle.anchorage.specs.Ranges.{Ranged}
use Rattle.anchorage.proofs.Asking.{Longer}

-- no bond is below 0.7
pub bond_least : (bond : Bond) → 7 ≤ bond_quality bond
bond_least Good = lit≤ tt
bond_least Other = lit≤ tt

pub η1_pos : (b : Bar) → Positive (η1 b)
η1_pos b = record { num_pos = omega (arith, bond_least b.bond); den_pos = lit< tt }

pub η2_pos : (b : Bar) → Ranged b → Positive (η2 b)
η2_pos b s = record { num_pos = grind (arith, nat_tests, s.dia_high); den_pos = lit< tt }

pub fbd_pos : (b : Bar) → Ranged b → Positive (fbd b)
unfolding fbd
fbd_pos b s = ÷-pos (·-pos (·-pos (·-pos (·-pos (omega arith) (η1_pos b)) (η2_pos b s)) (omega (arith, s.act_low))) (omega (arith, s.fctk_low))) (omega (arith, s.gc_low))

η1_mono : {s : Shape} {p q : Bar} → Longer s p q → η1 p ≼ η1 q
η1_mono {s} {p} {q} a = over_mono 10 (lit< tt) a.bond

η2_mono : {s : Shape} {p q : Bar} → Longer s p q → Ranged p → η2 p ≼ η2 q
η2_mono {s} {p} {q} a m = over_mono 100 (lit< tt) (grind (arith, nat_tests, a.dia, m.dia_high))

pub fbd_mono : {s : Shape} {p q : Bar} → Longer s p q → Ranged p → Ranged q → fbd p ≼ fbd q
unfolding fbd
fbd_mono {s} {p} {q} a m n =
    ÷-mono
    (·-mono (·-mono (·-mono (·-mono (lit≼ tt tt tt) (η1_mono a)) (η2_mono a m)) (over_mono 100 (omega arith) a.act)) (over_mono 10 (omega arith) a.fctk))
    (over_mono 100 (omega arith) a.gc)
    (omega (arith, n.gc_low)) (omega (arith, m.gc_low))

pub lb_mono : {s : Shape} {p q : Bar} → Longer s p q → Ranged p → Ranged q → lb q ≼ lb p
unfolding lb
lb_mono {s} {p} {q} a m n =
    ·-mono (over_mono 4 (omega arith) a.dia) (÷-mono (over_mono 10 (omega arith) a.stress) (fbd_mono a m n) (fbd_pos p m).num_pos (fbd_pos q n).num_pos)

pub factor_mono : {x y : Fraction} → x ≼ y → factor y ≼ factor x
unfolding factor
factor_mono h = ⊔-mono (lit≼ tt tt tt) (less_mono (lit≼ tt tt tt) h)

-- 1 or 0.7, by a test that q passes only if p does
switch : (m n m' n' : ℕ) → (m ≤ n → m' ≤ n') → tenths (cond (leb m n) 10 7) ≼ tenths (cond (leb m' n') 10 7)
switch m n m' n' h = over_mono 10 (lit< tt) (grind (arith, nat_tests))

-- twice a cover, t of a bar of d mm and u of one of e mm: the first is no larger in diameters
module _ (t u d e : ℕ) (pd : 0 < d) (pe : 0 < e) (h : t * e ≤ u * d) where
  further : 6 * d < t → 6 * e < u
  further k =
      let a = mul-le-mul_right e k in
      let b : (6 * e) * d < u * d = omega (arith, a, h) in
      lt_of_mul-lt-mul_right d b

  far_order : cond (ltb (6 * e) u) 7 10 ≤ cond (ltb (6 * d) t) 7 10
  far_order = grind (arith, nat_tests, further)

  surplus_order : (k : ℕ) → (t over 2 less whole (k * d)) ÷ whole d ≼ (u over 2 less whole (k * e)) ÷ whole e
  unfolding ◌less◌ ◌÷◌
  surplus_order k =
      let a = sub_mul (t * 1) (k * d * 2) e in
      let b = sub_mul (u * 1) (k * e * 2) d in
      record { left = omega arith; right = omega arith; cross = omega (arith, a, b, h) }

far_mono : (s : Shape) {p q : Bar} → Longer s p q → 0 < p.dia → 0 < q.dia → cond (far s q) 7 10 ≤ cond (far s p) 7 10
far_mono Straight a m n = le_refl 10
far_mono Bent {p} {q} a m n = far_order (twice_cd Bent p) (twice_cd Bent q) p.dia q.dia m n a.cover
far_mono Loop {p} {q} a m n = far_order (twice_cd Loop p) (twice_cd Loop q) p.dia q.dia m n a.cover

pub α1_mono : (c : Detail) {p q : Bar} → Longer c.shape p q → Ranged p → Ranged q → α1 c q ≼ α1 c p
α1_mono c {p} {q} a m n = over_mono 10 (lit< tt) (go c.tension)
  where
    go : (t : Bool) → cond (t && far c.shape q) 7 10 ≤ cond (t && far c.shape p) 7 10
    go true = far_mono c.shape a (omega (arith, m.dia_low)) (omega (arith, n.dia_low))
    go false = le_refl 10

pub α2_mono : (s : Shape) {p q : Bar} → Longer s p q → Ranged p → Ranged q → α2 s q ≼ α2 s p
unfolding α2 cd
α2_mono s {p} {q} a m n =
    factor_mono
    (·-mono (lit≼ tt tt tt)
    (surplus_order (twice_cd s p) (twice_cd s q) p.dia q.dia (omega (arith, m.dia_low)) (omega (arith, n.dia_low)) a.cover (ample s)))

As_mono : {s : Shape} {p q : Bar} → Longer s p q → As q ≼ As p
As_mono a = over_mono 10 (lit< tt) a.area

pub Astmin_mono : (c : Detail) {p q : Bar} → Longer c.shape p q → Ranged p → Ranged q → Astmin c q ≼ Astmin c p
unfolding Astmin
Astmin_mono c a m n =
    cond_mono c.lap
    (÷-mono (·-mono (·-mono (As_mono a) (over_mono 10 (lit< tt) a.stress)) (over_mono 100 (lit< tt) a.gs)) (over_mono 1 (lit< tt) a.fyk) (omega (arith, m.fyk_low)) (omega (arith, n.fyk_low)))
    (cond_mono c.beam (÷-mono (As_mono a) (lit≼ tt tt tt) (lit< tt) (lit< tt)) (lit≼ tt tt tt))

pub α3_mono : (c : Detail) {p q : Bar} → Longer c.shape p q → Ranged p → Ranged q → α3 c q ≼ α3 c p
unfolding by_surplus
α3_mono c {p} {q} a m n =
    factor_mono
    (·-mono (over_mono 100 (lit< tt) a.eff)
    (÷-mono (less_mono (over_mono 10 (lit< tt) a.trans) (Astmin_mono c a m n)) (As_mono a) (omega (arith, n.area_low)) (omega (arith, m.area_low))))

pub α4_mono : {s : Shape} {p q : Bar} → Longer s p q → α4 q ≼ α4 p
α4_mono {s} {p} {q} a = switch (10 * q.weld) (6 * q.dia) (10 * p.weld) (6 * p.dia) (λ h. omega (arith, a.weld, a.dia))

pub α5_mono : {s : Shape} {p q : Bar} → Longer s p q → α5 q ≼ α5 p
unfolding α5
α5_mono a = factor_mono (·-mono (lit≼ tt tt tt) (over_mono 10 (omega arith) a.press))

pub α6_mono : {shape : Shape} {p q : Bar} → Longer shape p q → α6 q ≼ α6 p
unfolding α6
α6_mono {shape} {p} {q} a =
    leb_cases (λ t. cond t (whole 1) (cond (leb s 33) (second s) (cond (leb s 50) (third s) (15 over 10))) ≼ α6 p) s 25
    (λ h. from (whole 1) (λ _. lit≼ tt tt tt) (λ k l. ≼-num (omega arith) (omega arith) (omega arith)) (λ k l. ≼-num (omega arith) (omega arith) (omega arith)) (lit≼ tt tt tt))
    (λ h. leb_cases (λ t. cond t (second s) (cond (leb s 50) (third s) (15 over 10)) ≼ α6 p) s 33
    (λ k. from (second s) (λ l. absurd (omega (arith, a.share))) (λ l m. ≼-num (omega arith) (omega arith) (omega (arith, a.share))) (λ l m. ≼-num (omega arith) (omega arith) (omega (arith, a.share))) (≼-num (omega arith) (omega arith) (omega arith)))
    (λ k. leb_cases (λ t. cond t (third s) (15 over 10) ≼ α6 p) s 50
    (λ l. from (third s) (λ m. absurd (omega (arith, a.share))) (λ m n. absurd (omega (arith, a.share))) (λ m n. ≼-num (omega arith) (omega arith) (omega (arith, a.share))) (≼-num (omega arith) (omega arith) (omega arith)))
    (λ l. from (15 over 10) (λ m. absurd (omega (arith, a.share))) (λ m n. absurd (omega (arith, a.share))) (λ m n. absurd (omega (arith, a.share))) (lit≼ tt tt tt))))
  where
    s : ℕ
    s = q.share

    second : ℕ → Fraction
    second n = (800 + 15 * (n - 25)) over 800

    third : ℕ → Fraction
    third n = (1955 + 25 * (n - 33)) over 1700

    ≼-num : {x y : Fraction} → 0 < x.den → 0 < y.den → x.num * y.den ≤ y.num * x.den → x ≼ y
    ≼-num l r c = record { left = l; right = r; cross = c }

    from : (x : Fraction) → (p.share ≤ 25 → x ≼ whole 1) → (25 < p.share → p.share ≤ 33 → x ≼ second p.share) → (33 < p.share → p.share ≤ 50 → x ≼ third p.share) → x ≼ 15 over 10 → x ≼ α6 p
    from x h₁ h₂ h₃ h₄ =
        leb_cases (λ t. x ≼ cond t (whole 1) (cond (leb p.share 33) (second p.share) (cond (leb p.share 50) (third p.share) (15 over 10)))) p.share 25 h₁
        (λ g₁. leb_cases (λ t. x ≼ cond t (second p.share) (cond (leb p.share 50) (third p.share) (15 over 10))) p.share 33 (h₂ g₁)
        (λ g₂. leb_cases (λ t. x ≼ cond t (third p.share) (15 over 10)) p.share 50 (h₃ g₂) (λ _. h₄)))

module _ (c : Detail) {p q : Bar} (a : Longer c.shape p q) (m : Ranged p) (n : Ranged q) where
  up_mono : {x y : Fraction} → x ≼ y → rounded millionths x ≼ rounded millionths y
  up_mono h = rounded_mono millionths (lit< tt) h

  rounded_lb_mono : rounded 100 (lb q) ≼ rounded 100 (lb p)
  rounded_lb_mono = rounded_mono 100 (lit< tt) (lb_mono a m n)

  α235_mono : α235 rounded c q ≼ α235 rounded c p
  unfolding α235
  α235_mono =
      up_mono
      (cond_mono c.tension
      (⊔-mono (lit≼ tt tt tt) (·-mono (·-mono (up_mono (α2_mono c.shape a m n)) (up_mono (α3_mono c a m n))) (up_mono (α5_mono a))))
      (lit≼ tt tt tt))

  lbd_mono : lbd rounded c q ≼ lbd rounded c p
  unfolding lbd
  lbd_mono =
      ⊔-mono
      (⊔-mono (⊔-mono (·-mono (·-mono (·-mono (α1_mono c a m n) α235_mono) (α4_mono a)) rounded_lb_mono) (·-mono (≼_refl _ (lit< tt)) rounded_lb_mono))
      (over_mono 1 (lit< tt) (mul-le-mul_left 10 a.dia)))
      (lit≼ tt tt tt)

  l0_mono : l0 rounded c q ≼ l0 rounded c p
  unfolding l0
  l0_mono =
      ⊔-mono
      (⊔-mono (⊔-mono (·-mono (·-mono (α1_mono c a m n) (up_mono (·-mono α235_mono (up_mono (α6_mono a))))) rounded_lb_mono) (·-mono (·-mono (lit≼ tt tt tt) (up_mono (α6_mono a))) rounded_lb_mono))
      (over_mono 1 (lit< tt) (mul-le-mul_left 15 a.dia)))
      (lit≼ tt tt tt)

  pub figure_mono : figure c q ≤ figure c p
  unfolding figure required
  figure_mono = ths_mono 1 (cond_mono c.lap l0_mono lbd_mono)
