-- A bar that asks less meets every rule that one which asks more does. Assumes nothing.
use Rattle.std.proofs.Common.{◌≡◌, ℕ, zero, suc, ◌*◌, ◌<◌, ◌≤◌, Bool, true, false, List, [], ◌∷◌, get_or, refl, mul-le-mul_right, mul-le-mul, mul-pos, arith, lit<}
use Rattle.std.proofs.lemmas.Bool.Decides.{nat_tests}
use Rattle.measure.specs.Fractions.{◌over◌, tenths, ◌·◌, ◌÷◌, ◌plus◌, ◌≼◌}
use Rattle.measure.specs.Rounding.{reaches}
use Rattle.measure.proofs.Order.{·-mono, ÷-mono, over_mono, reaches_more}
use Rattle.anchorage.specs.declared.Bar.{Bar}
use Rattle.anchorage.specs.declared.Detail.{Detail}
use Rattle.anchorage.specs.Rules.{straight, fcd, least_mandrel, rule1, rule2, rule3, rule4, rule5, rule6, rule7, rule8, rules}
use Rattle.anchorage.specs.Ranges.{Ranged}
use Rattle.anchorage.proofs.Asking.{Stricter}
use Rattle.anchorage.proofs.Rising.{figure_mono}

-- what holds of xs, place by place, holds of ys
abbrev pub Implies : List Bool → List Bool → Type 0
Implies [] [] = Unit {0}
Implies [] (y ∷ ys) = ⊥
Implies (x ∷ xs) [] = ⊥
Implies (x ∷ xs) (y ∷ ys) = (x ≡ true → y ≡ true) × Implies xs ys

pub implies_at : (xs ys : List Bool) → Implies xs ys → (r : ℕ) → get_or xs r true ≡ true → get_or ys r true ≡ true
implies_at [] [] i r e = refl
implies_at [] (y ∷ ys) i r e = absurd i
implies_at (x ∷ xs) [] i r e = absurd i
implies_at (x ∷ xs) (y ∷ ys) i zero e = i.0 e
implies_at (x ∷ xs) (y ∷ ys) i (suc r) e = implies_at xs ys i.1 r e

fcd_num : (b : Bar) → Ranged b → 0 < (fcd b).num
unfolding fcd ◌·◌ ◌÷◌
fcd_num b s = mul-pos (mul-pos (omega (arith, s.acc_low)) (omega (arith, s.fck_low))) (lit< tt)

-- As·σ·(2/pitch + 1/(2φ)) rises, since As and As/φ do
spread_mono : (A B σ τ d e t u : ℕ) → 0 < d → 0 < e → 0 < t → 0 < u → A ≤ B → A * e ≤ B * d → σ ≤ τ → u ≤ t → tenths A · tenths σ · (2 over t plus 1 over (2 * d)) ≼ tenths B · tenths τ · (2 over u plus 1 over (2 * e))
unfolding ◌·◌ ◌plus◌
spread_mono A B σ τ d e t u pd pe pt pu h k g l =
    let x = mul-le-mul_right (d * e) (mul-le-mul (mul-le-mul h g) l) in
    let y = mul-le-mul_right (t * u) (mul-le-mul k g) in
    record { left = omega (arith, mul-pos pt pd); right = omega (arith, mul-pos pu pe); cross = omega (arith, x, y) }

module _ (c : Detail) {p q : Bar} (a : Stricter c.shape p q) (m : Ranged p) (n : Ranged q) (bp : straight c.shape ≡ false → 1 ≤ p.pitch) where
  fcd_mono : fcd p ≼ fcd q
  unfolding fcd
  fcd_mono =
      ÷-mono (·-mono (over_mono 100 (lit< tt) a.acc) (over_mono 1 (lit< tt) a.fck)) (over_mono 100 (lit< tt) a.longer.gc) (omega (arith, n.gc_low)) (omega (arith, m.gc_low))

  mandrel_mono : 1 ≤ p.pitch → least_mandrel q ≼ least_mandrel p
  unfolding least_mandrel
  mandrel_mono h =
      ÷-mono
      (spread_mono q.area p.area q.stress p.stress q.dia p.dia q.pitch p.pitch (omega (arith, n.dia_low)) (omega (arith, m.dia_low)) (omega (arith, h, a.pitch)) h a.longer.area a.slender a.longer.stress a.pitch)
      fcd_mono (fcd_num p m) (fcd_num q n)

  mandrel_step : straight c.shape ≡ false → reaches p.mandrel (least_mandrel p) ≡ true → reaches q.mandrel (least_mandrel q) ≡ true
  mandrel_step e r = reaches_more p.mandrel q.mandrel (least_mandrel p) (least_mandrel q) (mandrel_mono (bp e)) a.mandrel r

  keeps1 : rule1 p ≡ true → rule1 q ≡ true
  keeps1 r = let x = mul-le-mul a.k1 a.longer.dia in grind (arith, nat_tests, a.gap, a.agg, a.k2)

  keeps2 : rule2 c p ≡ true → rule2 c q ≡ true
  keeps2 r = let x = mul-le-mul a.multiple a.longer.dia in grind (arith, nat_tests, a.mandrel)

  keeps3 : rule3 c p ≡ true → rule3 c q ≡ true
  unfolding rule3
  keeps3 r = grind (arith, nat_tests, mandrel_step)

  keeps4 : rule4 c p ≡ true → rule4 c q ≡ true
  keeps4 r = grind (arith, nat_tests, a.layers, a.longer.share)

  keeps5 : rule5 c p ≡ true → rule5 c q ≡ true
  keeps5 r = grind (arith, nat_tests, a.longer.dia, a.apart)

  keeps6 : rule6 c p ≡ true → rule6 c q ≡ true
  keeps6 r = grind (arith, nat_tests, a.longer.dia, a.longer.share, a.longer.trans, a.longer.area)

  keeps7 : rule7 c p ≡ true → rule7 c q ≡ true
  keeps7 r = grind (arith, nat_tests, a.longer.dia, a.longer.share, a.apart, a.ties)

  keeps8 : rule8 c p ≡ true → rule8 c q ≡ true
  keeps8 r = grind (arith, nat_tests, a.provided, figure_mono c a.longer m n)

  pub rules_kept : (r : ℕ) → get_or (rules c p) r true ≡ true → get_or (rules c q) r true ≡ true
  rules_kept = implies_at (rules c p) (rules c q) (keeps1, (keeps2, (keeps3, (keeps4, (keeps5, (keeps6, (keeps7, (keeps8, tt))))))))
