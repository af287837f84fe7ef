use Rattle.std.proofs.Common.{◌+◌, ◌*◌, ◌≤◌, le_refl, mul-le-mul, arith}
use Rattle.bars.proofs.tested.TestedBar.mandrel_suits_concrete.Goals as goal

pub overflow_mul-force-4 : goal.overflow_mul-force-4
overflow_mul-force-4 c =
    let s = c.args.self.now.ranged in
    let b = c.args.self.now.bar in
    let t : 4 * b.dia + b.pitch ≤ 2160 = omega (arith, s.dia_high, s.pitch_high) in
    record { fits = omega (arith, mul-le-mul (mul-le-mul (mul-le-mul s.area_high s.stress_high) s.gc_high) t) }

pub overflow_mul-concrete-4 : goal.overflow_mul-concrete-4
overflow_mul-concrete-4 c =
    let s = c.args.self.now.ranged in
    record { fits = omega (arith, mul-le-mul (mul-le-mul (mul-le-mul (mul-le-mul s.acc_high s.fck_high) (le_refl 200)) s.dia_high) s.pitch_high) }

pub overflow_mul-result : goal.overflow_mul-result
overflow_mul-result c =
    let s = c.args.self.now.ranged in
    record { fits = omega (arith, mul-le-mul s.mandrel_high (mul-le-mul (mul-le-mul (mul-le-mul (mul-le-mul s.acc_high s.fck_high) (le_refl 200)) s.dia_high) s.pitch_high)) }
