use Rattle.std.proofs.Common.{◌+◌, ◌*◌, drop, sym, ap, ◌∙◌, arith}
use Rattle.std.proofs.lemmas.List.{at_drop_all}
use Rattle.std.specs.Option.{ok_or}
use Rattle.refusal.specs.declared.Refusal.TheVariants.{Form}
use Rattle.text.specs.Values.{digits_from}
use Rattle.text.proofs.Written.{fits, bound_more, digit_more, digit_stops}
use Rattle.text.proofs.values.digits.Goals as goal

pub returns-then-not-is_ascii_digit : goal.returns-then-not-is_ascii_digit
returns-then-not-is_ascii_digit c =
    ap (λ o. ok_or o (Form 0 0)) (digit_stops _ _ _ c.loop-b-test.true c.if-not-is_ascii_digit.ensures.value ∙ c.loop-b.invariant.0)

pub overflow_mul-number : goal.overflow_mul-number
overflow_mul-number c = omega (arith, fits _ _ c.loop-b.invariant.1 (omega arith))

pub overflow_add-number : goal.overflow_add-number
overflow_add-number c = omega (arith, fits _ _ c.loop-b.invariant.1 (omega arith), c.if-not-is_ascii_digit.ensures.cases)

pub loop-b-preserved : goal.loop-b-preserved
loop-b-preserved c =
    let rest = drop (c.loop-b.b-index + 1) c.args.rest.now in
    let digit = c.from.ensures in (
      ap (λ d. digits_from (c.loop-b.number * 10 + d) rest) digit ∙ digit_more _ _ _ c.loop-b-test.true c.if-not-is_ascii_digit.ensures.value ∙ c.loop-b.invariant.0,
      bound_more _ _ _ c.loop-b.invariant.1 (omega (arith, digit, c.if-not-is_ascii_digit.ensures.cases)),
    )

pub returns : goal.returns
returns c = ap (λ o. ok_or o (Form 0 0)) (sym (at_drop_all (digits_from c.loop-b.number) _ _ c.loop-b-test.false) ∙ c.loop-b.invariant.0)
