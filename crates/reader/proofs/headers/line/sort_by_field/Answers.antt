use Rattle.std.proofs.Common.{◌-◌, [], ◌∷◌, ◌++◌, get_or, sym, ap, ◌∙◌, arith}
use Rattle.std.proofs.lemmas.List.{take_more_set, take_all, map_more}
use Rattle.reader.specs.Lines.{by_field}
use Rattle.reader.proofs.Turns.{within_at}
use Rattle.reader.proofs.headers.line.sort_by_field.Goals as goal

pub overflow_sub-fields : goal.overflow_sub-fields
overflow_sub-fields c = (within_at _ c.args.places.now c.loop-field.field c.requires.within c.loop-field-test.true).0

pub bounds-values-place : goal.bounds-values-place
bounds-values-place c = omega (arith, within_at _ c.args.places.now c.loop-field.field c.requires.within c.loop-field-test.true)

pub loop-field-preserved : goal.loop-field-preserved
loop-field-preserved c =
    let v = get_or c.args.values.now (get_or c.args.places.now c.loop-field.field 0 - 1) 0 in
    take_more_set c.loop-field.fields c.loop-field.field v (omega arith) ∙ ap (λ l. l ++ (v ∷ [])) c.loop-field.invariant ∙ sym (map_more (λ p. get_or c.args.values.now (p - 1) 0) c.args.places.now c.loop-field.field 0 c.loop-field-test.true)

pub returns : goal.returns
returns c =
    sym (take_all c.loop-field.field c.loop-field.fields (omega arith)) ∙ c.loop-field.invariant ∙ ap (λ l. by_field l c.args.values.now) (take_all c.loop-field.field c.args.places.now (omega arith))
