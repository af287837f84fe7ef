use Rattle.std.proofs.Common.{◌≡◌, ◌-◌, ◌<◌, [], ◌∷◌, map, length, get_or, decimal, sym, ap, ◌∙◌, subst, arith, rules}
use Rattle.std.proofs.lemmas.List.{get_or-map, length-map, length_push}
use Rattle.std.proofs.lemmas.Slice.Zip.{zip_turn}
use Rattle.text.specs.Texts.{line_text, text_of}
use Rattle.fields.proofs.Admitting.{names_are}
use Rattle.writer.proofs.Writing.{Going, going_none, going_more, wrote_as}
use Rattle.annex.specs.Numbers.{annex_names, fields_of}
use Rattle.annexreport.specs.Report.{field_lines, numbers_text}
use Rattle.annexreport.proofs.Printing.{fields_more}
use Rattle.annexreport.proofs.write_numbers.Goals as goal

pub loop-field-init : goal.loop-field-init
unfolding numbers_text
loop-field-init c = going_none _ _

pub loop-field-preserved : goal.loop-field-preserved
loop-field-preserved c =
    let n = c.args.numbers.now in
    let fields = c.fields.result.now in
    let named : map (λ f. f.name.now) fields ≡ annex_names = sym (names_are fields) ∙ c.fields.ensures.names in
    let k = length c.loop-field.yielded in
    let t = zip_turn fields c.from.result c.loop-field.yielded c.into_iter-field-iterator.result c.loop-field.field-iterator c.next.new.self c.next.result (search rules) (search rules) c.loop-field.yielded_by _ c.in-Some.is c.next.ensures.steps in
    let below : k < 21 = omega (arith, t.0, length-map fields (λ f. f.name.now), ap length named) in
    let name : c.in-Some.field.now.name.now ≡ get_or annex_names k [] = ap (λ f. f.name.now) (t.2 c.in-Some.field.now) ∙ sym (get_or-map (λ f. f.name.now) fields k c.in-Some.field.now [] t.0) ∙ ap (λ l. get_or l k []) named in
    let number : c.in-Some.n.now ≡ get_or (fields_of n) k 0 = t.3 0 ∙ ap (λ l. get_or l k 0) c.from.ensures in
    let more = going_more c.loop-field.invariant (fields_more n k 21 below) (wrote_as (λ i. line_text (name i ∷ decimal (number i) ∷ [])) c.write_line.ensures) in
    subst (λ m. Going (numbers_text n) (text_of (field_lines n m (21 - m))) c.args.w.now c.write_line.new.w) (sym (length_push c.loop-field.yielded (c.in-Some.field, c.in-Some.n))) more
