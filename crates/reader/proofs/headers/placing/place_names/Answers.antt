use Rattle.std.proofs.Common.{Some, None, sym, refl, arith}
use Rattle.reader.proofs.Tables.{place_le, none_from, placing_none, placing_more, placing_stops, has_place, apart}
use Rattle.reader.proofs.headers.placing.place_names.Goals as goal

pub loop-name-init : goal.loop-name-init
loop-name-init g c =
    placing_none _ _ _ 30 c.requires.table (omega (arith, c.requires.table, (g.met.N.Named.named c.args.named.now).few))

pub overflow_add-place : goal.overflow_add-place
overflow_add-place g c = omega (arith, place_le _ _ _ _ _ c.loop-name.invariant, (g.met.N.Named.named c.args.named.now).few)

pub loop-name-preserved : goal.loop-name-preserved
loop-name-preserved g c =
    placing_more _ _ _ _ _ _ _ _ (g.met.N.Named.named c.args.named.now).unlike c.loop-name.invariant c.in-Some.ensures.part c.next_part.ensures.after c.in-Some-find.ensures (none_from _ (sym c.if-is_some.ensures))

pub returns-in_default-find : goal.returns-in_default-find
returns-in_default-find g c =
    record { places = placing_stops _ _ _ _ _ _ None c.loop-name.invariant c.in-Some.ensures.part c.in_default-find.ensures (λ field is z. apart (sym is)); rest = tt }

pub returns-then-is_some : goal.returns-then-is_some
returns-then-is_some g c =
    record { places = placing_stops _ _ _ _ _ _ (Some c.in-Some-find.field) c.loop-name.invariant c.in-Some.ensures.part c.in-Some-find.ensures (has_place _ _ _ refl (sym c.if-is_some.ensures)); rest = tt }
