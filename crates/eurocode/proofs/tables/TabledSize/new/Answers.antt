use Rattle.std.proofs.Common.{◌≡◌, cond, Some, None, length, get_or, refl, sym, ap, ◌∙◌}
use Rattle.std.proofs.lemmas.Bool.{lt-ltb}
use Rattle.std.specs.Option.{option_map}
use Rattle.eurocode.specs.Tables.{tabled, place}
use Rattle.eurocode.proofs.Tabled.{found, missed, searched}
use Rattle.eurocode.proofs.tables.TabledSize.new.Goals as goal

pub returns-in_err-place_in : goal.returns-in_err-place_in
returns-in_err-place_in g c =
    let table = g.Self.TabledSize.table in
    let none : None ≡ cond (tabled c.args.n table) (Some (place c.args.n table)) None = cc (c.in_err-place_in.ensures, searched c.args.n {read = table} refl) in
    ap (option_map g.Self.TabledSize.number) c.from_residual.ensures ∙ ap (λ b. cond b (Some c.args.n) None) (sym (missed c.args.n table none))

pub returns : goal.returns
returns g c =
    let table = g.Self.TabledSize.table in
    let row = c.in_ok-place_in.field-0 in
    let some : Some row ≡ cond (tabled c.args.n table) (Some (place c.args.n table)) None = cc (c.in_ok-place_in.ensures, searched c.args.n {read = table} refl) in
    let at = found c.args.n row table some in
    let held : option_map g.Self.TabledSize.number c.at_row.result ≡ Some (get_or table row 0) = c.at_row.ensures ∙ ap (λ b. cond b (Some (get_or table row 0)) None) (lt-ltb row (length table) at.1) in
    held ∙ λ k. cond (sym at.0 k) (Some (at.2 k)) None
