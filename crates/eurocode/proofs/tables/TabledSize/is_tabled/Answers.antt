use Rattle.std.proofs.Common.{◌≡◌, cond, Some, None, is_some, refl, ap, ◌∙◌}
use Rattle.eurocode.specs.Tables.{tabled, place}
use Rattle.eurocode.proofs.Tabled.{is_found, searched}
use Rattle.eurocode.proofs.tables.TabledSize.is_tabled.Goals as goal

pub returns : goal.returns
returns g c =
    let table = g.Self.TabledSize.table in
    let row : c.place_in.result ≡ cond (tabled c.args.n table) (Some (place c.args.n table)) None = cc (searched c.args.n {read = table} refl) in
    c.is_some.ensures ∙ ap is_some row ∙ is_found c.args.n table
