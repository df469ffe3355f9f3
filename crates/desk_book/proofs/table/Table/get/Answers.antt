use Rattle.std.proofs.Common.{◌∙◌, ap}
use Rattle.std.specs.Prelude.{find, ◌==◌}
use Rattle.desk_book.proofs.KeyedRows.{lookup-find}
use Rattle.desk_book.proofs.table.Table.get.Goals as goal

pub returns : goal.returns
returns g c = c.get.ensures.value ∙ lookup-find g.R.Row.number c.args.number c.self.inside.rows.entries c.self.invariant
    ∙ ap (λ rows. find (λ r. g.R.Row.number r == c.args.number) rows) c.self.view_is
