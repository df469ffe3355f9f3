use Rattle.std.proofs.Common.{None}
use Rattle.app_commands.proofs.Commands.{as_rows}
use Rattle.app_commands.proofs.running.list_over.Goals as goal

pub returns : goal.returns
returns g c =
    as_rows _ _ None _ _ g.L.Item.PassedRow.rows (g.L.RowList.keeps c.args.list) g.L.RowList.line g.L.RowList.noun c.form.result c.args.json _ _
    c.form.ensures c.run_over_file.ensures
