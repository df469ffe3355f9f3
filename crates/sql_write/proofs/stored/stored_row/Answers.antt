use Rattle.std.proofs.Common.{◌∙◌, sym}
use Rattle.sql_write.proofs.StoredRows.{left_by_all}
use Rattle.sql_write.proofs.stored.stored_row.Goals as goal

pub returns-then-number-highest : goal.returns-then-number-highest
returns-then-number-highest g c =
    let all = left_by_all g.R.Stored.on c.args.number c.args.before.now c.args.part.now (c.requires.above c.if-number-highest.true) in
    c.in_part-found.ensures ∙ sym all
