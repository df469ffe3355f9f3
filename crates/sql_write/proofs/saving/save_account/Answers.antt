use Rattle.std.proofs.Common.{refl}
use Rattle.std.specs.Prelude.{option_copied, nat_lt}
use Rattle.sql_write.proofs.{Differing.account_differs, Over.set_some}
use Rattle.sql_write.specs.Statements.{account_writing, writes}
use Rattle.sql_write.proofs.saving.save_account.Goals as goal

pub returns-in-Some-clause-writes : goal.returns-in-Some-clause-writes
returns-in-Some-clause-writes g c =
    set_some g.S.Store (account_differs c.args.row.now (option_copied c.args.stored)) (nat_lt c.args.last c.args.row.now.number)
    (λ m. writes account_writing m c.args.row.now) refl c.of.ensures c.account_difference.ensures c.in-Some.is c.write_account.ensures.writes
