use Rattle.std.proofs.Common.{refl}
use Rattle.std.specs.Prelude.{option_copied, nat_lt}
use Rattle.sql_write.proofs.{Differing.authorization_differs, Over.set_none, Over.set_some}
use Rattle.sql_write.specs.Statements.{authorization_writing, writes}
use Rattle.sql_write.proofs.saving.save_bare_authorization.Goals as goal

pub returns-in-Some-clause-writes : goal.returns-in-Some-clause-writes
returns-in-Some-clause-writes g c =
    set_some g.S.Store (authorization_differs c.args.row.now (option_copied c.args.stored)) (nat_lt c.args.last c.args.row.now.number)
    (λ m. writes authorization_writing m c.args.row.now) refl c.of.ensures c.authorization_difference.ensures c.in-Some.is
    c.write_bare_authorization.ensures.writes

pub returns-in-None-clause-writes : goal.returns-in-None-clause-writes
returns-in-None-clause-writes g c =
    set_none g.S.Store (authorization_differs c.args.row.now (option_copied c.args.stored)) (nat_lt c.args.last c.args.row.now.number)
    (λ m. writes authorization_writing m c.args.row.now) refl c.of.ensures c.authorization_difference.ensures c.in-None.is
