use Rattle.sql_read.proofs.Results.{read_then}
use Rattle.sql_upgrade.proofs.KeyReadings.{has_checked_book, is_found}
use Rattle.sql_upgrade.proofs.additions.read_additions.Goals as goal

pub returns-clause-book : goal.returns-clause-book
returns-clause-book g c clean =
    read_then c.checked_additions.result (c.checked_additions.ensures.shown clean) (λ answer is some.
    has_checked_book g.S.Store _ c.args.conn.now answer is some)

pub returns-clause-found : goal.returns-clause-found
returns-clause-found g c clean T has book =
    read_then c.checked_additions.result (c.checked_additions.ensures.shown clean) (λ answer is. is_found g.S.Store c.args.conn.now T has book answer is)
