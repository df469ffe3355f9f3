use Rattle.sql_read.proofs.{FirstChecked.has_first_book, FirstChecked.meta_is, Results.read_then}
use Rattle.sql_read.proofs.first.first_meta.Goals as goal

pub returns-clause-book : goal.returns-clause-book
returns-clause-book g c clean =
    read_then c.checked_meta.result (c.checked_meta.ensures.shown clean) (λ answer is some. has_first_book g.S.Store _ c.args.conn.now answer is some)

pub returns-clause-found : goal.returns-clause-found
returns-clause-found g c clean T has book =
    read_then c.checked_meta.result (c.checked_meta.ensures.shown clean) (λ answer is. meta_is g.S.Store c.args.conn.now T has book answer is)
