use Rattle.store_book.proofs.KeyedRows.{books_have_rows}
use Rattle.sql_read.proofs.{BookOfShown.book_shown, HeldBooks.held_only, Results.read_then, Results.surely}
use Rattle.sql_read.proofs.checked.has_book_rows.Goals as goal

pub returns-clause-book : goal.returns-clause-book
returns-clause-book g c clean = read_then c.check_meta.result (c.check_meta.ensures.answer clean) (λ answer so is. book_shown g.S.Store c.args.conn.now (so is))

pub returns-clause-none : goal.returns-clause-none
returns-clause-none g c clean =
    read_then c.check_meta.result (c.check_meta.ensures.none clean) (λ answer none no T only.
    none no T.meta only.rows
    (record { stored = only.stored; by_key = only.by_key; are = books_have_rows only.rows T only.book only.by_key; only = only.only }) only.metas)

pub returns-clause-found : goal.returns-clause-found
returns-clause-found g c clean T has book =
    read_then c.check_meta.result (returns-clause-none g c clean) (λ answer none.
    surely answer (λ no. none no T (held_only g.S.Store c.args.conn.now T book has)))
