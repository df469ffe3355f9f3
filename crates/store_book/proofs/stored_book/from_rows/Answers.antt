use Rattle.std.proofs.{Common.subst, lemmas.Result.err_from_is_err_and}
use Rattle.store_book.specs.IsBook.{IsBookOf}
use Rattle.store_book.proofs.{KeyedRows.books_have_rows, SoundBooks.stored-told}
use Rattle.store_book.proofs.stored_book.from_rows.Goals as goal

pub returns-in_err-check_tables-clause-not_a_book : goal.returns-in_err-check_tables-clause-not_a_book
returns-in_err-check_tables-clause-not_a_book c =
    let read = c.in_ok-rows in
    let p = err_from_is_err_and c.from_residual-in_err-check_tables.result c.from_residual-in_err-check_tables.ensures.1 in
    rw (p.1, p.2) (λ e T stored.
    let same = stored-told c.args.rows stored.flat_rows read.rows stored.in_limits stored.spelled read.ensures.0 read.ensures.1 in
    c.in_err-check_tables.ensures e T.meta (books_have_rows read.rows T (subst (λ rows. IsBookOf rows T) same stored.book)
    (c.requires read.rows read.ensures.0 read.ensures.1)))
