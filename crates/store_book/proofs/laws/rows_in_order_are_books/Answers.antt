use Rattle.store_book.proofs.{InOrder.rows_are_books, KeyedRows.books_have_rows}
use Rattle.store_book.proofs.laws.rows_in_order_are_books.Goals as goal

pub returns-clause-books : goal.returns-clause-books
returns-clause-books c = rows_are_books

pub returns-clause-rows : goal.returns-clause-rows
returns-clause-rows c = books_have_rows
