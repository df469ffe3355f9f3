use Rattle.store_api.proofs.Books.{touched_book}
use Rattle.store_api.proofs.laws.touched_rows_are_a_book.Goals as goal

pub returns : goal.returns
returns c = touched_book
