use Rattle.store_laws.proofs.{Books.tables_book, Records.records_in_limits, Columns.book_told, Columns.picture_told, FlatTexts.picture_is_stored_book}
use Rattle.store_laws.proofs.{FlatTexts.tables_are_texts, Rows.flat_stored, Rows.parts_in_limits, Rows.picture_stored, Rows.tables_in_limits}
use Rattle.store_laws.proofs.pictures_are_books.Goals as goal
use Rattle.std.proofs.Common.{rules}

pub returns : goal.returns
returns c = search (
  rules,
  tables_book,
  tables_in_limits,
  parts_in_limits,
  flat_stored,
  picture_stored,
  records_in_limits,
  tables_are_texts,
  book_told,
  picture_told,
  picture_is_stored_book,
)
