-- What is loaded is a book.
use Rattle.store_book.specs.IsBook.{IsBook}
use Rattle.desk_model.specs.{Tables.Tables, Touched.touched, declared.call.Call.Call}

-- the rows of a book that a call touches are a book: each reference is found among them
abbrev pub TouchedIsABook : Type 0
TouchedIsABook = (T : Tables) (call : Call) → IsBook T → IsBook (touched T call)
