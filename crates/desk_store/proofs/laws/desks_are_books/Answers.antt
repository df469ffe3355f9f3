use Rattle.desk_store.proofs.Books.{pictures_are_desks}
use Rattle.desk_store.proofs.laws.desks_are_books.Goals as goal

pub returns : goal.returns
returns c = pictures_are_desks
