-- What passes rest on, and what they give together.
use Rattle.std.specs.{Prelude.◌≡◌, Prelude.[], Prelude.◌∷◌, List.flat_map}
use Rattle.desk_model.specs.{Derived.status_faults, Tables.Tables}
use Rattle.store_book.specs.IsBook.{IsBook}
use Rattle.store_passes.specs.{InOrder.IsInOrder, Left.faults_of}
use Rattle.store_passes.specs.declared.fault_kind.FaultKind.TheVariants.{Account, Order, Authorization, Challenge}

-- each book is in order, whatever statuses its rows store
abbrev pub BooksAreInOrder : Type 0
BooksAreInOrder = (T : Tables) → IsBook T → IsInOrder T

-- the faults of the four kinds, one kind after the other, are all status faults
abbrev pub KindsMakeAllFaults : Type 0
KindsMakeAllFaults = (T : Tables) → flat_map (faults_of T) (Account ∷ Order ∷ Authorization ∷ Challenge ∷ []) ≡ status_faults T
