-- Which rows the words of a list ask for.
use Rattle.std.specs.{Prelude.◌≡◌, Prelude.ℕ, Prelude.List, Prelude.Option, Prelude.None, Prelude.Some, Borrow.Bor}
use Rattle.app_words.specs.declared.command.{AuthorizationListing.AuthorizationListing, OrderListing.OrderListing}
use Rattle.desk_model.specs.{Document.order_status_text, Name.Name, Names.name_of, declared.status.OrderStatus.OrderStatus}
use Rattle.app_reports.specs.declared.{asked.AuthorizationFilter.AuthorizationFilter, asked.OrderFilter.OrderFilter}
use Rattle.app_tasks.specs.declared.filters.Unasked.{Unasked}
use Rattle.app_tasks.specs.declared.filters.Unasked.TheVariants as unasked

-- a text that words give, if they give one
abbrev pub Given : Type 0
Given = Option (Bor (List ℕ))

-- the word of a status, if there is one, names a status of an order
abbrev pub NamesStatus : Given → Type 0
NamesStatus given = (word : _) → given ≡ Some word → (s : OrderStatus) × (order_status_text s ≡ word.now)

-- the orders asked for have this status, or any where there is no word
abbrev pub AsksForStatus : Given → Option OrderStatus → Type 0
AsksForStatus given None = given ≡ None
AsksForStatus given (Some s) = (word : _) × (given ≡ Some word) × (order_status_text s ≡ word.now)

-- the text of a name, if there is one, stands for a name
abbrev pub StandsForName : Given → Type 0
StandsForName given = (text : _) → given ≡ Some text → (name : Name) × (name_of text.now ≡ Some name)

-- the rows asked for have this name, or any where there is no text
abbrev pub AsksForName : Given → Option Name → Type 0
AsksForName given None = given ≡ None
AsksForName given (Some name) = (text : _) × (given ≡ Some text) × (name_of text.now ≡ Some name)

-- the words of a list of orders are right, and these are the orders that they ask for
abbrev pub AreRight : OrderListing → Type 0
AreRight l = NamesStatus l.status × StandsForName l.name

pub record AsksForOrders (l : OrderListing) (filter : OrderFilter) : Type 0 where
  pub right : AreRight l
  pub account : filter.account ≡ l.account
  pub status : AsksForStatus l.status filter.status
  pub name : AsksForName l.name filter.name

-- those of a list of authorizations
pub record AsksForAuthorizations (l : AuthorizationListing) (filter : AuthorizationFilter) : Type 0 where
  pub right : StandsForName l.name
  pub account : filter.account ≡ l.account
  pub name : AsksForName l.name filter.name

-- words ask for nothing, since they are wrong, or since there was no memory
abbrev pub IsUnasked : (Right : Type 0) → Unasked → Type 0
IsUnasked Right (unasked.Wrong why) = Right → ⊥
IsUnasked Right unasked.Memory = Unit {0}
