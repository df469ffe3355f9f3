-- Orders (RFC 8555, 7.1.3, 7.1.6, 7.4).
use Rattle.std.specs.Prelude.{ℕ, ◌+◌, List, [], ◌∷◌, ◌++◌, length, Bool, false, true, ◌==◌, ◌||◌, nat_lt, Option, Some, None, find, if◌then◌else◌, is_some}
use Rattle.std.specs.List.{list_any, list_all}
use Rattle.desk_model.specs.Entry.{Entry, ordered, finalized, certified, failed, Wanted, new, reused, History}
use Rattle.desk_model.specs.Authorization.{Authorization, authorizations, authorization, authorization_status, is_over, is_valid}
use Rattle.desk_model.specs.{Terms.Terms, History.first, History.terms, declared.status.OrderStatus.OrderStatus}
use Rattle.desk_model.specs.declared.status.OrderStatus.TheVariants as order
pub use Rattle.desk_model.specs.declared.objects.Order.{Order}
pub use Rattle.desk_model.specs.declared.rows.DatedBytes.{DatedBytes}
pub use Rattle.desk_model.specs.declared.rows.DatedProblem.{DatedProblem}

-- the numbers of the authorizations that the names get; those that are made are numbered from here
abbrev pub listed_by : List Wanted → ℕ → List ℕ
listed_by [] n = []
listed_by (new name tokens ∷ rest) n = n ∷ listed_by rest (n + 1)
listed_by (reused name k ∷ rest) n = k ∷ listed_by rest n

-- the order that the entry makes, if it does; the authorizations made with it are numbered from `first`
abbrev pub ordered_by : Entry → (date : ℕ) → Terms → (first number : ℕ) → List Order
ordered_by (ordered account wanted) date t first number =
    (record { number = number; account = account; made = date; expires = date + t.order_life; authorizations = listed_by wanted first }) ∷ []
ordered_by _ date t first number = []

-- the orders that were made, by number
abbrev pub orders : History → List Order
orders [] = []
orders (e ∷ before) =
    orders before ++ ordered_by e.entry e.date (terms before) (length (authorizations before) + 1) (length (orders before) + 1)

abbrev pub order_by_number : ℕ → History → Option Order
order_by_number number F = find (λ o. o.number == number) (orders F)

abbrev pub finalizing : ℕ → Entry → ℕ → Option DatedBytes
finalizing number (finalized order csr) date = if order == number then Some (record { date = date; bytes = csr }) else None
finalizing number _ date = None

abbrev pub certifying : ℕ → Entry → ℕ → Option DatedBytes
certifying number (certified order certificate) date = if order == number then Some (record { date = date; bytes = certificate }) else None
certifying number _ date = None

abbrev pub failing : ℕ → Entry → ℕ → Option DatedProblem
failing number (failed order problem) date = if order == number then Some (record { date = date; problem = problem }) else None
failing number _ date = None

abbrev pub csr : ℕ → History → Option DatedBytes
csr number F = first (λ e. finalizing number e.entry e.date) F

abbrev pub certificate : ℕ → History → Option DatedBytes
certificate number F = first (λ e. certifying number e.entry e.date) F

abbrev pub failure : ℕ → History → Option DatedProblem
failure number F = first (λ e. failing number e.entry e.date) F

abbrev pub and_found : Option Authorization → List Authorization → List Authorization
and_found None rest = rest
and_found (Some a) rest = a ∷ rest

-- the authorizations of these numbers
abbrev pub authorizations_at : List ℕ → History → List Authorization
authorizations_at [] F = []
authorizations_at (n ∷ ns) F = and_found (authorization n F) (authorizations_at ns F)

-- one of its authorizations can prove nothing any more
abbrev pub has_lost : Order → History → ℕ → Bool
has_lost o F t = list_any (λ a. is_over (authorization_status a F t)) (authorizations_at o.authorizations F)

abbrev pub all_valid : Order → History → ℕ → Bool
all_valid o F t = list_all (λ a. is_valid (authorization_status a F t)) (authorizations_at o.authorizations F)

abbrev pub order_status_by : (is_certified has_failed is_finalized are_valid : Bool) → OrderStatus
order_status_by true b c d = order.Valid
order_status_by false true c d = order.Invalid
order_status_by false false true d = order.Processing
order_status_by false false false true = order.Ready
order_status_by false false false false = order.Pending

-- the status of an order that is made: ready where each of its names uses an authorization again
abbrev pub made_status : List Wanted → OrderStatus
made_status [] = order.Ready
made_status (new name tokens ∷ rest) = order.Pending
made_status (reused name n ∷ rest) = made_status rest

abbrev pub order_status : Order → History → ℕ → OrderStatus
order_status o F t =
    order_status_by
    (is_some (certificate o.number F))
    (is_some (failure o.number F) || (nat_lt o.expires t || has_lost o F t))
    (is_some (csr o.number F))
    (all_valid o F t)

abbrev pub is_ready : OrderStatus → Bool
is_ready order.Ready = true
is_ready _ = false

abbrev pub is_processing : OrderStatus → Bool
is_processing order.Processing = true
is_processing _ = false
