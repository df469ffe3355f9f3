-- Accounts (RFC 8555, 7.1.2, 7.1.6, 7.3, 7.3.5).
use Rattle.std.specs.Prelude.{ℕ, ◌+◌, List, [], ◌∷◌, ◌++◌, length, Bool, false, true, ◌==◌, Option, Some, None, find, bytes_eq, if◌then◌else◌, unwrap_or}
use Rattle.desk_model.specs.Entry.{Entry, opened, contacts_changed, key_changed, account_ended, deactivated, revoked, History}
use Rattle.desk_model.specs.{History.first, History.latest, declared.status.AccountStatus.AccountStatus}
use Rattle.desk_model.specs.declared.status.AccountStatus.TheVariants as account
pub use Rattle.desk_model.specs.declared.objects.Account.{Account}
pub use Rattle.desk_model.specs.declared.objects.AccountEnd.{AccountEnd}

-- the account that the entry opens, if it does
abbrev pub opened_by : Entry → (date number : ℕ) → List Account
opened_by (opened key contacts) date number = (record { number = number; key = key; contacts = contacts; opened = date }) ∷ []
opened_by _ date number = []

-- the accounts that were opened, by number
abbrev pub accounts : History → List Account
accounts [] = []
accounts (e ∷ before) = accounts before ++ opened_by e.entry e.date (length (accounts before) + 1)

abbrev pub account_by_number : ℕ → History → Option Account
account_by_number number F = find (λ a. a.number == number) (accounts F)

abbrev pub rekeying : ℕ → Entry → Option (List ℕ)
rekeying number (key_changed account key) = if account == number then Some key else None
rekeying number _ = None

-- the key of the account now (7.3.5)
abbrev pub key_of : Account → History → List ℕ
key_of a F = unwrap_or (latest (λ e. rekeying a.number e.entry) F) a.key

abbrev pub key_if : Option Account → History → List ℕ
key_if None F = []
key_if (Some a) F = key_of a F

-- the key that the account of this number has now, empty where there is none
abbrev pub account_key : ℕ → History → List ℕ
account_key number F = key_if (account_by_number number F) F

abbrev pub account_by_key : List ℕ → History → Option Account
account_by_key key F = find (λ a. bytes_eq (key_of a F) key) (accounts F)

abbrev pub changing : ℕ → Entry → Option (List (List ℕ))
changing number (contacts_changed account contacts) = if account == number then Some contacts else None
changing number _ = None

-- the contacts of the account now
abbrev pub contacts : Account → History → List (List ℕ)
contacts a F = unwrap_or (latest (λ e. changing a.number e.entry) F) a.contacts

abbrev pub ends : ℕ → Entry → ℕ → Option AccountEnd
ends number (account_ended account ending) date = if account == number then Some (record { date = date; ending = ending }) else None
ends number _ date = None

abbrev pub account_end : Account → History → Option AccountEnd
account_end a F = first (λ e. ends a.number e.entry e.date) F

abbrev pub status_of : Option AccountEnd → AccountStatus
status_of None = account.Valid
status_of (Some e) = elim e.ending [ deactivated ↦ account.Deactivated | revoked ↦ account.Revoked ]

abbrev pub account_status : Account → History → AccountStatus
account_status a F = status_of (account_end a F)

abbrev pub is_valid : AccountStatus → Bool
is_valid account.Valid = true
is_valid _ = false
