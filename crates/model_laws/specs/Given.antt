-- The numbers that a history has given.
use Rattle.std.specs.Prelude.{ℕ, ◌≤◌, length}
use Rattle.desk_model.specs.Authorization.{authorizations, count_challenges}
use Rattle.desk_model.specs.declared.entry.Entry.TheVariants.{Spent as spent, ContactsChanged as contacts_changed, KeyChanged as key_changed}
use Rattle.desk_model.specs.declared.entry.Entry.TheVariants.{AccountEnded as account_ended, Ordered as ordered, Answered as answered, Reported as reported}
use Rattle.desk_model.specs.declared.entry.Entry.TheVariants.{AuthorizationEnded as authorization_ended, Finalized as finalized, Certified as certified}
use Rattle.desk_model.specs.declared.entry.Entry.TheVariants.{Failed as failed}
use Rattle.desk_model.specs.{Kept.EachOf, Account.accounts, Entry.History, Nonce.nonces, Order.orders, declared.entry.Entry.Entry}
use Rattle.model_laws.specs.Reused.{OfReused}

-- how many objects of each kind were made
pub record Counts : Type 0 where
  pub nonces : ℕ
  pub accounts : ℕ
  pub orders : ℕ
  pub authorizations : ℕ
  pub challenges : ℕ

-- how many the history made
abbrev pub counts : History → Counts
counts F =
    record {
      nonces = length (nonces F);
      accounts = length (accounts F);
      orders = length (orders F);
      authorizations = length (authorizations F);
      challenges = count_challenges (authorizations F);
    }

-- the entry names only numbers that were given
abbrev pub NamesGiven : Counts → Entry → Type 0
NamesGiven c (spent n) = n ≤ c.nonces
NamesGiven c (contacts_changed n contacts) = n ≤ c.accounts
NamesGiven c (key_changed n key) = n ≤ c.accounts
NamesGiven c (account_ended n ending) = n ≤ c.accounts
NamesGiven c (ordered n wanted) = (n ≤ c.accounts) × EachOf (OfReused (λ k. k ≤ c.authorizations)) wanted
NamesGiven c (answered n) = n ≤ c.challenges
NamesGiven c (reported n outcome) = n ≤ c.challenges
NamesGiven c (authorization_ended n ending) = n ≤ c.authorizations
NamesGiven c (finalized n csr) = n ≤ c.orders
NamesGiven c (certified n certificate) = n ≤ c.orders
NamesGiven c (failed n problem) = n ≤ c.orders
NamesGiven c _ = Unit {0}
