-- Some rows of the tables, chosen by their numbers, and what makes them enough for a call.
use Rattle.std.specs.Prelude.{ℕ, ◌<◌, ◌≡◌, List, [], ◌∷◌, Bool, true, not}
use Rattle.std.specs.List.{filter}
use Rattle.desk_model.specs.{Entry.Entry, Tables.Tables, Derived.numbers_of}
use Rattle.desk_model.specs.Effect.{touches_account, touches_authorization, touches_order, lasts, is_overdue, falls}

-- which rows are kept, by number
pub record Kept : Type 0 where
  pub nonces : ℕ → Bool
  pub accounts : ℕ → Bool
  pub authorizations : ℕ → Bool
  pub orders : ℕ → Bool

abbrev pub restricted : Kept → Tables → Tables
restricted k T =
    record {
      meta = T.meta;
      nonces = filter (λ n. k.nonces n.serial) T.nonces;
      accounts = filter (λ a. k.accounts a.number) T.accounts;
      authorizations = filter (λ a. k.authorizations a.number) T.authorizations;
      orders = filter (λ o. k.orders o.number) T.orders;
    }

-- what holds of each item
abbrev pub EachOf : {X : Type 0} → (X → Type 0) → List X → Type 0
EachOf P [] = Unit {0}
EachOf P (x ∷ xs) = P x × EachOf P xs

-- with an order its authorizations are kept, and new numbers are kept
pub record IsClosed (k : Kept) (T : Tables) : Type 0 where
  pub listed : EachOf (λ o. k.orders o.number ≡ true → EachOf (λ n. k.authorizations n ≡ true) (numbers_of o.listed)) T.orders
  pub new_nonces : (n : ℕ) → T.meta.counters.nonces < n → k.nonces n ≡ true
  pub new_accounts : (n : ℕ) → T.meta.counters.accounts < n → k.accounts n ≡ true
  pub new_authorizations : (n : ℕ) → T.meta.counters.authorizations < n → k.authorizations n ≡ true
  pub new_orders : (n : ℕ) → T.meta.counters.orders < n → k.orders n ≡ true

-- with an authorization that the entry touches its account is kept, whose key an answer takes
abbrev pub HoldersKept : Kept → Tables → Entry → Type 0
HoldersKept k T e = EachOf (λ a. touches_authorization e a ≡ true → k.accounts a.account ≡ true) T.authorizations

-- what the entry touches is kept
pub record Covers (k : Kept) (T : Tables) (e : Entry) : Type 0 where
  pub accounts : EachOf (λ a. touches_account e a ≡ true → k.accounts a.number ≡ true) T.accounts
  pub authorizations : EachOf (λ a. touches_authorization e a ≡ true → k.authorizations a.number ≡ true) T.authorizations
  pub orders : EachOf (λ o. touches_order e T.authorizations o ≡ true → k.orders o.number ≡ true) T.orders
  pub holders : HoldersKept k T e

-- what falls by the passing of time is kept
pub record CoversSweep (k : Kept) (T : Tables) (m : ℕ) : Type 0 where
  pub nonces : EachOf (λ n. not (lasts T.meta.policy m n) ≡ true → k.nonces n.serial ≡ true) T.nonces
  pub authorizations : EachOf (λ a. is_overdue m a ≡ true → k.authorizations a.number ≡ true) T.authorizations
  pub orders : EachOf (λ o. falls m T.authorizations o ≡ true → k.orders o.number ≡ true) T.orders
