-- When a part of the tables is enough for entries and for what is asked of them.
use Rattle.std.specs.Prelude.{ℕ, ◌+◌, ◌==◌, ◌≡◌, List, [], ◌∷◌, true, bytes_eq}
use Rattle.desk_model.specs.Kept.{Covers, EachOf, IsClosed, Kept}
use Rattle.desk_model.specs.declared.entry.Entry.TheVariants.{Spent as spent, Opened as opened, ContactsChanged as contacts_changed, KeyChanged as key_changed}
use Rattle.desk_model.specs.declared.entry.Entry.TheVariants.{AccountEnded as account_ended, Ordered as ordered, Answered as answered, Reported as reported}
use Rattle.desk_model.specs.declared.entry.Entry.TheVariants.{AuthorizationEnded as authorization_ended, Finalized as finalized, Certified as certified}
use Rattle.desk_model.specs.declared.entry.Entry.TheVariants.{Failed as failed}
use Rattle.desk_model.specs.{Derived.numbers_of, Order.ordered_by, Tables.Tables, Effect.effect, Effect.fresh_order, Effect.has_row, declared.entry.Entry.Entry}
use Rattle.model_laws.specs.Reused.{OfReused}

-- the rows that are read to tell whether the entry may follow are kept
abbrev pub ReadsKept : Kept → Tables → Entry → Type 0
ReadsKept k T (spent n) = EachOf (λ x. (x.serial == n) ≡ true → k.nonces x.serial ≡ true) T.nonces
ReadsKept k T (opened key contacts) = EachOf (λ a. bytes_eq a.key key ≡ true → k.accounts a.number ≡ true) T.accounts
ReadsKept k T (contacts_changed n contacts) = EachOf (λ a. (a.number == n) ≡ true → k.accounts a.number ≡ true) T.accounts
ReadsKept k T (key_changed n key) =
    EachOf (λ a. (a.number == n) ≡ true → k.accounts a.number ≡ true) T.accounts
    × EachOf (λ a. bytes_eq a.key key ≡ true → k.accounts a.number ≡ true) T.accounts
ReadsKept k T (account_ended n ending) = EachOf (λ a. (a.number == n) ≡ true → k.accounts a.number ≡ true) T.accounts
ReadsKept k T (ordered n wanted) =
    EachOf (λ a. (a.number == n) ≡ true → k.accounts a.number ≡ true) T.accounts × EachOf (OfReused (λ j. k.authorizations j ≡ true)) wanted
ReadsKept k T (answered n) = EachOf (λ a. has_row n a ≡ true → k.authorizations a.number ≡ true) T.authorizations
ReadsKept k T (reported n outcome) = EachOf (λ a. has_row n a ≡ true → k.authorizations a.number ≡ true) T.authorizations
ReadsKept k T (authorization_ended n ending) = EachOf (λ a. (a.number == n) ≡ true → k.authorizations a.number ≡ true) T.authorizations
ReadsKept k T (finalized n csr) = EachOf (λ o. (o.number == n) ≡ true → k.orders o.number ≡ true) T.orders
ReadsKept k T (certified n certificate) = EachOf (λ o. (o.number == n) ≡ true → k.orders o.number ≡ true) T.orders
ReadsKept k T (failed n problem) = EachOf (λ o. (o.number == n) ≡ true → k.orders o.number ≡ true) T.orders
ReadsKept k T _ = Unit {0}

-- the authorizations that the entry uses again are kept
abbrev pub ReusedKept : Kept → Entry → Type 0
ReusedKept k (ordered n wanted) = EachOf (OfReused (λ j. k.authorizations j ≡ true)) wanted
ReusedKept k _ = Unit {0}

-- the new orders of the entry list authorizations that are kept
abbrev pub FreshKept : Kept → Tables → ℕ → Entry → Type 0
FreshKept k T m e =
    EachOf (λ o. EachOf (λ n. k.authorizations n ≡ true) (numbers_of (fresh_order o).listed))
    (ordered_by e m T.meta.policy (T.meta.counters.authorizations + 1) (T.meta.counters.orders + 1))

-- what each of the entries touches in its turn is kept
abbrev pub CoversAll : Kept → ℕ → Tables → List Entry → Type 0
CoversAll k m T [] = Unit {0}
CoversAll k m T (e ∷ es) = IsClosed k T × Covers k T e × FreshKept k T m e × CoversAll k m (effect m T e) es
