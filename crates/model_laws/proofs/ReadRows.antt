-- What may follow by a part is what may follow by the whole, where the rows that the test reads are kept.
use Rattle.std.proofs.Common.{◌≡◌, ℕ, List, [], ◌∷◌, map, refl, ap, true}
use Rattle.std.specs.{Prelude.◌==◌, Prelude.◌&&◌, Prelude.is_some, Prelude.is_none, Prelude.find, Prelude.bytes_eq, List.list_all}
use Rattle.desk_model.specs.Legal.{is_pending_challenge, is_processing_challenge, has_length, all_different, is_wanted, wanted_name, is_problem}
use Rattle.desk_model.specs.declared.entry.Entry.TheVariants.{Spent as spent, Opened as opened, ContactsChanged as contacts_changed, KeyChanged as key_changed}
use Rattle.desk_model.specs.declared.entry.Entry.TheVariants.{AccountEnded as account_ended, Ordered as ordered, Answered as answered, Reported as reported}
use Rattle.desk_model.specs.declared.entry.Entry.TheVariants.{AuthorizationEnded as authorization_ended, Finalized as finalized, Certified as certified}
use Rattle.desk_model.specs.declared.entry.Entry.TheVariants.{Failed as failed}
use Rattle.desk_model.specs.{Limits.longest_certificate, Limits.longest_csr, Limits.most_names, Lookup.holds, Contact.contacts_pass}
use Rattle.desk_model.specs.{Account.is_valid as is_valid_account, Tables.Tables, Effect.has_row, Authorization.is_live, Authorization.is_pending}
use Rattle.desk_model.specs.{Order.is_ready, Order.is_processing, Kept.EachOf, Kept.Kept, Kept.restricted, Questions.order_end, Questions.serves}
use Rattle.desk_model.specs.{Allowed.may_on, Allowed.may_want_on, declared.entry.Entry.Entry, declared.entry.Wanted.Wanted}
use Rattle.desk_model.specs.{declared.rows.AuthorizationRow.AuthorizationRow, declared.entry.Wanted.TheVariants.New, declared.entry.Wanted.TheVariants.Reused}
use Rattle.model_laws.specs.{Parts.ReadsKept, Reused.OfReused}
use Rattle.model_laws.proofs.Local.{find_kept, find_part}

-- authorizations that are used again may be so by a part that keeps them
want_local : (k : Kept) (T : Tables) (account : ℕ) (ws : List Wanted) → EachOf (OfReused (λ j. k.authorizations j ≡ true)) ws →
    list_all (may_want_on (restricted k T) account) ws ≡ list_all (may_want_on T account) ws
want_local k T account [] h = refl
want_local k T account (New name tokens ∷ ws) h = want_local k T account ws h.1
want_local k T account (Reused name j ∷ ws) h =
    λ i. holds (serves account name (order_end T)) (find_kept (λ (a : AuthorizationRow). a.number) k.authorizations j T.authorizations h.0 i)
    && want_local k T account ws h.1 i

-- what may follow is the same by a part that keeps the rows that are read
pub may_local : (k : Kept) (T : Tables) (e : Entry) → ReadsKept k T e → may_on (restricted k T) e ≡ may_on T e
may_local k T (spent n) h = ap is_some (find_part (λ x. x.serial == n) (λ x. k.nonces x.serial) T.nonces h)
may_local k T (opened key cs) h = ap (λ o. is_none o && contacts_pass cs) (find_part (λ a. bytes_eq a.key key) (λ a. k.accounts a.number) T.accounts h)
may_local k T (contacts_changed n cs) h =
    ap (λ o. holds (λ a. is_valid_account a.status) o && contacts_pass cs) (find_part (λ a. a.number == n) (λ a. k.accounts a.number) T.accounts h)
may_local k T (key_changed n key) h =
    λ i. holds (λ a. is_valid_account a.status) (find_part (λ a. a.number == n) (λ a. k.accounts a.number) T.accounts h.0 i)
    && is_none (find_part (λ a. bytes_eq a.key key) (λ a. k.accounts a.number) T.accounts h.1 i)
may_local k T (account_ended n s) h = ap (holds (λ a. is_valid_account a.status)) (find_part (λ a. a.number == n) (λ a. k.accounts a.number) T.accounts h)
may_local k T (ordered n ws) h =
    λ i. holds (λ a. is_valid_account a.status) (find_part (λ a. a.number == n) (λ a. k.accounts a.number) T.accounts h.0 i)
    && (has_length 1 most_names ws && (all_different (map wanted_name ws) && (list_all is_wanted ws && want_local k T n ws h.1 i)))
may_local k T (answered n) h =
    ap (holds (λ a. is_pending a.status && holds (λ c. is_pending_challenge c.status) (find (λ c. n == c.number) a.challenges)))
    (find_part (has_row n) (λ a. k.authorizations a.number) T.authorizations h)
may_local k T (reported n o) h =
    ap (holds (λ a. is_pending a.status && holds (λ c. is_processing_challenge c.status) (find (λ c. n == c.number) a.challenges)))
    (find_part (has_row n) (λ a. k.authorizations a.number) T.authorizations h)
may_local k T (authorization_ended n s) h =
    ap (holds (λ a. is_live a.status)) (find_part (λ a. a.number == n) (λ a. k.authorizations a.number) T.authorizations h)
may_local k T (finalized n csr) h =
    ap (λ o. holds (λ x. is_ready x.status) o && has_length 1 longest_csr csr) (find_part (λ o. o.number == n) (λ o. k.orders o.number) T.orders h)
may_local k T (certified n c) h =
    ap (λ o. holds (λ x. is_processing x.status) o && has_length 1 longest_certificate c) (find_part (λ o. o.number == n) (λ o. k.orders o.number) T.orders h)
may_local k T (failed n f) h =
    ap (λ o. holds (λ x. is_processing x.status) o && is_problem f) (find_part (λ o. o.number == n) (λ o. k.orders o.number) T.orders h)
may_local k T _ h = refl
