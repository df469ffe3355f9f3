-- The rows that are enough for an ask, by what it needs.
use Rattle.std.proofs.Common.{◌≡◌, ℕ, List, [], ◌∷◌, ◌++◌, ap, append_assoc, filter, map, refl, sym, ◌∙◌, Bool, arith}
use Rattle.std.proofs.lemmas.List.Folds.{flat_map-map}
use Rattle.model_laws.specs.{Ordered.IsOrdered, Placing.puts}
use Rattle.model_laws.proofs.RowLists.{puts_append}
use Rattle.desk_model.specs.{Touched.is_named_account, Tables.Tables}
use Rattle.desk_model.specs.declared.{call.Ask.Ask, rows.AccountRow.AccountRow, rows.AuthorizationRow.AuthorizationRow}
use Rattle.model_parts.proofs.Found.{found_table, IsFound, found_both, found_by, found_filter}
use Rattle.model_parts.proofs.Loading.{accounts_named, of_account}
use Rattle.store_api.proofs.Missing.{missings_put}
use Rattle.std.specs.{List.list_any, List.flat_map, Prelude.◌||◌, Prelude.bytes_eq, Prelude.◌&&◌, Prelude.if◌then◌else◌}
use Rattle.model_parts.specs.Loaded.{account_numbers, keys, new_keys, accounts_once, authorizations_once, listing_orders, named_accounts, past_authorizations}
use Rattle.model_parts.specs.Loaded.{past_orders}
use Rattle.model_parts.specs.LookUps.{accounts_with_key, accounts_numbered, authorizations_numbered, authorizations_of, orders_numbered, owners_of}
use Rattle.model_parts.specs.MinimalPart.{needs_holders}
use Rattle.model_parts.specs.MinimalPartLoaded.{minimal_accounts, holders_of, moved_authorizations, opened_orders, restated_authorizations}
use Rattle.store_api.specs.Needing.{keyed_accounts, missings, with_named, NeedsFor, movable_by, opened_with, restated_by}
use Rattle.store_api.specs.declared.enough.RowsNeeded.{RowsNeeded}

-- rows that lead to themselves alone
pub themselves : {X : Type 0} (xs : List X) → flat_map (λ x. x ∷ []) xs ≡ xs
themselves [] = refl
themselves (x ∷ xs) = ap (λ l. x ∷ l) (themselves xs)

-- the accounts that are named, those of a number put where they are missing
pub named_missing : (T : Tables) (a : Ask) → IsOrdered T → with_named T a [] ≡ accounts_once (named_accounts T a)
named_missing T a h =
    ap (missings of_account (accounts_numbered T) (account_numbers a)) keyed
    ∙ missings_put of_account T.accounts h.accounts.0 (account_numbers a) has_one
    ∙ ap (puts of_account (flat_map (accounts_numbered T) (account_numbers a))) (sym keyed)
    ∙ sym (puts_append of_account (keyed_accounts T a) (flat_map (accounts_numbered T) (account_numbers a)) [])
    ∙ ap (λ rows. puts of_account rows []) (append_assoc (flat_map (accounts_with_key T) (keys a)) (flat_map (accounts_with_key T) (new_keys a))
    (flat_map (accounts_numbered T) (account_numbers a)))
  where
    has_one : AccountRow → Bool
    has_one x = list_any (λ k. bytes_eq x.key k) (keys a) || list_any (λ k. bytes_eq x.key k) (new_keys a)

    by_keys : (texts : List (List ℕ)) → IsFound of_account (λ x. list_any (λ k. bytes_eq x.key k) texts) T.accounts (flat_map (accounts_with_key T) texts)
    by_keys texts = found_by (λ k. found_filter h.accounts.0) texts

    keyed : puts of_account (keyed_accounts T a) [] ≡ filter has_one T.accounts
    keyed =
        found_table of_account has_one 1 T.accounts (keyed_accounts T a) h.accounts.0
        (found_both (by_keys (keys a)) (by_keys (new_keys a)))

-- the accounts of the authorizations that are named, where they are needed, put where they are missing, make the accounts that are enough
pub holders_missing : (T : Tables) (a : Ask) → IsOrdered T →
    missings of_account (accounts_numbered T)
    (if needs_holders a then map (λ (r : AuthorizationRow). r.account) (authorizations_once (moved_authorizations T a)) else [])
    (accounts_once (named_accounts T a))
    ≡ accounts_once (minimal_accounts T a)
holders_missing T a h =
    ap (missings of_account (accounts_numbered T) holders) named
    ∙ missings_put of_account T.accounts h.accounts.0 holders (is_named_account a)
    ∙ ap (puts of_account (flat_map (accounts_numbered T) holders)) (sym named)
    ∙ ap (λ rows. puts of_account rows (accounts_once (named_accounts T a))) (by (needs_holders a))
    ∙ sym (puts_append of_account (named_accounts T a)
    (if needs_holders a then holders_of T (authorizations_once (moved_authorizations T a)) else []) [])
  where
    holders : List ℕ
    holders = if needs_holders a then map (λ (r : AuthorizationRow). r.account) (authorizations_once (moved_authorizations T a)) else []

    by : (b : Bool) →
        flat_map (accounts_numbered T) (if b then map (λ (r : AuthorizationRow). r.account) (authorizations_once (moved_authorizations T a)) else [])
        ≡ (if b then holders_of T (authorizations_once (moved_authorizations T a)) else [])
    by b = grind (arith, flat_map-map)

    named : accounts_once (named_accounts T a) ≡ filter (is_named_account a) T.accounts
    named = found_table of_account (is_named_account a) 1 T.accounts (named_accounts T a) h.accounts.0 (accounts_named T a h)

module _ (T : Tables) (m : ℕ) (a : Ask) (needs : RowsNeeded) (is : NeedsFor a m needs) where
  -- the authorizations that are named, or of an account that ends
  pub movable_are : (accounts : List AccountRow) → accounts ≡ accounts_once (named_accounts T a) → movable_by T needs accounts ≡ moved_authorizations T a
  movable_are accounts same = λ i.
      (flat_map (authorizations_numbered T) (is.named.authorization i)
      ++ flat_map (λ c. flat_map (authorizations_numbered T) (owners_of T c)) (is.named.challenge i))
      ++ (if is.restated i && is.named.authorizations_asked i then flat_map (λ (x : AccountRow). authorizations_of T x.number) (same i) else [])

  -- those whose statuses may change
  pub restated_are : (movable : List AuthorizationRow) → movable ≡ authorizations_once (moved_authorizations T a) →
      restated_by T needs movable ≡ restated_authorizations T m a
  restated_are movable same = λ i. past_authorizations T (is.moment i) ++ (if is.restated i then same i else [])

  -- the orders whose statuses may change, or that are named
  pub opened_are : (rows : List AuthorizationRow) → rows ≡ authorizations_once (restated_authorizations T m a) →
      opened_with T needs rows ≡ opened_orders T m a
  opened_are rows same = λ i.
      (past_orders T (is.moment i) ++ listing_orders T (same i))
      ++ (if is.listed i then flat_map (orders_numbered T) (is.named.order i) else [])
