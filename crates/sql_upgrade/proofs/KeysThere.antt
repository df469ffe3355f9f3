-- A book's rows in format 1 have the keys of their answers.
use Rattle.std.proofs.Common.{◌≡◌, ℕ, Bool, false, List, [], ◌∷◌, map, Option, Some, None, refl, sym, subst, subst₂, arith, rules}
use Rattle.std.specs.Prelude.{◌==◌, IfSome, IsSome, is_some, find, option_and_then, option_map}
use Rattle.sqlite.specs.{Held.Held, Held.state, Store.Ghosts}
use Rattle.store_columns.specs.declared.columns.{AnswerKey.AnswerKey, BareChallenge.BareChallenge, FlatRows.FlatRows, Owned.Owned}
use Rattle.store_book.specs.BookRows.{AreBookRows, IsAmong}
use Rattle.store_book.proofs.{KeyedRows.books_have_rows, Owners.found_among}
use Rattle.model_laws.proofs.{Basics.each, Basics.find-map, RowLists.ascends_map, RowLists.puts_ascending}
use Rattle.desk_model.specs.{Kept.EachOf, declared.rows.AccountRow.AccountRow, declared.rows.AuthorizationRow.AuthorizationRow, declared.rows.Meta.Meta}
use Rattle.sql_read.specs.FirstRows.{HasNoFirstBook}
use Rattle.sql_upgrade.specs.FoundKeys.{HasKey, LacksThumbs, account_of, account_rows, found_key, row_key, thumb_of, thumb_rows}
use Rattle.sql_upgrade.specs.declared.key_checks.{AccountThumb.AccountThumb, AuthorizationAccount.AuthorizationAccount}

-- what holds of each holds of what is found
found_holds : {X : Type 0} (P : X → Type 0) (p : X → Bool) (xs : List X) → EachOf P xs → IfSome (find p xs) P
found_holds P p [] h = tt
found_holds {X} P p (x ∷ xs) h = grind (arith, (found_holds P p xs h.1))

-- the key of an answer to a challenge of one of these authorizations is found, where each has one of these accounts
key_found : (authorizations : List AuthorizationRow) (accounts : List AccountRow) (n number : ℕ) → IsAmong (map (λ a. a.number) authorizations) n
    → EachOf (λ a. IsAmong (map (λ t. t.number) accounts) a.account) authorizations
    → IsSome (found_key (map account_of authorizations) (map thumb_of accounts) n number)
key_found authorizations accounts n number among owned =
    subst (λ o. IsSome (option_and_then key_of o)) (sym (find-map (λ (r : AuthorizationAccount). r.number == n) account_of authorizations))
    (by (find (λ a. a.number == n) authorizations) (found_among (λ (a : AuthorizationRow). a.number) n authorizations among)
    (found_holds (λ a. IsAmong (map (λ t. t.number) accounts) a.account) (λ a. a.number == n) authorizations owned))
  where
    key_of : AuthorizationAccount → Option AnswerKey
    key_of a = option_map (λ t. record { challenge = number; thumb = t.thumb }) (find (λ t. t.number == a.account) (map thumb_of accounts))

    by : (o : Option AuthorizationRow) → IsSome o → IfSome o (λ a. IsAmong (map (λ t. t.number) accounts) a.account)
        → IsSome (option_and_then key_of (option_map account_of o))
    by l h k = grind (arith, find-map)

-- so each answer of a book's rows has its key
pub all_have_keys : (meta : Meta) (rows : FlatRows) → AreBookRows meta rows
    → EachOf (HasKey (account_rows rows.authorizations) (thumb_rows rows.accounts)) rows.challenges
all_have_keys meta rows are =
    let accounts = puts_ascending (λ a. a.number) 1 (map account_of rows.authorizations)
    (ascends_map (λ a. a.number) (λ a. a.number) account_of (λ _. refl) 1 rows.authorizations are.authorizations.table.0) in
    let thumbs = puts_ascending (λ t. t.number) 1 (map thumb_of rows.accounts)
    (ascends_map (λ a. a.number) (λ t. t.number) thumb_of (λ _. refl) 1 rows.accounts are.accounts.table.0) in
    subst₂ (λ os ts. EachOf (HasKey os ts) rows.challenges) (sym accounts) (sym thumbs)
    (each (λ c. IsAmong (map (λ a. a.number) rows.authorizations) c.owner) (HasKey (map account_of rows.authorizations) (map thumb_of rows.accounts))
    rows.challenges (λ c among. by c.row.answered c.row.number (key_found rows.authorizations rows.accounts c.owner c.row.number among
    are.authorizations.accounts_found)) are.challenges.authorizations_found)
  where
    by : {P : Type 0} (o : Option ℕ) (n : ℕ) → P → IfSome o (λ _. P)
    by None n found = tt
    by (Some date) n found = found

-- where rows lack a key, they are no book's
pub no_keys : {S : Type 0} (g : Ghosts S) (conn : Held S) → LacksThumbs g (state g conn).now → HasNoFirstBook g conn
no_keys g conn lacks T only =
    lacks only.rows only.stored only.only (all_have_keys T.meta only.rows (books_have_rows only.rows T only.book only.by_key))

-- a key that is there is not missing
pub key_there : (accounts others : List AuthorizationAccount) (thumbs marks : List AccountThumb) (c : Owned BareChallenge) (key : Option AnswerKey)
    → others ≡ accounts → marks ≡ thumbs → key ≡ row_key others marks c → HasKey accounts thumbs c → IsSome c.row.answered → is_some key ≡ false → ⊥
key_there accounts others thumbs marks c key same alike is has answered = search rules
