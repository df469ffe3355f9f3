-- The keys of answers that are found by rows are those of the desk.
use Rattle.std.specs.Prelude.{◌==◌, IfSome, IsSome, find, option_and_then, option_map}
use Rattle.std.proofs.Common.{◌≡◌, ℕ, List, [], ◌∷◌, map, Option, Some, None, refl, sym, ap, subst, ◌∙◌, rules}
use Rattle.std.proofs.lemmas.Simd.{map-map}
use Rattle.sqlite.specs.{Held.Held, Held.state, Store.Ghosts}
use Rattle.store_columns.specs.Flat.{answer_key, bare_row, challenge_rows, key_rows, owned_by, without_challenges}
use Rattle.store_columns.specs.{Columns.account_columns, Columns.authorization_columns, Columns.challenge_columns, Limits.IsStoredAccount}
use Rattle.store_columns.specs.{Limits.IsStoredAuthorization, Limits.IsStoredChallenge, declared.columns.AnswerKey.AnswerKey, declared.columns.Owned.Owned}
use Rattle.store_columns.proofs.RowsApart.{accounts-apart, authorizations-apart, challenges-apart}
use Rattle.model_laws.proofs.Basics.{each, each-append, each-map, each_both, find-map}
use Rattle.model_laws.proofs.RowLists.{ascends_found, ascends_map, puts_ascending}
use Rattle.model_laws.specs.{FirstLaws.IsUnder, Ordered.Ascends, Placing.puts}
use Rattle.desk_model.specs.{Effect.key_in, Effect.key_numbered, Keys.thumbprint, Kept.EachOf, Questions.account_on, Tables.Tables}
use Rattle.desk_model.specs.declared.{objects.Answer.Answer, rows.AccountRow.AccountRow, rows.AuthorizationRow.AuthorizationRow, rows.ChallengeRow.ChallengeRow}
use Rattle.sql_read.proofs.FirstTables.{first_accounts, first_authorizations, first_challenges}
use Rattle.sql_read.proofs.{FoundRows.rows_back, Lists.each_map_sorted}
use Rattle.sql_tables.specs.{Layouts.challenge_layout, Layouts.key_layout, Sorted.sorted_by}
use Rattle.sql_tables.proofs.Sorting.{each_sorted, sorted_rises}
use Rattle.sql_write.specs.Upgrading.{AreKeysOf}
use Rattle.sql_upgrade.specs.FirstDesks.{IsFirstDesk}
use Rattle.sql_upgrade.specs.FoundKeys.{ShowsAnswers, ShowsOwners, ShowsThumbs, account_of, account_rows, found_key, row_key, row_keys, thumb_of, thumb_rows}
use Rattle.sql_upgrade.specs.declared.key_checks.{AccountThumb.AccountThumb, AuthorizationAccount.AuthorizationAccount}
use Rattle.sql_upgrade.proofs.PickedRows.{picked_alike, picked_map, picked_sorted}

-- ---- one answer

module _ (T : Tables) where
  abbrev accounts : List AuthorizationAccount
  accounts = map account_of T.authorizations

  abbrev thumbs : List AccountThumb
  thumbs = map thumb_of T.accounts

  -- the account of an authorization is there, and is found by the authorization's number
  record IsFound (a : AuthorizationRow) : Type 0 where
    pub owner : find (λ r. r.number == a.number) accounts ≡ Some (account_of a)
    pub account : IsSome (account_on T a.account)

  -- a challenge of it has the thumbprint of its account's key
  found_thumb : (a : AuthorizationRow) (n : ℕ) → IsFound a
      → found_key accounts thumbs a.number n ≡ Some (record { challenge = n; thumb = thumbprint (key_numbered a.account T.accounts) })
  found_thumb a n found =
      ap (option_and_then (λ (r : AuthorizationAccount). key_with (find (λ t. t.number == r.account) thumbs))) found.owner
      ∙ ap key_with (find-map (λ (t : AccountThumb). t.number == a.account) thumb_of T.accounts)
      ∙ by (account_on T a.account) found.account
    where
      key_with : Option AccountThumb → Option AnswerKey
      key_with o = option_map (λ (t : AccountThumb). record { challenge = n; thumb = t.thumb }) o

      by : (o : Option AccountRow) → IsSome o → key_with (option_map thumb_of o) ≡ Some (record { challenge = n; thumb = thumbprint (key_in o) })
      by None some = absurd (let never = some in cc)
      by (Some r) some = refl

  -- so the key that is found for a row is that of its answer
  row_key_is : (a : AuthorizationRow) (c : ChallengeRow) → IsFound a → IsUnder (key_numbered a.account T.accounts) c
      → row_key accounts thumbs (bare_row (record { owner = a.number; row = c })) ≡ answer_key c
  row_key_is a c found under = by c.answered under
    where
      by : (o : Option Answer) → IfSome o (λ x. x.thumb ≡ thumbprint (key_numbered a.account T.accounts))
          → option_and_then (λ (_ : ℕ). found_key accounts thumbs a.number c.number) (option_map (λ (x : Answer). x.date) o)
          ≡ option_map (λ (x : Answer). record { challenge = c.number; thumb = x.thumb }) o
      by None h = refl
      by (Some x) h = found_thumb a c.number found ∙ λ i. Some (record { challenge = c.number; thumb = sym h i })

  -- so it is of all
  each_key_is : (rows : List AuthorizationRow) → EachOf IsFound rows → EachOf (λ a. EachOf (IsUnder (key_numbered a.account T.accounts)) a.challenges) rows
      → EachOf (λ c. row_key accounts thumbs (bare_row c) ≡ answer_key c.row) (challenge_rows rows)
  each_key_is [] found under = tt
  each_key_is (a ∷ rows) found under =
      each-append (λ c. row_key accounts thumbs (bare_row c) ≡ answer_key c.row) (owned_by a.number a.challenges) (challenge_rows rows)
      (each-map (λ c. row_key accounts thumbs (bare_row c) ≡ answer_key c.row) (λ c. record { owner = a.number; row = c }) a.challenges
      (each (IsUnder (key_numbered a.account T.accounts)) _ a.challenges (λ c is. row_key_is a c found.0 is) under.0))
      (each_key_is rows found.1 under.1)

-- ---- all answers

-- an answer's key has the number of its challenge
key_numbers : (c : Owned ChallengeRow) → IfSome (answer_key c.row) (λ (k : AnswerKey). k.challenge ≡ c.row.number)
key_numbers c = search rules

module _ {S : Type 0} (g : Ghosts S) (conn : Held S) (T : Tables) (desk : IsFirstDesk (state g conn).now T) where
  -- each account is found
  all_found : EachOf (IsFound T) T.authorizations
  all_found =
      each _ (IsFound T) T.authorizations (λ a both. record {
        owner = find-map (λ (r : AuthorizationAccount). r.number == a.number) account_of T.authorizations ∙ ap (option_map account_of) both.0;
        account = both.1;
      })
      (each_both _ _ T.authorizations (ascends_found (λ a. a.number) 0 T.authorizations desk.holds.rising.authorizations)
      desk.book.book.sound.references.authorizations)

  -- the accounts that were shown are the desk's
  thumbs_are : (keys : List AnswerKey) → (shows : ShowsThumbs g (state g conn).now keys) → shows.thumbs ≡ thumbs T
  thumbs_are keys shows =
      let it = shows.table.shown conn refl in
      let rows = rows_back account_columns IsStoredAccount accounts-apart _ T.accounts shows.table.rows desk.book.stored.accounts
      ((first_accounts g conn T desk.holds).columns_are _ it) (shows.table.stored, refl) in
      shows.table.is ∙ ap thumb_rows rows
      ∙ puts_ascending (λ t. t.number) 0 (thumbs T) (ascends_map (λ a. a.number) (λ t. t.number) thumb_of (λ _. refl) 0 T.accounts desk.holds.rising.accounts)

  -- so are the authorizations
  owners_are : (ts : List AccountThumb) (keys : List AnswerKey) → (shows : ShowsOwners g (state g conn).now ts keys) → shows.accounts ≡ accounts T
  owners_are ts keys shows =
      let it = shows.table.shown conn refl in
      let rows = rows_back authorization_columns IsStoredAuthorization authorizations-apart _ (map without_challenges T.authorizations) shows.table.rows
      desk.book.stored.authorizations
      ((first_authorizations g conn T desk.holds).columns_are _ it
      ∙ sym (map-map authorization_columns without_challenges T.authorizations)) (shows.table.stored, refl) in
      shows.table.is ∙ ap account_rows rows
      ∙ ap (λ l. puts (λ a. a.number) l []) (map-map account_of without_challenges T.authorizations)
      ∙ puts_ascending (λ a. a.number) 0 (accounts T)
      (ascends_map (λ a. a.number) (λ a. a.number) account_of (λ _. refl) 0 T.authorizations desk.holds.rising.authorizations)

  -- and the challenges, by number
  answers_are : (keys : List AnswerKey) → ShowsAnswers g (state g conn).now (accounts T) (thumbs T) keys
      → keys ≡ sorted_by key_layout.key (key_rows (challenge_rows T.authorizations))
  answers_are keys shows =
      let it = shows.shown conn refl in
      let cs = challenge_rows T.authorizations in
      let sorted = sorted_by challenge_layout.key cs in
      let rows = rows_back challenge_columns IsStoredChallenge challenges-apart _ (map bare_row sorted) shows.rows
      (each_map_sorted challenge_layout.key bare_row IsStoredChallenge cs desk.book.stored.challenges)
      ((first_challenges g conn T desk.holds).columns_are _ it
      ∙ sym (map-map challenge_columns bare_row sorted)) (shows.stored, refl) in
      shows.is ∙ ap (row_keys (accounts T) (thumbs T)) rows
      ∙ picked_map (row_key (accounts T) (thumbs T)) bare_row sorted
      ∙ picked_alike (λ c. row_key (accounts T) (thumbs T) (bare_row c)) (λ c. answer_key c.row) sorted
      (each_sorted challenge_layout.key (λ c. row_key (accounts T) (thumbs T) (bare_row c) ≡ answer_key c.row) cs
      (each_key_is T T.authorizations all_found desk.keys))
      ∙ picked_sorted challenge_layout.key key_layout.key (λ c. answer_key c.row) key_numbers cs desk.holds.rising.challenges

  -- so the keys are those of all answers
  pub found_keys_are : (keys : List AnswerKey) → ShowsThumbs g (state g conn).now keys → AreKeysOf keys T
  found_keys_are keys shows =
      let owners = subst (λ ts. ShowsOwners g (state g conn).now ts keys) (thumbs_are keys shows) shows.owners in
      let answers = subst (λ found. ShowsAnswers g (state g conn).now found (thumbs T) keys) (owners_are (thumbs T) keys owners) owners.answers in
      let are = answers_are keys answers in
      puts_ascending key_layout.key 0 keys
      (subst (Ascends key_layout.key 0) (sym are) (sorted_rises key_layout.key (key_rows (challenge_rows T.authorizations))))
      ∙ are
