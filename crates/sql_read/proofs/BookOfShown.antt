-- What checked tables showed is a book's.
use Rattle.std.proofs.Common.{◌≡◌, List, [], ◌∷◌, Option, map, refl, sym, subst, arith}
use Rattle.std.specs.Prelude.{filter_map, option_map}
use Rattle.sqlite.specs.{Held.Held, Held.state, Store.Ghosts}
use Rattle.store_book.specs.BookRows.{AreAccounts, AreAuthorizations, AreBookRows, AreChallenges, AreKeys, AreOrders, answered_numbers}
use Rattle.store_book.specs.IsBook.{IsBookOfStored}
use Rattle.store_book.proofs.InOrder.{rows_are_books}
use Rattle.store_columns.specs.Columns.{challenge_columns, key_columns, meta_columns, rows_columns}
use Rattle.store_columns.specs.Limits.{AreStored, IsStoredChallenge, IsStoredKey, IsStoredMeta}
use Rattle.store_columns.specs.declared.columns.{StoredRows.StoredRows, AnswerKey.AnswerKey, BareChallenge.BareChallenge, FlatRows.FlatRows, Owned.Owned}
use Rattle.model_laws.specs.Ordered.{IsTable}
use Rattle.desk_model.specs.{Kept.EachOf, Tables.Tables, declared.rows.Counters.Counters, declared.rows.Meta.Meta}
use Rattle.sql_read.specs.First.{AreFirstShown, ShowsFirstMeta, blank_key, zeros}
use Rattle.sql_read.specs.{BookShown.ShowsBookRows, BookShown.ShowsNonces, Shown.AreShown, Shown.IsShown, Spelled.meta_in, declared.formats.Format.Format}
use Rattle.sql_read.specs.{declared.formats.Format.TheVariants.First, declared.formats.Format.TheVariants.Second}
use Rattle.sql_schema.specs.declared.meta.TheConstants as text

-- ---- the rows of either format

module _ {S : Type 0} (g : Ghosts S) (conn : Held S) (format : Format) (meta : Meta) (last : Counters) (shows : ShowsNonces g (state g conn).now format last)
    (keys : List AnswerKey) where
  -- the challenges
  abbrev challenges : List (Owned BareChallenge)
  challenges = shows.accounts.orders.authorizations.listed.challenges.table.rows

  -- the rows, table by table
  abbrev flat_rows : FlatRows
  flat_rows =
      let accounts = shows.accounts in
      let authorizations = accounts.orders.authorizations in
      record {
        metas = meta ∷ [];
        nonces = shows.table.rows;
        accounts = accounts.table.rows;
        orders = accounts.orders.table.rows;
        authorizations = authorizations.table.rows;
        listed = authorizations.listed.table.rows;
        challenges = challenges;
        keys = keys;
      }

  stored : IsStoredMeta meta → EachOf IsStoredKey keys → AreStored flat_rows
  stored meta_stored keys_stored =
      let accounts = shows.accounts in
      let authorizations = accounts.orders.authorizations in
      record {
        metas = (meta_stored, tt);
        nonces = shows.table.stored;
        accounts = accounts.table.stored;
        orders = accounts.orders.table.stored;
        authorizations = authorizations.table.stored;
        listed = authorizations.listed.table.stored;
        challenges = authorizations.listed.challenges.table.stored;
        keys = keys_stored;
      }

  -- each table by itself is one of a book's
  book_rows : last ≡ meta.counters → AreKeys (answered_numbers challenges) keys → AreBookRows meta flat_rows
  book_rows same are =
      let accounts = shows.accounts in
      let authorizations = accounts.orders.authorizations in
      let listed = authorizations.listed in
      record {
        metas = refl;
        nonces = subst (λ k. IsTable (λ n. n.serial) k.nonces shows.table.rows) same shows.table.is;
        accounts = subst (λ k. AreAccounts k.accounts accounts.table.rows) same accounts.table.is;
        orders = subst (λ k. AreOrders k.orders (map (λ a. a.number) accounts.table.rows) accounts.orders.table.rows) same accounts.orders.table.is;
        authorizations = subst (λ k. AreAuthorizations k.authorizations (map (λ a. a.number) accounts.table.rows) authorizations.table.rows) same
            authorizations.table.is;
        listed = listed.table.is;
        challenges = subst (λ k. AreChallenges k.challenges (map (λ a. a.number) authorizations.table.rows) challenges) same listed.challenges.table.is;
        keys = are;
      }

  -- there is a book of them
  pub book_of_rows : IsStoredMeta meta → EachOf IsStoredKey keys → last ≡ meta.counters → AreKeys (answered_numbers challenges) keys
      → (T : Tables) × IsBookOfStored (rows_columns flat_rows) T
  book_of_rows meta_stored keys_stored same are =
      let in_limits = stored meta_stored keys_stored in
      let it = rows_are_books meta flat_rows in_limits (book_rows same are) in
      (it.0, record { flat_rows = flat_rows; spelled = refl; in_limits = in_limits; book = it.1 })

-- ---- today's format

module _ {S : Type 0} (g : Ghosts S) (conn : Held S) (shows : ShowsBookRows g (state g conn).now) where
  -- there is a book of what was shown
  pub book_shown : (all : StoredRows) × AreShown g conn all × (T : Tables) × IsBookOfStored all T
  book_shown =
      let meta = shows.table.is.meta in
      let alone = shows.table.is.alone in
      let accounts = shows.nonces.accounts in
      let authorizations = accounts.orders.authorizations in
      let challenges = authorizations.listed.challenges in
      let keys = challenges.keys in
      let book = book_of_rows g conn Second meta shows.last shows.nonces keys.rows (subst (EachOf IsStoredMeta) alone shows.table.stored).0 keys.stored
      shows.table.is.counters keys.is in (
        rows_columns (flat_rows g conn Second meta shows.last shows.nonces keys.rows),
        record {
          metas = subst (λ ms. IsShown g text.SELECT.now meta_in conn (map meta_columns ms)) alone (shows.table.shown conn refl);
          nonces = shows.nonces.table.shown conn refl;
          accounts = accounts.table.shown conn refl;
          orders = accounts.orders.table.shown conn refl;
          authorizations = authorizations.table.shown conn refl;
          listed = authorizations.listed.table.shown conn refl;
          challenges = challenges.table.shown conn refl;
          keys = keys.shown conn refl;
        },
        book.0,
        book.1,
      )

-- ---- format 1

-- zeros in the place of the key of an answer
abbrev blank_of : Owned BareChallenge → Option AnswerKey
blank_of c = option_map (λ _. record { challenge = c.row.number; thumb = zeros }) c.row.answered

abbrev blanks : List (Owned BareChallenge) → List AnswerKey
blanks cs = filter_map blank_of cs

-- there is one for each challenge that was answered
blanks_answer : (cs : List (Owned BareChallenge)) → AreKeys (answered_numbers cs) (blanks cs)
blanks_answer [] = refl
blanks_answer (c ∷ cs) = grind (arith, (blanks_answer cs))

-- they are in their limits
blanks_stored : (cs : List (Owned BareChallenge)) → EachOf IsStoredChallenge cs → EachOf IsStoredKey (blanks cs)
blanks_stored [] each = tt
blanks_stored (c ∷ cs) each = grind (arith, (blanks_stored cs each.1))

-- and their columns are those of challenges
blanks_spelled : (cs : List (Owned BareChallenge)) → map key_columns (blanks cs) ≡ filter_map blank_key (map challenge_columns cs)
blanks_spelled [] = refl
blanks_spelled (c ∷ cs) = grind (arith, (blanks_spelled cs))

module _ {S : Type 0} (g : Ghosts S) (conn : Held S) (meta : Meta) (shown : ShowsFirstMeta g conn meta)
    (shows : ShowsNonces g (state g conn).now First meta.counters) where
  -- there is a book of what was shown
  pub first_book_shown : (all : StoredRows) × AreFirstShown g conn all × (T : Tables) × IsBookOfStored all T
  first_book_shown =
      let accounts = shows.accounts in
      let authorizations = accounts.orders.authorizations in
      let challenges = authorizations.listed.challenges in
      let cs = challenges.table.rows in
      let book = book_of_rows g conn First meta meta.counters shows (blanks cs) shown.stored (blanks_stored cs challenges.table.stored) refl
      (blanks_answer cs) in (
        rows_columns (flat_rows g conn First meta meta.counters shows (blanks cs)),
        record {
          read = shown.read;
          metas = shown.shown;
          raised_metas = sym shown.raised;
          nonces = shows.table.shown conn refl;
          accounts = accounts.table.shown conn refl;
          orders = accounts.orders.table.shown conn refl;
          authorizations = authorizations.table.shown conn refl;
          listed = authorizations.listed.table.shown conn refl;
          challenges = challenges.table.shown conn refl;
          blank_keys = blanks_spelled cs;
        },
        book.0,
        book.1,
      )
