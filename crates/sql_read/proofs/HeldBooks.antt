-- Held tables show the rows of their book alone.
use Rattle.std.proofs.Common.{◌≡◌, ◌<◌, ◌+◌, inr, ℕ, List, [], ◌∷◌, ◌++◌, map, refl, ap, subst, arith}
use Rattle.std.proofs.{lemmas.List.map-id, lemmas.List.Sorted.IsPermutation-map, lemmas.List.Sorted.IsPermutation-refl}
use Rattle.sqlite.specs.{Order.Row, Store.Ghosts, Held.Held, Held.state}
use Rattle.store_columns.specs.Columns.{account_columns, first_format, key_columns, meta_columns, nonce_columns}
use Rattle.store_columns.specs.Flat.{bare_row, challenge_rows, key_rows, listed_rows, owned_by, without_challenges, without_listed}
use Rattle.store_columns.specs.{Limits.AreStored, Limits.IsStoredKey, declared.columns.FlatRows.FlatRows, declared.columns.Owned.Owned}
use Rattle.model_laws.specs.Ordered.{Ascends}
use Rattle.model_laws.proofs.RowLists.{ascends_map}
use Rattle.desk_model.specs.{Kept.EachOf, Tables.Tables, declared.rows.Listed.Listed, declared.rows.OrderRow.OrderRow}
use Rattle.sql_schema.specs.declared.accounts.TheConstants as account
use Rattle.sql_schema.specs.declared.keys.TheConstants as chall_key
use Rattle.sql_schema.specs.declared.nonces.TheConstants as nonce
use Rattle.sql_tables.specs.Holds.{AreRising, Holds, HoldsFirst}
use Rattle.sql_tables.specs.{Images.formatted_columns, Layouts.challenge_layout, Layouts.key_layout, Sorted.sorted_by}
use Rattle.sql_tables.proofs.{AnswerKeys.keys_apart, Sorting.each_sorted, Sorting.sorted_moves, Sorting.sorted_rises}
use Rattle.store_book.specs.{ByKey.AreByKey, IsBook.IsBookOf, IsBook.IsStoredBook, Passing.PlacedFrom}
use Rattle.sql_read.specs.Only.{ShowsOnlyBook, ShowsOnlyFirstBook, ShowsOnlyFirstMetas, ShowsOnlyKeys, ShowsOnlyRows}
use Rattle.sql_read.specs.Spelled.{FitsAccount, FitsKey, FitsMeta, FitsNonce, account_in, key_in, meta_in, nonce_in}
use Rattle.sql_read.specs.{BookShown.HoldsIn, Checking.AreFirst, Checking.ShowsOnly, First.raised_meta, declared.formats.Format.Format}
use Rattle.sql_read.specs.{declared.formats.Format.TheVariants.First, declared.formats.Format.TheVariants.Second}
use Rattle.sql_read.proofs.WholeTables.{accounts_whole, authorizations_whole, challenges_whole, keys_whole, listed_only, meta_whole, nonces_whole, orders_whole}
use Rattle.sql_read.proofs.WholeTables.{whole}
use Rattle.sql_read.proofs.{KeptRows.challenges_kept, KeptRows.meta_kept, Readings.meta_reading, TableFacts.meta_facts}

-- ---- rows by key

-- the rows of tables, each table by key
abbrev held_rows : Tables → FlatRows
held_rows T =
    let challenges = challenge_rows T.authorizations in
    record {
      metas = T.meta ∷ [];
      nonces = T.nonces;
      accounts = T.accounts;
      orders = map without_listed T.orders;
      authorizations = map without_challenges T.authorizations;
      listed = listed_rows T.orders;
      challenges = map bare_row (sorted_by challenge_layout.key challenges);
      keys = sorted_by key_layout.key (key_rows challenges);
    }

-- what an order lists from a place on comes behind this one, and then what is listed behind it
next_placed : (n place k : ℕ) (ls : List Listed) (rest : List (Owned Listed)) → place < k → Ascends (λ l. l.place) k ls
    → ((place : ℕ) → PlacedFrom n place rest) → PlacedFrom n place (owned_by n ls ++ rest)
next_placed n place k [] rest low up more = more place
next_placed n place k (l ∷ ls) rest low up more =
    let at = up.0 in (inr (refl, omega (arith, low, at)), next_placed n l.place (l.place + 1) ls rest (omega arith) up.1 more)

-- what an order lists comes behind an earlier one
first_placed : (order place n : ℕ) (ls : List Listed) (rest : List (Owned Listed)) → order < n → Ascends (λ l. l.place) 1 ls
    → ((order place : ℕ) → order < n + 1 → PlacedFrom order place rest) → PlacedFrom order place (owned_by n ls ++ rest)
first_placed order place n [] rest low up more = more order place (omega (arith, low))
first_placed order place n (l ∷ ls) rest low up more = grind (arith, next_placed)

-- what orders list, whose numbers ascend, and the places of each
all_placed : (order place n : ℕ) (os : List OrderRow) → order < n → Ascends (λ o. o.number) n os → EachOf (λ o. Ascends (λ l. l.place) 1 o.listed) os
    → PlacedFrom order place (listed_rows os)
all_placed order place n [] low up places = tt
all_placed order place n (o ∷ os) low up places =
    let at = up.0 in
    first_placed order place o.number o.listed (listed_rows os) (omega (arith, low, at)) places.0
    (λ order place later. all_placed order place (o.number + 1) os later up.1 places.1)

module _ (T : Tables) (rising : AreRising T) (book : IsStoredBook T) where
  -- the rows stand by key
  by_key : AreByKey (held_rows T)
  by_key =
      let challenges = challenge_rows T.authorizations in
      record {
        nonces = rising.nonces;
        accounts = rising.accounts;
        orders = ascends_map (λ o. o.number) (λ o. o.number) without_listed (λ o. refl) 0 T.orders rising.orders;
        authorizations = ascends_map (λ a. a.number) (λ a. a.number) without_challenges (λ a. refl) 0 T.authorizations rising.authorizations;
        listed = all_placed 0 0 1 T.orders (omega arith) book.book.in_order.orders book.book.in_order.places;
        challenges = ascends_map challenge_layout.key (λ c. c.row.number) bare_row (λ c. refl) 0 (sorted_by challenge_layout.key challenges)
            (sorted_rises challenge_layout.key challenges);
        keys = sorted_rises key_layout.key (key_rows challenges);
      }

  -- and are those of the book
  is_book : IsBookOf (held_rows T) T
  is_book =
      let challenges = challenge_rows T.authorizations in
      record {
        is_book = book.book;
        has_rows = record {
          metas = IsPermutation-refl (T.meta ∷ []);
          nonces = IsPermutation-refl T.nonces;
          accounts = IsPermutation-refl T.accounts;
          orders = IsPermutation-refl (map without_listed T.orders);
          authorizations = IsPermutation-refl (map without_challenges T.authorizations);
          listed = IsPermutation-refl (listed_rows T.orders);
          challenges = IsPermutation-map bare_row (sorted_by challenge_layout.key challenges) challenges
              (sorted_moves challenge_layout.key challenges rising.challenges);
          keys = sorted_moves key_layout.key (key_rows challenges) (keys_apart challenges rising.challenges);
        };
      }

-- ---- what is shown

module _ {S : Type 0} (g : Ghosts S) (here : Held S) (T : Tables) (book : IsStoredBook T) where
  -- the rows are in the limits of their columns
  stored : (format : Format) → HoldsIn format (state g here).now T → AreStored (held_rows T)
  stored format has = record {
    metas = book.stored.metas;
    nonces = book.stored.nonces;
    accounts = book.stored.accounts;
    orders = book.stored.orders;
    authorizations = book.stored.authorizations;
    listed = book.stored.listed;
    challenges = (challenges_kept (state g here).now T format has).stored book.stored;
    keys = each_sorted key_layout.key IsStoredKey (key_rows (challenge_rows T.authorizations)) book.stored.keys;
  }

  -- keys of answers
  keys_only : (format : Format) → HoldsIn format (state g here).now T → ShowsOnlyKeys g (state g here).now format (held_rows T).keys
  keys_only First has = tt
  keys_only Second has =
      subst (ShowsOnly g chall_key.SELECT.now key_in key_columns FitsKey (state g here).now) (map-id (held_rows T).keys)
      ((keys_whole g here T has).only book.texts)

  -- the tables show these rows alone
  rows_only : (format : Format) → HoldsIn format (state g here).now T → ShowsOnlyRows g (state g here).now format (held_rows T)
  rows_only format has = record {
    nonces = subst (ShowsOnly g nonce.SELECT.now nonce_in nonce_columns FitsNonce (state g here).now) (map-id T.nonces)
        ((nonces_whole g here T format has).only book.texts);
    accounts = subst (ShowsOnly g account.SELECT.now account_in account_columns FitsAccount (state g here).now) (map-id T.accounts)
        ((accounts_whole g here T format has).only book.texts);
    orders = (orders_whole g here T format has).only book.texts;
    authorizations = (authorizations_whole g here T format has).only book.texts;
    listed = listed_only g here T format has book.book;
    challenges = (challenges_whole g here T format has).only book.texts;
    keys = keys_only format has;
  }

  -- tables in today's format
  pub held_only : Holds (state g here).now T → ShowsOnlyBook g (state g here).now T
  held_only has = record {
    rows = held_rows T;
    stored = stored Second has;
    by_key = by_key T has.rising book;
    book = is_book T has.rising book;
    metas = (whole g meta_facts here T (meta_reading Second) (meta_kept (state g here).now T has)).only book.texts;
    only = rows_only Second has;
  }

  -- and in format 1, whose row of `meta` counts as today's
  first_metas : HoldsFirst (state g here).now T → ShowsOnlyFirstMetas g (state g here).now (T.meta ∷ [])
  first_metas has =
      let it = (meta_whole g here T First has).only book.texts in
      record {
        first = λ conn given same gives. raised given (it.first conn given same gives);
        whole = λ old new given same h. raised_all given (it.whole old new given same h);
      }
    where
      raised : (given : List Row) → AreFirst meta_in formatted_columns FitsMeta given ((first_format, T.meta) ∷ [])
          → AreFirst (λ r. raised_meta (meta_in r)) meta_columns FitsMeta given (T.meta ∷ [])
      raised [] h = tt
      raised (r ∷ []) h = (ap raised_meta h.0, h.1, tt)
      raised (r ∷ s ∷ given) h = absurd h.2

      raised_all : (given : List Row) → map meta_in given ≡ map formatted_columns ((first_format, T.meta) ∷ [])
          → map (λ r. raised_meta (meta_in r)) given ≡ map meta_columns (T.meta ∷ [])
      raised_all [] same = absurd (cc same)
      raised_all (r ∷ []) same = let one : meta_in r ≡ formatted_columns (first_format, T.meta) = cc same in λ i. raised_meta (one i) ∷ []
      raised_all (r ∷ s ∷ given) same = absurd (cc same)

  -- and in format 1 its book alone
  pub held_first_only : HoldsFirst (state g here).now T → ShowsOnlyFirstBook g (state g here).now T
  held_first_only has = record {
    rows = held_rows T;
    stored = stored First has;
    by_key = by_key T has.rising book;
    book = is_book T has.rising book;
    metas = first_metas has;
    only = rows_only First has;
  }
