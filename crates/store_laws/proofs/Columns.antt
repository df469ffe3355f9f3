-- The columns of a book's rows, in any order, tell the book.
use Rattle.std.proofs.{Common.◌≡◌, Common.List, Common.map, Common.sym, Common.subst, Common.rules, lemmas.List.Sorted.IsPermutation-sym}
use Rattle.std.specs.List.Sorted.{IsPermutation}
use Rattle.store_columns.specs.{Columns.account_columns, Columns.authorization_columns, Columns.challenge_columns, Columns.key_columns, Columns.listed_columns}
use Rattle.store_columns.specs.{Columns.meta_columns, Columns.nonce_columns, Columns.order_columns, Columns.rows_columns, Limits.AreStored}
use Rattle.store_columns.specs.{Limits.IsStoredAccount, Limits.IsStoredAuthorization, Limits.IsStoredChallenge, Limits.IsStoredKey, Limits.IsStoredListed}
use Rattle.store_columns.specs.{Limits.IsStoredMeta, Limits.IsStoredNonce, Limits.IsStoredOrder, declared.columns.StoredRows.StoredRows, Flat.flat}
use Rattle.desk_model.specs.{Entry.History, History.clock, Legal.Legal, Tables.picture, Tables.Tables}
use Rattle.store_laws.proofs.{Books.tables_book, Rows.picture_stored}
use Rattle.store_laws.specs.Told.{AreReorderedColumns, IsOnlyBookOf}
use Rattle.store_book.proofs.{SoundBooks.same-books, SoundBooks.stored-told, KeyedRows.each_moved, Swapped.lifted}
use Rattle.store_book.specs.IsBook.{IsBook, IsBookOf, IsBookOfStored}

-- columns in another order are those of rows in another order
rows_of : {X C : Type 0} (f : X → C) (xs : List X) (cs : List C) → IsPermutation cs (map f xs) → (ys : List X) × IsPermutation xs ys × (map f ys ≡ cs)
rows_of f xs cs p = lifted f xs cs (IsPermutation-sym cs (map f xs) p)

-- the columns of a book's rows, in any order, are those of the book
book_of : (T : Tables) → IsBook T → AreStored (flat T) → (stored : StoredRows) → AreReorderedColumns stored (rows_columns (flat T)) → IsBookOfStored stored T
book_of T is_book limits stored order =
    let rows = flat T in
    let m = rows_of meta_columns rows.metas stored.metas order.metas in
    let n = rows_of nonce_columns rows.nonces stored.nonces order.nonces in
    let a = rows_of account_columns rows.accounts stored.accounts order.accounts in
    let o = rows_of order_columns rows.orders stored.orders order.orders in
    let z = rows_of authorization_columns rows.authorizations stored.authzs order.authzs in
    let l = rows_of listed_columns rows.listed stored.order_authzs order.order_authzs in
    let c = rows_of challenge_columns rows.challenges stored.challs order.challs in
    let k = rows_of key_columns rows.keys stored.chall_keys order.chall_keys in
    record {
      flat_rows = record { metas = m.0; nonces = n.0; accounts = a.0; orders = o.0; authorizations = z.0; listed = l.0; challenges = c.0; keys = k.0 };
      spelled = λ i. record {
        metas = sym m.2 i;
        nonces = sym n.2 i;
        accounts = sym a.2 i;
        orders = sym o.2 i;
        authzs = sym z.2 i;
        order_authzs = sym l.2 i;
        challs = sym c.2 i;
        chall_keys = sym k.2 i;
      };
      in_limits = record {
        metas = each_moved IsStoredMeta _ _ m.1 limits.metas;
        nonces = each_moved IsStoredNonce _ _ n.1 limits.nonces;
        accounts = each_moved IsStoredAccount _ _ a.1 limits.accounts;
        orders = each_moved IsStoredOrder _ _ o.1 limits.orders;
        authorizations = each_moved IsStoredAuthorization _ _ z.1 limits.authorizations;
        listed = each_moved IsStoredListed _ _ l.1 limits.listed;
        challenges = each_moved IsStoredChallenge _ _ c.1 limits.challenges;
        keys = each_moved IsStoredKey _ _ k.1 limits.keys;
      };
      book = record {
        is_book = is_book;
        has_rows = record {
          metas = IsPermutation-sym _ _ m.1;
          nonces = IsPermutation-sym _ _ n.1;
          accounts = IsPermutation-sym _ _ a.1;
          orders = IsPermutation-sym _ _ o.1;
          authorizations = IsPermutation-sym _ _ z.1;
          listed = IsPermutation-sym _ _ l.1;
          challenges = IsPermutation-sym _ _ c.1;
          keys = IsPermutation-sym _ _ k.1;
        };
      };
    }

-- two books of the same columns are equal
same_book : (stored : StoredRows) (T U : Tables) → IsBookOfStored stored T → IsBookOfStored stored U → T ≡ U
same_book stored T U b c =
    let same : b.flat_rows ≡ c.flat_rows = stored-told stored b.flat_rows c.flat_rows b.in_limits b.spelled c.in_limits c.spelled in
    same-books c.flat_rows T U (subst (λ rows. IsBookOf rows T) same b.book) c.book

-- the columns of a book's rows, in any order, tell the book
pub book_told : (T : Tables) → IsBook T → AreStored (flat T) → (stored : StoredRows) → AreReorderedColumns stored (rows_columns (flat T)) →
    IsOnlyBookOf stored T
book_told T is_book limits stored order = search (rules, book_of, same_book)

-- and so the picture of a legal history
pub picture_told : (F : History) → Legal F → (stored : StoredRows) → AreReorderedColumns stored (rows_columns (flat (picture F))) →
    IsOnlyBookOf stored (picture F)
picture_told F h = book_told (picture F) (tables_book F h.each (clock F)) (picture_stored F h)
