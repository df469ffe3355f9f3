-- What each change makes of a desk's database.
use Rattle.std.specs.{Prelude.IfSome, Prelude.find, Prelude.◌==◌, List.Sorted.IsPermutation}
use Rattle.std.proofs.Common.{◌≡◌, inl, ℕ, ℤ, List, [], ◌∷◌, map, Option, Some, None, Result, refl, sym, ap, subst, ◌∙◌, arith, rules}
use Rattle.std.proofs.{lemmas.List.Sorted.IsPermutation-append_left, lemmas.List.Sorted.IsPermutation-trans}
use Rattle.sqlite.specs.{Effect.Database, Store.Ghosts, Held.Held, Held.state}
use Rattle.sqlite_rules.specs.Lists.{Has}
use Rattle.store_columns.specs.{Columns.known_format, Columns.order_columns, Flat.challenge_rows, Flat.key_rows, Flat.listed_rows, Flat.owned_by}
use Rattle.model_laws.specs.{Distinct.Distinct, Placing.puts, News.KeepsChildren}
use Rattle.desk_model.specs.declared.rows.Change.TheVariants.{PutMeta, PutAccount, PutAuthorization, PutOrder}
use Rattle.desk_model.specs.{Change.applied_one, Change.put, Questions.account_on, Questions.authorization_on, Questions.order_on, Tables.Tables}
use Rattle.desk_model.specs.{declared.rows.AccountRow.AccountRow, declared.rows.AuthorizationRow.AuthorizationRow}
use Rattle.desk_model.specs.{declared.rows.Meta.Meta, declared.rows.OrderRow.OrderRow, declared.rows.Change.Change, declared.rows.Counters.Counters}
use Rattle.sql_write.specs.Makes.{AppendsAll, Makes, PlacesAll, PutsOver, SavesAuthorization, SavesMeta, SavesOrder, WritesOrder, appended}
use Rattle.sql_write.specs.{Refusals.HasWritten, Statements.statements_of, Stored.HasSome, Stored.IsMadeAs, declared.fault.SaveFault.SaveFault}
use Rattle.sql_write.specs.declared.stored.{Write.Write, Write.TheVariants.Upsert, Write.TheVariants.Insert, Write.TheVariants.Update}
use Rattle.sql_write.proofs.{ChallengeNumbers.keys_owned, InPlace.put_alike, Over.has_own, PlacedRows.appended_rows, StoredChildren.IsThere}
use Rattle.sql_write.proofs.{StoredChildren.challenges_stand, StoredChildren.keys_stand, KeyRows.keys_flat, KeyRows.keys_within}
use Rattle.sql_write.proofs.{ListedAfter.added as added_listed, ListedAfter.found_in, ListedAfter.listed_after, NestedRows.children_put, NestedRows.own_apart}
use Rattle.sql_write.proofs.{Numbered.AreWithin, Numbered.within_same, StoredRows.account_found, StoredRows.found_has}
use Rattle.sql_tables.specs.Effects.{Adds, Puts, Renews}
use Rattle.sql_tables.specs.Layouts.{HasRows, account_layout, authorization_layout, challenge_layout, key_layout, listed_layout, order_layout}
use Rattle.sql_tables.specs.{Images.challenge_image, Images.key_image, Images.order_kept, Sorted.sorted_by}
use Rattle.sql_tables.proofs.Holding.{accounts_held, authorizations_held, holds_on, meta_held, orders_held}
use Rattle.sql_tables.proofs.{Keyed.put_ascends, AnswerKeys.keys_apart, NoIndexes.keeps_both, NoIndexes.kept_at, Sorting.put_over, Sorting.sorted_rises}

-- ---- one row

-- the row of `meta`
pub makes_meta : (part : Tables) (x : Meta) (old new : Database) → SavesMeta (Some part.meta) x old new → Makes part (PutMeta x) old new
makes_meta part x old new sets T has is_part fits =
    let first = meta_held old T has in
    let p = sets has.sound rows (record { schema = first.schema; rows_are = first.rows_are; rising = (omega arith, tt) })
    (inl (ap (λ m. (known_format, m)) is_part.meta), refl) in
    holds_on (0 ∷ []) old new (kept_at 0 old new p.others) T (applied_one (PutMeta x) T) has p.sound p.has.schema fits.rising
    p.has.rows_are refl refl refl refl refl refl refl
  where
    rows : List (ℤ × Meta)
    rows = (known_format, T.meta) ∷ []

-- an account
pub makes_account : (part : Tables) (x : AccountRow) (old new : Database) → PutsOver account_layout (account_on part x.number) x old new
    → Makes part (PutAccount x) old new
makes_account part x old new puts T has is_part fits =
    let p = puts has.sound T.accounts (accounts_held old T has) (account_found part x.number T is_part) in
    holds_on (2 ∷ []) old new (kept_at 2 old new p.others) T (applied_one (PutAccount x) T) has p.sound p.has.schema fits.rising
    refl refl p.has.rows_are refl refl refl refl refl

-- ---- a row with its children

-- what stood in the place of an authorization
abbrev Stood : Tables → AuthorizationRow → AuthorizationRow → Type 0
Stood T x a = find (λ (a : AuthorizationRow). a.number == x.number) T.authorizations ≡ Some a

-- the numbers of its challenges are those that come
pub numbers_within : (T : Tables) (x : AuthorizationRow) → KeepsChildren T (PutAuthorization x) → (a : AuthorizationRow) → Stood T x a
    → AreWithin (map challenge_layout.key (owned_by a.number a.challenges)) (map challenge_layout.key (owned_by x.number x.challenges))
numbers_within T x kept a found = search (rules, within_same, keys_owned)

-- the keys of answers that come take the places of those that are there
keys_put : (T : Tables) (x : AuthorizationRow) → KeepsChildren T (PutAuthorization x)
    → Distinct challenge_layout.key (challenge_rows (put authorization_layout.key x T.authorizations))
    → puts key_layout.key (key_rows (owned_by x.number x.challenges)) (sorted_by key_layout.key (key_rows (challenge_rows T.authorizations)))
    ≡ sorted_by key_layout.key (key_rows (challenge_rows (put authorization_layout.key x T.authorizations)))
keys_put T x kept apart = search (rules, keys_flat, keys_apart, children_put, keys_within)

-- one that is known, of which the table has the columns, stands in its place among rows that the table has, too
held_with : (db : Database) (rows : List AuthorizationRow) → HasRows authorization_layout db rows → (x : AuthorizationRow) (o : Option AuthorizationRow)
    → IfSome o (λ a. (b : AuthorizationRow) × (find (λ (r : AuthorizationRow). r.number == x.number) rows ≡ Some b) × HasSome a b)
    → (others : List AuthorizationRow) × HasRows authorization_layout db others
    × IfSome o (λ a. Has others a × (authorization_layout.key a ≡ authorization_layout.key x))
    × (put authorization_layout.key x others ≡ put authorization_layout.key x rows)
held_with db rows has x None there = (rows, has, tt, refl)
held_with db rows has x (Some a) (b, found, some) =
    let key = authorization_layout.key in
    let stood = found_has key x.number rows b found in
    let own : a.number ≡ b.number = ap (λ (r : AuthorizationRow). r.number) some.columns in
    let same : a.number ≡ x.number = own ∙ stood.1 in (
      put key a rows,
      record {
        schema = has.schema;
        rows_are = has.rows_are
            ∙ sym (put_alike key authorization_layout.image a b 0 rows has.rising stood.0 (sym own) (sym (ap authorization_layout.image some.columns)));
        rising = put_ascends key 0 a rows (omega arith) has.rising;
      },
      (has_own key a rows, same),
      put_over key x a same rows,
    )

-- its challenges stand there
there_with : (rows : List AuthorizationRow) (n : ℕ) (o : Option AuthorizationRow)
    → IfSome o (λ a. (b : AuthorizationRow) × (find (λ (r : AuthorizationRow). r.number == n) rows ≡ Some b) × HasSome a b) → IfSome o (IsThere rows n)
there_with rows n None h = tt
there_with rows n (Some a) (b, found, some) =
    let it = found_has (λ (r : AuthorizationRow). r.number) n rows b found in (b, it.0, it.1, some.challenges)

-- an authorization, then its challenges and the keys of their answers, over those that are known
pub makes_authorization : (part : Tables) (x : AuthorizationRow) (old new : Database)
    → SavesAuthorization (authorization_on part x.number) x old new
    → Makes part (PutAuthorization x) old new
makes_authorization part x old new sets T has is_part fits =
    let stood = authorization_on part x.number in
    let some = is_part.authorizations x.number in
    let there = there_with T.authorizations x.number stood some in
    let held = held_with old T.authorizations (authorizations_held old T has) x stood some in
    let rows = challenge_rows T.authorizations in
    let challenges = sorted_by challenge_layout.key rows in
    let keys = sorted_by key_layout.key (key_rows rows) in
    let own = own_apart (λ (a : AuthorizationRow). a.number) (λ a. owned_by a.number a.challenges) challenge_layout.key x T.authorizations
    fits.rising.challenges in
    let p = sets.1 has.sound held.0 held.1 held.2 in
    let first = kept_at 5 old sets.0 p.others in
    let between : HasRows challenge_layout sets.0 challenges =
    record { schema = p.has.schema; rows_are = first 8 refl ∙ has.challenges; rising = sorted_rises challenge_layout.key rows } in
    let q = sets.2.1 p.sound challenges between (challenges_stand stood x.number x.challenges T.authorizations has.rising.challenges there) own in
    let then = kept_at 8 sets.0 sets.2.0 q.others in
    let behind : HasRows key_layout sets.2.0 keys =
    record { schema = q.has.schema; rows_are = then 17 refl ∙ first 17 refl ∙ has.keys; rising = sorted_rises key_layout.key (key_rows rows) } in
    let r = sets.2.2 q.sound keys behind (keys_stand stood x.number x.challenges T.authorizations has.rising.challenges there)
    (keys_apart (owned_by x.number x.challenges) own) in
    let children = children_put (λ a. a.number) (λ a. owned_by a.number a.challenges) challenge_layout.key x T.authorizations
    (numbers_within T x fits.children) fits.rising.challenges in
    let last = kept_at 17 sets.2.0 new r.others in
    let later = keeps_both (8 ∷ []) (17 ∷ []) sets.0 sets.2.0 new then last in
    holds_on (5 ∷ 8 ∷ 17 ∷ []) old new (keeps_both (5 ∷ []) (8 ∷ 17 ∷ []) old sets.0 new first later) T (applied_one (PutAuthorization x) T) has
    r.sound r.has.schema fits.rising refl refl refl refl (later 5 refl ∙ p.has.rows_are ∙ ap (map authorization_layout.image) held.3) refl
    (last 8 refl ∙ q.has.rows_are ∙ ap (map challenge_image) children)
    (r.has.rows_are ∙ ap (map key_image) (keys_put T x fits.children fits.rising.challenges))

-- an order, then what it lists
makes_order : (part : Tables) (x : OrderRow) (old mid new : Database) → Puts order_layout x old mid → PlacesAll (owned_by x.number x.listed) mid new
    → Makes part (PutOrder x) old new
makes_order part x old mid new first last T has is_part fits = search (rules, listed_after)

-- a new order, then what it lists
makes_new_order : (part : Tables) (x : OrderRow) (old mid new : Database) → Adds order_layout x old mid → AppendsAll (owned_by x.number x.listed)
    mid new
    → Makes part (PutOrder x) old new
makes_new_order part x old mid new first last T has is_part fits =
    let added = first T.orders (orders_held old T has) in
    let p = added.1 in
    let ls = owned_by x.number x.listed in
    let kept = kept_at 4 old mid p.others in
    let between : HasRows listed_layout mid has.listed.numbered =
    record { schema = p.has.schema; rows_are = kept 6 refl ∙ has.listed.has; rising = has.listed.rising } in
    let q = last p.sound has.listed.numbered between in
    let on = kept_at 6 mid new q.others in
    holds_on (4 ∷ 6 ∷ []) old new (keeps_both (4 ∷ []) (6 ∷ []) old mid new kept on) T (applied_one (PutOrder x) T) has q.sound q.has.schema
    fits.rising refl refl refl (on 4 refl ∙ p.has.rows_are) refl (record {
      numbered = appended ls has.listed.numbered;
      has = q.has.rows_are;
      rising = q.has.rising;
      same = subst (λ rows. IsPermutation rows (listed_rows (put order_layout.key x T.orders)))
          (sym (appended_rows ls has.listed.numbered has.listed.rising))
          (IsPermutation-trans _ _ _ (IsPermutation-append_left ls _ _ has.listed.same) (added_listed x T.orders added.0));
    }) refl refl

-- an order that is known to be there, which keeps what it lists
makes_renewed_order : (part : Tables) (x there : OrderRow) → order_on part x.number ≡ Some there
    → order_kept (order_columns there) ≡ order_kept (order_columns x) → (old new : Database)
    → Renews order_layout (λ o. order_kept (order_columns o)) x old new → Makes part (PutOrder x) old new
makes_renewed_order part x there is keeps old new renews T has is_part fits =
    let it = subst (λ o. IfSome o (λ (o : OrderRow). (p : OrderRow) × (find (λ (r : OrderRow). r.number == x.number) T.orders ≡ Some p) × IsMadeAs o p)) is
    (is_part.orders x.number) in
    let whole = it.0 in
    let found = it.1 in
    let columns = sym it.2 ∙ keeps in
    let stood = found_has order_layout.key x.number T.orders whole found in
    let kept = subst (λ o. IfSome o (λ (o : OrderRow). o.listed ≡ x.listed)) found fits.children in
    let p = renews T.orders (orders_held old T has) whole stood.0 stood.1 columns in
    holds_on (4 ∷ []) old new (kept_at 4 old new p.others) T (applied_one (PutOrder x) T) has p.sound p.has.schema fits.rising
    refl refl refl p.has.rows_are refl (sym (found_in 0 x T.orders whole has.rising.orders found kept).0) refl refl

-- an order, by how it was written
pub makes_set_order : (part : Tables) (x : OrderRow) (old new : Database) → SavesOrder (order_on part x.number) x old new
    → Makes part (PutOrder x) old new
makes_set_order part x old new (write, writes, keeps) = go write writes keeps
  where
    go : (m : Write) → WritesOrder m x old new
        → (m ≡ Update → (there : OrderRow) × (order_on part x.number ≡ Some there) × (order_kept (order_columns there) ≡ order_kept (order_columns x)))
        → Makes part (PutOrder x) old new
    go Upsert w keeps = makes_order part x old w.0 new w.1 w.2
    go Insert w keeps = makes_new_order part x old w.0 new w.1 w.2
    go Update w keeps =
        let it = keeps refl in
        subst (λ db. Makes part (PutOrder x) old db) (sym w.2) (makes_renewed_order part x it.0 it.1 it.2 old w.0 w.1)

-- ---- what a call wrote of a change

-- what it wrote of the change that this is
pub writes_change : {S R : Type 0} (g : Ghosts S) (part : Tables) (last : Counters) (change put : Change) → change ≡ put
    → (A : Database → Database → Type 0) (a b : Held S) (r : Result R SaveFault)
    → (A (state g a).now (state g b).now → Makes part put (state g a).now (state g b).now) → HasWritten g (statements_of part last put) A a b r
    → HasWritten g (statements_of part last change) (Makes part change) a b r
writes_change g part last change put is A a b r makes it = grind arith
