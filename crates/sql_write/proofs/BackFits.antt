-- Changes that keep children fit one after the other, where no two children are one after all of them.
use Rattle.std.specs.Prelude.{IfSome, find, ◌==◌}
use Rattle.std.proofs.Common.{◌≡◌, ℕ, ◌++◌, List, [], ◌∷◌, false, arith, rules}
use Rattle.sqlite.specs.Effect.{Database}
use Rattle.store_columns.specs.{Flat.challenge_rows, Flat.listed_rows, declared.columns.Owned.Owned}
use Rattle.model_laws.proofs.{Basics.each-append, Basics.each_parts, NewChildren.kept_bring_new, RowLists.ascends_filter}
use Rattle.model_laws.specs.{Distinct.Distinct, News.AreKept, News.KeepsChildren}
use Rattle.desk_model.specs.Change.{applied, applied_one, put}
use Rattle.desk_model.specs.{Tables.Tables, declared.rows.Change.Change, declared.rows.Listed.Listed, declared.rows.OrderRow.OrderRow}
use Rattle.sql_write.specs.{Fitting.AreFit, Fitting.InOrder, Fitting.Saves, Makes.MakesAll}
use Rattle.sql_write.proofs.{ChallengeNumbers.numbers_differ, ChallengeNumbers.rows_differ}
use Rattle.sql_write.proofs.ListedAfter.{apart_parts, found_in, listed_parts}
use Rattle.sql_tables.specs.{Layouts.IsRising, Layouts.challenge_layout, Layouts.order_layout, Effects.is_same_place, Holds.AreApart, Holds.AreRising}
use Rattle.sql_tables.proofs.Keyed.{put_ascends}

-- ---- rows that rise

-- with one more they do
put_rises : {X : Type 0} (key : X → ℕ) (x : X) (xs : List X) → IsRising key xs → IsRising key (put key x xs)
put_rises key x xs up = put_ascends key 0 x xs (omega arith) up

-- ---- challenges that differ

-- they do before a change, where they do after
challenges_back : (T : Tables) (c : Change) → KeepsChildren T c → Distinct challenge_layout.key (challenge_rows (applied_one c T).authorizations)
    → Distinct challenge_layout.key (challenge_rows T.authorizations)
challenges_back T c kept apart =
    rows_differ T.authorizations (kept_bring_new (c ∷ []) T (kept, tt) (numbers_differ (applied_one c T).authorizations apart)).0

-- ---- places that are apart

-- of three lists, without the second
apart_without : (xs ys zs : List (Owned Listed)) → AreApart (xs ++ (ys ++ zs)) → AreApart (xs ++ zs)
apart_without [] ys zs h = (apart_parts ys zs h).1
apart_without (x ∷ xs) ys zs h =
    let it = each_parts (λ k. is_same_place x k ≡ false) xs (ys ++ zs) h.0 in
    (each-append _ xs zs it.0 (each_parts _ ys zs it.1).1, apart_without xs ys zs h.1)

-- places are apart before an order is put, where they are after
apart_back : (x : OrderRow) (os : List OrderRow) → IsRising order_layout.key os → IfSome (find (λ o. o.number == x.number) os) (λ o. o.listed ≡ x.listed)
    → AreApart (listed_rows (put order_layout.key x os))
    → AreApart (listed_rows os)
apart_back x os up kept apart = search (rules, listed_parts, apart_without, found_in)

-- and before any change, where they are after
listed_back : (T : Tables) (c : Change) → IsRising order_layout.key T.orders → KeepsChildren T c → AreApart (listed_rows (applied_one c T).orders)
    → AreApart (listed_rows T.orders)
listed_back T c h k l = search (rules, apart_back)

-- ---- one change

-- no two children are one before a change, where they are not after
one_back : (T : Tables) (c : Change) → IsRising order_layout.key T.orders → KeepsChildren T c → InOrder (applied_one c T) → InOrder T
one_back T c up kept h = record { challenges = challenges_back T c kept h.challenges; listed = listed_back T c up kept h.listed }

-- orders rise after a change
orders_rise : (T : Tables) (c : Change) → IsRising order_layout.key T.orders → IsRising order_layout.key (applied_one c T).orders
orders_rise T c h = search (rules, put_rises)

-- no two children are one before all changes, where they are not after
all_back : (cs : List Change) (T : Tables) → IsRising order_layout.key T.orders → AreKept T cs → InOrder (applied cs T) → InOrder T
all_back [] T up kept h = h
all_back (c ∷ cs) T up kept h = one_back T c up kept.0 (all_back cs (applied_one c T) (orders_rise T c up) kept.1 h)

-- all numbers rise after a change
rises_on : (T : Tables) (c : Change) → AreRising T → InOrder (applied_one c T) → AreRising (applied_one c T)
rises_on T c h = search (rules, put_rises, ascends_filter)

-- ---- all changes

-- each fits the tables before it
are_fit : (cs : List Change) (T : Tables) → AreRising T → AreKept T cs → InOrder (applied cs T) → AreFit T cs
are_fit [] T up kept h = tt
are_fit (c ∷ cs) T up kept h =
    let after = all_back cs (applied_one c T) (orders_rise T c up.orders) kept.1 h in
    let rising = rises_on T c up after in
    (record { children = kept.0; rising = rising }, are_fit cs (applied_one c T) rising kept.1 h)

-- so what makes each in turn saves them
pub saves_by : (part : Tables) (changes : List Change) (old new : Database) → MakesAll part changes old new → Saves part changes old new
saves_by part changes old new makes T has is_part fits = makes T has is_part (are_fit changes T has.rising fits.kept fits.in_order)
