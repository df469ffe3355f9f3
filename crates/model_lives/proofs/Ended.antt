-- What has ended keeps its row: through an entry, through the passing of time, and so for ever.
use Rattle.std.proofs.Common.{◌≡◌, ◌≤◌, ℕ, List, [], ◌∷◌, ◌++◌, map, Some, sym, ap, ◌∙◌, subst, true, false, arith, max, rules}
use Rattle.std.specs.Prelude.{IsTrue, ◌==◌, find}
use Rattle.desk_model.specs.Questions.{account_on, order_on, authorization_on, owner_on, challenge_of}
use Rattle.desk_model.specs.Effect.{authorizations_after, effect, has_row, moved_account, moved_authorization, moved_order, swept}
use Rattle.desk_model.specs.Life.{is_final_account, is_final_challenge, is_final_order, challenge_in_rows, challenge_on, EndedRowsStay, EndedStays}
use Rattle.desk_model.specs.{Tables.Tables, Tables.tables_at, Tables.picture, Entry.History, History.clock, Order.orders, Allowed.may_on}
use Rattle.desk_model.specs.{Tables.authorization_row, Tables.order_row, declared.entry.Entry.Entry, declared.entry.Dated.Dated, Legal.EachFollows}
use Rattle.desk_model.specs.{declared.entry.Entry.TheVariants.Made as made, declared.rows.AuthorizationRow.AuthorizationRow, declared.rows.OrderRow.OrderRow}
use Rattle.desk_model.specs.{declared.rows.AccountRow.AccountRow, declared.rows.ChallengeRow.ChallengeRow, Authorization.authorizations, Authorization.is_over}
use Rattle.model_laws.proofs.Basics.{each_all, each-map, find-append}
use Rattle.model_laws.proofs.{Chain.account_number, Chain.order_number, Local.moved_number, AllowedFacts.allowed, OrderFacts.order_stated}
use Rattle.model_laws.proofs.{Recorded.challenges_ordered, RowFacts.authorization_stated, Finds.found_moved, MovedRows.has_row-moved, Step.step, Step.sweep}
use Rattle.model_lives.proofs.EndedRows.{IsStated, account_stays, authorization_stays, challenge_stays}
use Rattle.model_lives.proofs.{EndedOrders.order_stays, Extends.extends_earlier, Extends.histories_are_legal}

-- ---- a challenge through its authorization

-- a challenge that stands in the tables, and its authorization
pub record HasOwner (T : Tables) (n : ℕ) (row : ChallengeRow) : Type 0 where
  pub owner : AuthorizationRow
  pub owned : owner_on T n ≡ Some owner
  pub found : challenge_of n owner ≡ Some row

-- each challenge of the tables stands in one
has_owner : (T : Tables) (n : ℕ) (row : ChallengeRow) → challenge_on T n ≡ Some row → HasOwner T n row
has_owner T n row h = grind arith

-- ---- an entry

-- a challenge that has ended stands in the moved authorization
challenge_moved : (T : Tables) (e : Entry) (m n : ℕ) (a : AuthorizationRow) (row : ChallengeRow) → may_on T e ≡ true → owner_on T n ≡ Some a →
    challenge_of n a ≡ Some row → is_final_challenge row.status ≡ true →
    challenge_of n (moved_authorization e m T.accounts a) ≡ Some row
challenge_moved T e m n a row may owner found ended = grind (arith, found_moved, challenge_stays)

-- a row that its move leaves as it is is found among the moved rows and new ones
row_stays : {X : Type 0} (number : X → ℕ) (move : X → X) → ((x : X) → number (move x) ≡ number x) → (xs new : List X) (n : ℕ) (row : X) →
    find (λ x. number x == n) xs ≡ Some row → move row ≡ row → find (λ x. number x == n) (map move xs ++ new) ≡ Some row
row_stays number move same xs new n row found stays =
    find-append (λ x. number x == n) (map move xs) new row
    (found_moved (λ x. number x == n) move (λ x. ap (λ k. k == n) (same x)) xs row found ∙ ap (λ x. Some x) stays)

-- an entry that may be recorded leaves the rows that have ended
entry_stays : (T : Tables) (e : Entry) (m : ℕ) → IsStated m T → may_on T e ≡ true → EndedRowsStay T (effect m T e)
entry_stays T e m stated may = record { accounts = accounts_stay; orders = orders_stay; authorizations = authorizations_stay; challenges = challenges_stay }
  where
    accounts_stay : (n : ℕ) (row : AccountRow) → account_on T n ≡ Some row → IsTrue (is_final_account row.status) → account_on (effect m T e) n ≡ Some row
    accounts_stay n row found ended = row_stays _ (moved_account e m) (account_number e m) T.accounts _ n row found (account_stays T e m n row may found ended)

    authorizations_stay : (n : ℕ) (row : AuthorizationRow) → authorization_on T n ≡ Some row → IsTrue (is_over row.status) →
        authorization_on (effect m T e) n ≡ Some row
    authorizations_stay n row found ended =
        row_stays _ (moved_authorization e m T.accounts) (moved_number e m T.accounts) T.authorizations _ n row found
        (authorization_stays T e m n row stated may found ended)

    orders_stay : (n : ℕ) (row : OrderRow) → order_on T n ≡ Some row → IsTrue (is_final_order row.status) → order_on (effect m T e) n ≡ Some row
    orders_stay n row found ended =
        let later : List AuthorizationRow = authorizations_after T e m in
        row_stays _ (moved_order e m T.authorizations later) (order_number e m T.authorizations later) T.orders _ n row found
        (order_stays T e m n row later stated may found ended authorizations_stay)

    challenges_stay : (n : ℕ) (row : ChallengeRow) → challenge_on T n ≡ Some row → IsTrue (is_final_challenge row.status) →
        challenge_on (effect m T e) n ≡ Some row
    challenges_stay n row found ended =
        let s = has_owner T n row found in
        ap (challenge_in_rows n) (find-append (has_row n) (map (moved_authorization e m T.accounts) T.authorizations) _
        (moved_authorization e m T.accounts s.owner)
        (found_moved (has_row n) (moved_authorization e m T.accounts) (has_row-moved n e m T.accounts) T.authorizations s.owner s.owned))
        ∙ challenge_moved T e m n s.owner row may s.owned s.found ended

-- ---- the passing of time

-- the passing of time leaves the rows that have ended
time_stays : (T : Tables) (m : ℕ) → EndedRowsStay T (swept m T)
time_stays T m = search (rules, found_moved)

-- ---- histories

-- rows that stay from T to U and from U to V stay from T to V
stays_trans : (T U V : Tables) → EndedRowsStay T U → EndedRowsStay U V → EndedRowsStay T V
stays_trans T U V p q = grind arith

-- each row stays where it is
stays_refl : (T : Tables) → EndedRowsStay T T
stays_refl T = grind arith

-- the tables of a legal history have the statuses that their columns give
tables_stated : (F : History) (m : ℕ) → EachFollows F → IsStated m (tables_at F m)
tables_stated F m h =
    record {
      authorizations = each-map _ (authorization_row F m) (authorizations F)
          (each_all _ (authorizations F) (λ a. ap (λ (r : AuthorizationRow). r.status) (authorization_stated F h m m a)));
      orders = each-map _ (order_row F m) (orders F) (each_all _ (orders F) (λ o. ap (λ (r : OrderRow). r.status) (order_stated F m m o)));
      challenges = challenges_ordered F m;
    }

-- an entry of a history leaves the rows that have ended at its moment
follows_stays : (F : History) (e : Entry) (m : ℕ) → EachFollows (record { date = m; entry = e } ∷ F) →
    EndedRowsStay (tables_at F m) (tables_at (record { date = m; entry = e } ∷ F) m)
follows_stays F e m h = subst (EndedRowsStay (tables_at F m)) (sym (step F e m h)) (by e F h)
  where
    by : (e : Entry) (F : History) → EachFollows (record { date = m; entry = e } ∷ F) → EndedRowsStay (tables_at F m) (effect m (tables_at F m) e)
    by (made terms) [] h =
        record {
          accounts = λ n row found ended. found;
          orders = λ n row found ended. found;
          authorizations = λ n row found ended. found;
          challenges = λ n row found ended. found;
        }
    by (made terms) (f ∷ F) h = let may : false ≡ true = h.0.allowed in cc
    by e F h = entry_stays (tables_at F m) e m (tables_stated F m h.1) (sym (allowed F e m tt) ∙ h.0.allowed)

-- one more entry leaves the rows that have ended
more_stays : (F : History) (d : Dated) → EachFollows (d ∷ F) → EndedRowsStay (picture F) (picture (d ∷ F))
more_stays F d h =
    let late : clock F ≤ d.date = h.0.in_order in
    let now : max (clock F) d.date ≡ d.date = omega arith in
    subst (λ t. EndedRowsStay (picture F) (tables_at (d ∷ F) t)) (sym now)
    (stays_trans (picture F) (tables_at F d.date) (tables_at (d ∷ F) d.date)
    (subst (EndedRowsStay (picture F)) (sym (sweep F (clock F) d.date late)) (time_stays (picture F) d.date))
    (follows_stays F d.entry d.date h))

-- and so do some
extended_stays : (more : List Dated) (F : History) → EachFollows (more ++ F) → EndedRowsStay (picture F) (picture (more ++ F))
extended_stays [] F h = stays_refl (picture F)
extended_stays (d ∷ more) F h = stays_trans (picture F) (picture (more ++ F)) (picture (d ∷ more ++ F)) (extended_stays more F h.1) (more_stays (more ++ F) d h)

-- what has ended keeps its row over every life
pub ended_stays : EndedStays
ended_stays start later earlier life = grind (arith, histories_are_legal, extended_stays, (extends_earlier start later earlier))
