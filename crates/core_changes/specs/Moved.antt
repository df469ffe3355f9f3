-- The rows of a book after an entry, which stood at its moment before it.
use Rattle.std.specs.Prelude.{ℕ, ◌≡◌, ◌&&◌, List, [], ◌∷◌, map, Bool, cond, Option, Some, None}
use Rattle.std.specs.List.{filter}
use Rattle.desk_model.specs.Effect.{swept_authorization, swept_order, moved_authorization, noted_account, noted_authorization, noted_order, touches_account}
use Rattle.desk_model.specs.Effect.{touches_authorization, touches_order}
use Rattle.desk_model.specs.{Derived.restated_authorization, Derived.restated_order, Entry.entry_of, Tables.Tables, declared.entry.Entry.Entry}
use Rattle.desk_model.specs.{declared.rows.AccountRow.AccountRow, declared.rows.AuthorizationRow.AuthorizationRow, declared.rows.OrderRow.OrderRow}
use Rattle.core_changes.specs.declared.moved.Step.{Step}

-- the authorizations at the moment, and after the entry
abbrev pub swept_rows : ℕ → List AuthorizationRow → List AuthorizationRow
swept_rows m rows = map (swept_authorization m) rows

abbrev pub rows_after : Entry → ℕ → List AccountRow → List AuthorizationRow → List AuthorizationRow
rows_after e m accounts rows = map (moved_authorization e m accounts) (swept_rows m rows)

-- the moved row, where it is touched and differs then
abbrev pub moved_one : {X : Type 0} → (touched : X → Bool) → (differs : X → X → Bool) → (move : X → X) → X → List X
moved_one touched differs move x = cond (touched x && differs x (move x)) (move x ∷ []) []

-- the moved row, where it is touched
abbrev pub touched_one : {X : Type 0} → (touched : X → Bool) → (move : X → X) → X → Option X
touched_one touched move x = cond (touched x) (Some (move x)) None

-- the row, if there is one
abbrev pub row_of : {X : Type 0} → Option X → List X
row_of None = []
row_of (Some x) = x ∷ []

-- an authorization as the entry leaves it, with the status that it ought to have
abbrev pub stated_authorization : Entry → ℕ → List AccountRow → AuthorizationRow → AuthorizationRow
stated_authorization e m accounts row = restated_authorization m (noted_authorization e m accounts row)

-- an order as the entry leaves it, beside these authorizations
abbrev pub stated_order : Entry → ℕ → List AccountRow → List AuthorizationRow → OrderRow → OrderRow
stated_order e m accounts rows row = restated_order m (rows_after e m accounts rows) (noted_order e m row)

-- ---- the rows that the entry touches, as it leaves them, whether they differ then or not

abbrev pub accounts_moved : Entry → ℕ → List AccountRow → List AccountRow
accounts_moved e m rows = map (noted_account e m) (filter (touches_account e) rows)

abbrev pub authorizations_moved : Entry → ℕ → List AccountRow → List AuthorizationRow → List AuthorizationRow
authorizations_moved e m accounts rows = map (stated_authorization e m accounts) (filter (touches_authorization e) (swept_rows m rows))

abbrev pub orders_moved : Entry → ℕ → List AccountRow → List AuthorizationRow → List OrderRow → List OrderRow
orders_moved e m accounts rows orders =
    map (stated_order e m accounts rows) (filter (touches_order e (swept_rows m rows)) (map (swept_order m rows) orders))

-- the authorizations after a step, and those that it touches
abbrev pub stepped_rows : Step → List AuthorizationRow
stepped_rows s = rows_after (entry_of s.motion.now) s.moment s.book.now.accounts s.book.now.authorizations

abbrev pub touched_rows : Step → List AuthorizationRow
touched_rows s = authorizations_moved (entry_of s.motion.now) s.moment s.book.now.accounts s.book.now.authorizations

-- these are the rows of a book that the entry touches, as it leaves them
pub record AreMoved (m : ℕ) (B : Tables) (e : Entry) (xs : List AccountRow) (ys : List AuthorizationRow) (zs : List OrderRow) : Type 0 where
  pub accounts : xs ≡ accounts_moved e m B.accounts
  pub authorizations : ys ≡ authorizations_moved e m B.accounts B.authorizations
  pub orders : zs ≡ orders_moved e m B.accounts B.authorizations B.orders
