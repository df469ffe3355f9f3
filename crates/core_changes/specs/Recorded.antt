-- What is recorded of some entries: the passing of time first, then entry by entry.
use Rattle.std.specs.Prelude.{ℕ, ◌≡◌, ◌-◌, List, ◌++◌, Option, Some, None, length, map, option_and_then, slice_get}
use Rattle.desk_model.specs.{Tables.Tables, declared.rows.Change.Change, declared.rows.Counters.Counters, declared.entry.Entry.Entry}
use Rattle.desk_model.specs.declared.rows.{AccountRow.AccountRow, OrderRow.OrderRow}
use Rattle.desk_model.specs.Effect.{effects, swept, swept_order, noted_account, touches_account, touches_authorization, touches_order}
use Rattle.desk_model.specs.Change.{all_changes, sweep_changes, moved_rows, account_differs, authorization_differs, order_differs}
use Rattle.desk_model.specs.declared.rows.Change.TheVariants.{PutAccount, PutAuthorization, PutOrder}
use Rattle.core_changes.specs.{Moved.swept_rows, Moved.stated_authorization, Moved.stated_order, declared.recording.Recording.Recording}

-- these entries are recorded at m: the changes of rows so far, and the counters after them; the policy stays
pub record IsRecorded (m : ℕ) (B : Tables) (es : List Entry) (done : List Change) (counters : Counters) : Type 0 where
  pub changes : done ≡ sweep_changes m B ++ all_changes m (swept m B) es
  pub counted : counters ≡ (effects m (swept m B) es).meta.counters
  pub policy : (effects m (swept m B) es).meta.policy ≡ B.meta.policy

-- where these entries are recorded before, some more are recorded after
abbrev pub GoesOn : ℕ → Tables → List Entry → (more : List Entry) → (before after : Recording) → Type 0
GoesOn m B es more before after = IsRecorded m B es before.changes.items before.counters → IsRecorded m B (es ++ more) after.changes.items after.counters

-- the counters are those of a book at the moment, but for that of nonces
abbrev pub IsAt : ℕ → Tables → Counters → Type 0
IsAt m B C = C ≡ record B.meta.counters { clock = m; nonces = C.nonces }

-- these entries left the counters, but for that of nonces, and each row but the nonces' as the passing of time left them
pub record IsUntouched (m : ℕ) (B : Tables) (es : List Entry) : Type 0 where
  pub counters : IsAt m B (effects m (swept m B) es).meta.counters
  pub accounts : (effects m (swept m B) es).accounts ≡ B.accounts
  pub authorizations : (effects m (swept m B) es).authorizations ≡ swept_rows m B.authorizations
  pub orders : (effects m (swept m B) es).orders ≡ map (swept_order m B.authorizations) B.orders

-- the rows of a book that the entry moves, as they stand at the moment
abbrev pub book_moves : ℕ → Tables → Entry → List Change
book_moves m B e =
    map PutAccount (moved_rows (touches_account e) account_differs (noted_account e m) B.accounts)
    ++ (map PutAuthorization (moved_rows (touches_authorization e) authorization_differs (stated_authorization e m B.accounts)
    (swept_rows m B.authorizations))
    ++ map PutOrder (moved_rows (touches_order e (swept_rows m B.authorizations)) order_differs (stated_order e m B.accounts B.authorizations)
    (map (swept_order m B.authorizations) B.orders)))

-- ---- what the last change puts

abbrev pub account_put : Change → Option AccountRow
account_put (PutAccount row) = Some row
account_put _ = None

abbrev pub order_put : Change → Option OrderRow
order_put (PutOrder row) = Some row
order_put _ = None

abbrev pub last_change : List Change → Option Change
last_change cs = slice_get cs (length cs - 1)

abbrev pub last_account : List Change → Option AccountRow
last_account cs = option_and_then account_put (last_change cs)

abbrev pub last_order : List Change → Option OrderRow
last_order cs = option_and_then order_put (last_change cs)
