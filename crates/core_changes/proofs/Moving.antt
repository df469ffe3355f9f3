-- What is recorded of moves, and of a new order.
use Rattle.std.proofs.Common.{◌≡◌, ℕ, ◌+◌, List, [], ◌∷◌, ◌++◌, map, refl, sym, ap, subst, ◌∙◌, arith, rules}
use Rattle.std.proofs.lemmas.Bool.Decides.{nat_tests}
use Rattle.desk_model.specs.Effect.{effect, effects, swept, fresh_order, moved_authorization, new_authorizations, authorizations_after, noted_account}
use Rattle.desk_model.specs.Effect.{noted_order, touches_account, touches_authorization, touches_order}
use Rattle.desk_model.specs.Change.{changes, moved_rows, account_differs, authorization_differs, order_differs, spent_by}
use Rattle.desk_model.specs.declared.entry.Entry.TheVariants.{Issued as issued, Ordered as ordered, Spent as spent}
use Rattle.desk_model.specs.declared.rows.Change.TheVariants.{PutAccount, PutAuthorization, PutOrder}
use Rattle.desk_model.specs.{Tables.Tables, History.terms_after, Nonce.issued_by, Account.opened_by, Entry.entry_of, Terms.Terms, declared.entry.Entry.Entry}
use Rattle.desk_model.specs.{declared.entry.Move.Move, declared.rows.Counters.Counters, declared.rows.AuthorizationRow.AuthorizationRow}
use Rattle.desk_model.specs.{declared.rows.Change.Change, declared.entry.Wanted.Wanted, Order.ordered_by, Derived.restated_order}
use Rattle.model_laws.specs.Ordered.{Below, IsOrdered}
use Rattle.model_laws.proofs.{Basics.each, Basics.each-map, Plain.issued_effect, Plain.spent_effect}
use Rattle.core_changes.specs.Made.{AreReusable, next_order, next_rows, ordered_counters}
use Rattle.core_changes.specs.{Moved.swept_rows, Moved.stated_authorization, Recorded.IsRecorded, Recorded.IsUntouched, Recorded.book_moves}
use Rattle.core_changes.proofs.QuietEntries.{issued_counters, quiet_changes, spent_counters}
use Rattle.core_changes.proofs.{MadeRows.status_is_made, Recordings.counters_then, Recordings.one_more}

-- what an entry of a move makes: nothing
pub record MakesNothing (m : ℕ) (T : Tables) (e : Entry) : Type 0 where
  pub policy : terms_after e T.meta.policy ≡ T.meta.policy
  pub unspent : spent_by e ≡ []
  pub nonces : issued_by e m (T.meta.counters.nonces + 1) ≡ []
  pub accounts : opened_by e m (T.meta.counters.accounts + 1) ≡ []
  pub authorizations : new_authorizations T e m ≡ []
  pub orders : (first : ℕ) → ordered_by e m T.meta.policy first (T.meta.counters.orders + 1) ≡ []

pub makes_nothing : (m : ℕ) (T : Tables) (v : Move) → MakesNothing m T (entry_of v)
makes_nothing m T v = search rules

-- the counters stay, but for the clock
pub moving_counters : (m : ℕ) (T : Tables) (v : Move) → (effect m T (entry_of v)).meta.counters ≡ record T.meta.counters { clock = m }
moving_counters m T v = grind arith

-- the rows that it moves, one table after the other
abbrev pub moves : ℕ → Tables → Entry → List Change
moves m T e =
    map PutAccount (moved_rows (touches_account e) account_differs (noted_account e m) T.accounts)
    ++ (map PutAuthorization (moved_rows (touches_authorization e) authorization_differs (stated_authorization e m T.accounts) T.authorizations)
    ++ map PutOrder (moved_rows (touches_order e T.authorizations) order_differs
    (λ r. restated_order m (map (moved_authorization e m T.accounts) T.authorizations) (noted_order e m r)) T.orders))

-- and nothing else is recorded of it
pub moving_changes : (m : ℕ) (T : Tables) (v : Move) → changes m T (entry_of v) ≡ moves m T (entry_of v)
moving_changes m T v = search (rules, makes_nothing)

same_moves : (m : ℕ) (B : Tables) (es : List Entry) (e : Entry) → IsUntouched m B es → moves m (effects m (swept m B) es) e ≡ book_moves m B e
same_moves m B es e h =
    λ i. map PutAccount (moved_rows (touches_account e) account_differs (noted_account e m) (h.accounts i))
    ++ (map PutAuthorization (moved_rows (touches_authorization e) authorization_differs (stated_authorization e m (h.accounts i)) (h.authorizations i))
    ++ map PutOrder (moved_rows (touches_order e (h.authorizations i)) order_differs
    (λ r. restated_order m (map (moved_authorization e m (h.accounts i)) (h.authorizations i)) (noted_order e m r)) (h.orders i)))

-- a move is recorded
pub and_moved : (m : ℕ) (B : Tables) (es : List Entry) (v : Move) (done : List Change) (counters : Counters) → IsUntouched m B es
    → IsRecorded m B es done counters →
    IsRecorded m B (es ++ entry_of v ∷ []) (done ++ book_moves m B (entry_of v)) counters
and_moved m B es v done counters untouched h =
    let T : Tables = effects m (swept m B) es in
    one_more m B es (entry_of v) done (book_moves m B (entry_of v)) counters counters h
    (sym (same_moves m B es (entry_of v) untouched) ∙ sym (moving_changes m T v))
    (counters_then m B es done counters h ∙ sym (moving_counters m T v)) (makes_nothing m T v).policy

-- ---- a new order

-- the counters after it
counters_ordered : (m : ℕ) (T : Tables) (account : ℕ) (wanted : List Wanted) →
    (effect m T (ordered account wanted)).meta.counters ≡ ordered_counters T.meta.policy (record T.meta.counters { clock = m }) account wanted
counters_ordered m T account wanted = search rules

-- its row
pub ordered_one : (m : ℕ) (T : Tables) (account : ℕ) (wanted : List Wanted) → Below (λ a. a.number) (T.meta.counters.authorizations + 1) T.authorizations →
    AreReusable T.authorizations wanted →
    (let e : Entry = ordered account wanted in
    map (λ o. restated_order m (authorizations_after T e m) (fresh_order o))
    (ordered_by e m T.meta.policy (T.meta.counters.authorizations + 1) (T.meta.counters.orders + 1))
    ≡ next_order T.meta.policy (record T.meta.counters { clock = m }) account wanted ∷ [])
ordered_one m T account wanted below reusable = search (rules, status_is_made)

-- what is recorded of it
ordered_changes : (m : ℕ) (T : Tables) (account : ℕ) (wanted : List Wanted) → Below (λ a. a.number) (T.meta.counters.authorizations + 1) T.authorizations →
    AreReusable T.authorizations wanted →
    changes m T (ordered account wanted)
    ≡ map PutAuthorization (next_rows T.meta.policy (record T.meta.counters { clock = m }) account wanted)
    ++ PutOrder (next_order T.meta.policy (record T.meta.counters { clock = m }) account wanted) ∷ []
ordered_changes m T account wanted below reusable =
    quiet_changes m T (ordered account wanted) (λ a. refl) (λ a. refl) (λ k. refl)
    ∙ (λ i. map PutAuthorization (next_rows T.meta.policy (record T.meta.counters { clock = m }) account wanted)
    ++ map PutOrder (ordered_one m T account wanted below reusable i))

-- the authorizations that stand at the moment have no later number
pub below_swept : (m n : ℕ) (rows : List AuthorizationRow) → Below (λ a. a.number) n rows → Below (λ a. a.number) n (swept_rows m rows)
below_swept m n rows h = search (rules, each-map, each)

-- a new order is recorded
pub and_ordered : (m : ℕ) (B : Tables) (es : List Entry) (policy : Terms) (account : ℕ) (wanted : List Wanted) (done : List Change) (counters : Counters) →
    B.meta.policy ≡ policy → IsOrdered B → IsUntouched m B es → AreReusable (swept m B).authorizations wanted → IsRecorded m B es done counters →
    IsRecorded m B (es ++ ordered account wanted ∷ [])
    (done ++ (map PutAuthorization (next_rows policy counters account wanted) ++ PutOrder (next_order policy counters account wanted) ∷ []))
    (ordered_counters policy counters account wanted)
and_ordered m B es policy account wanted done counters same is untouched reusable h =
    let T : Tables = effects m (swept m B) es in
    let terms : policy ≡ T.meta.policy = sym (h.policy ∙ same) in
    let then : counters ≡ record T.meta.counters { clock = m } = counters_then m B es done counters h in
    let last : T.meta.counters.authorizations ≡ B.meta.counters.authorizations = ap (λ (x : Counters). x.authorizations) untouched.counters in
    let below : Below (λ a. a.number) (T.meta.counters.authorizations + 1) T.authorizations =
    subst (λ n. Below (λ a. a.number) (n + 1) T.authorizations) (sym last)
    (subst (Below (λ a. a.number) (B.meta.counters.authorizations + 1)) (sym untouched.authorizations)
    (below_swept m (B.meta.counters.authorizations + 1) B.authorizations is.authorizations.1)) in
    one_more m B es (ordered account wanted) done _ counters _ h
    ((λ i. map PutAuthorization (next_rows (terms i) (then i) account wanted) ++ PutOrder (next_order (terms i) (then i) account wanted) ∷ [])
    ∙ sym (ordered_changes m T account wanted below (subst (λ rows. AreReusable rows wanted) (sym untouched.authorizations) reusable)))
    ((λ i. ordered_counters (terms i) (then i) account wanted) ∙ sym (counters_ordered m T account wanted)) refl

-- ---- entries that touch no row but the nonces'

-- a nonce spent, and one issued
pub untouched_nonces : (m : ℕ) (B : Tables) (n : ℕ) (r : List ℕ) → IsUntouched m B (spent n ∷ issued r ∷ [])
untouched_nonces m B n r = record {
  counters = grind (arith, nat_tests, issued_counters, spent_counters);
  accounts = grind (arith, nat_tests, issued_effect, spent_effect);
  authorizations = ap (λ (T : Tables). T.authorizations) (issued_effect m (effect m (swept m B) (spent n)) r)
      ∙ ap (λ (T : Tables). T.authorizations) (spent_effect m (swept m B) n);
  orders = ap (λ (T : Tables). T.orders) (issued_effect m (effect m (swept m B) (spent n)) r) ∙ ap (λ (T : Tables). T.orders) (spent_effect m (swept m B) n);
}

-- none
pub untouched_none : (m : ℕ) (B : Tables) → IsUntouched m B []
untouched_none m B = record { counters = refl; accounts = refl; authorizations = refl; orders = refl }
