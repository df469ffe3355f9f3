-- What is recorded makes the tables of the longer history.
use Rattle.std.proofs.Common.{length, ◌≡◌, ◌≤◌, ℕ, ◌+◌, List, [], ◌∷◌, ◌++◌, map, refl, sym, ap, subst, ◌∙◌, arith}
use Rattle.std.proofs.lemmas.List.{length-map}
use Rattle.std.specs.List.{flat_map}
use Rattle.desk_model.specs.Tables.{Tables, account_row, authorization_row, order_row, tables_at, picture}
use Rattle.desk_model.specs.Change.{applied_one, applied, changes, sweep_changes, all_changes, recorded_changes}
use Rattle.desk_model.specs.{Effect.effect, Effect.effects, Effect.swept, Entry.History, History.clock, Nonce.nonces, Account.accounts, Order.orders}
use Rattle.desk_model.specs.{Legal.EachFollows, History.record_all, declared.entry.Entry.Entry, declared.rows.Change.Change, declared.rows.Meta.Meta}
use Rattle.desk_model.specs.{Authorization.authorizations, declared.objects.Authorization.Authorization, declared.rows.AuthorizationRow.AuthorizationRow}
use Rattle.model_laws.proofs.Numbers.{AreNumbered, challenges_count, nonces_numbered, accounts_numbered, orders_numbered}
use Rattle.model_laws.proofs.Step.{clock_after, follows_before, picture_more, step, sweep}
use Rattle.model_laws.proofs.{RowLists.numbered_ascends, RowLists.ascends_map, RowLists.ascends_filter, Basics.numbered-append, Basics.IsNumbered, InTurn.Leads}
use Rattle.model_laws.proofs.{InTurn.changes_lead, InTurn.leads_then, InTurn.sweep_leads, OrderFacts.authorizations_numbered}
use Rattle.model_laws.specs.Ordered.{Ascends, Below, IsOrdered, IsTable}
pub use Rattle.model_laws.proofs.{PutsDiffer.made_up, RowLists.below_filter, RowLists.below_map}

-- ---- changes one after the other

-- changes after changes
pub applied-append : (cs ds : List Change) (T : Tables) → applied (cs ++ ds) T ≡ applied ds (applied cs T)
applied-append [] ds T = refl
applied-append (c ∷ cs) ds T = applied-append cs ds (applied_one c T)

-- ---- tables in order

-- numbers that count up are below their end
pub numbered_below : {X : Type 0} (number : X → ℕ) (n k : ℕ) (xs : List X) → k ≡ n + length xs → IsNumbered number n xs → Below number k xs
numbered_below number n k [] e h = tt
numbered_below number n k (x ∷ xs) e h = ((let same : number x ≡ n = h.0 in omega arith), numbered_below number (n + 1) k xs (omega arith) h.1)

-- the rows of what was made, counting up from 1, are a table
rows_ordered : {X Y : Type 0} (number : X → ℕ) (other : Y → ℕ) (row : X → Y) → ((x : X) → other (row x) ≡ number x) → (xs : List X) →
    IsNumbered number 1 xs → IsTable other (length xs) (map row xs)
rows_ordered number other row same xs counted = (
  ascends_map number other row same 1 xs (numbered_ascends number 1 xs counted),
  below_map number other row same (length xs + 1) xs (numbered_below number 1 (length xs + 1) xs (omega arith) counted),
)

-- the tables of a history stand by number
pub tables_ordered : (F : History) (t : ℕ) → IsOrdered (tables_at F t)
tables_ordered F t =
    record {
      nonces = (
        ascends_filter _ _ 1 (nonces F) (numbered_ascends _ 1 (nonces F) (nonces_numbered F)),
        below_filter _ _ _ (nonces F) (numbered_below _ 1 (length (nonces F) + 1) (nonces F) (omega arith) (nonces_numbered F)),
      );
      accounts = rows_ordered (λ a. a.number) (λ a. a.number) (account_row F) (λ a. refl) (accounts F) (accounts_numbered F);
      authorizations = rows_ordered (λ a. a.number) (λ a. a.number) (authorization_row F t) (λ a. refl) (authorizations F) (authorizations_numbered F);
      orders = rows_ordered (λ o. o.number) (λ o. o.number) (order_row F t) (λ o. refl) (orders F) (orders_numbered F);
    }

-- numbers that count up still do in rows that keep them
numbered_map : {X Y : Type 0} (number : X → ℕ) (other : Y → ℕ) (f : X → Y) → ((x : X) → other (f x) ≡ number x) → (n : ℕ) (xs : List X) →
    IsNumbered number n xs → IsNumbered other n (map f xs)
numbered_map number other f same n [] h = tt
numbered_map number other f same n (x ∷ xs) h = (same x ∙ h.0, numbered_map number other f same (n + 1) xs h.1)

-- challenges that count up through authorizations count up in their rows
challenges_in_rows : (F : History) (t n : ℕ) (xs : List Authorization) → AreNumbered n xs →
    IsNumbered (λ c. c.number) n (flat_map (λ (a : AuthorizationRow). a.challenges) (map (authorization_row F t) xs))
challenges_in_rows F t n [] h = tt
challenges_in_rows F t n (a ∷ xs) h = grind (arith, numbered-append, length-map, numbered_map, (challenges_in_rows F t (n + length a.challenges) xs h.1))

-- the challenges of a history stand by number
pub challenges_ordered : (F : History) (t : ℕ) → Ascends (λ c. c.number) 1 (flat_map (λ (a : AuthorizationRow). a.challenges) (tables_at F t).authorizations)
challenges_ordered F t = numbered_ascends (λ c. c.number) 1 _ (challenges_in_rows F t 1 (authorizations F) (challenges_count F))

-- ---- the whole: from the picture of a history, what is recorded makes the picture of the longer one

-- the changes of a sweep make the swept tables, beside any meta row
pub sweep_makes : (T : Tables) (m : ℕ) (M : Meta) → IsOrdered T → applied (sweep_changes m T) (record T { meta = M }) ≡ record (swept m T) { meta = M }
sweep_makes T m M h = (sweep_leads T m M h).1

-- those of an entry make its effect
pub changes_make : (T : Tables) (m : ℕ) (e : Entry) (M : Meta) → IsOrdered T
    → applied (changes m T e) (record T { meta = M }) ≡ record (effect m T e) { meta = M }
changes_make T m e M h = (changes_lead T m e M h).1

-- those of entries in a row lead to the tables after them
entries_lead : (F : History) (m : ℕ) (es : List Entry) (M : Meta) → EachFollows (record_all m es F) →
    Leads (record (tables_at F m) { meta = M }) (all_changes m (tables_at F m) es) (record (tables_at (record_all m es F) m) { meta = M })
entries_lead F m [] M h = (tt, refl)
entries_lead F m (e ∷ es) M h =
    let G : History = record { date = m; entry = e } ∷ F in
    let one : effect m (tables_at F m) e ≡ tables_at G m = sym (step F e m (follows_before m es G h)) in
    leads_then (changes m (tables_at F m) e) _ _ _ _ (changes_lead (tables_at F m) m e M (tables_ordered F m))
    (subst (λ (U : Tables). Leads (record U { meta = M }) (all_changes m U es) (record (tables_at (record_all m es G) m) { meta = M })) (sym one)
    (entries_lead G m es M h))

-- what is recorded leads to the picture of the longer history
pub record_leads : (F : History) (e : Entry) (es : List Entry) (m : ℕ) → clock F ≤ m → EachFollows (record_all m (e ∷ es) F) →
    Leads (picture F) (recorded_changes m (picture F) (e ∷ es)) (picture (record_all m (e ∷ es) F))
record_leads F e es m le h =
    let G : History = record_all m (e ∷ es) F in
    let T : Tables = picture F in
    let last : clock G ≡ m = clock_after m es (record { date = m; entry = e } ∷ F) (omega arith) in
    let meta : (effects m (swept m T) (e ∷ es)).meta ≡ (picture G).meta = ap (λ (U : Tables). U.meta) (sym (picture_more F e es m le h)) in
    leads_then (sweep_changes m T) _ _ _ _ (sweep_leads T m T.meta (tables_ordered F (clock F)))
    (leads_then (all_changes m (swept m T) (e ∷ es)) _ _ _ _
    (subst (λ (U : Tables). Leads (record U { meta = T.meta }) (all_changes m U (e ∷ es)) (record (tables_at G m) { meta = T.meta }))
    (sweep F (clock F) m le) (entries_lead F m (e ∷ es) T.meta h))
    ((tt, tt), λ i. record (tables_at G (sym last i)) { meta = meta i }))

-- and makes it
pub recorded : (F : History) (e : Entry) (es : List Entry) (m : ℕ) → clock F ≤ m → EachFollows (record_all m (e ∷ es) F) →
    applied (recorded_changes m (picture F) (e ∷ es)) (picture F) ≡ picture (record_all m (e ∷ es) F)
recorded F e es m le h = (record_leads F e es m le h).1
