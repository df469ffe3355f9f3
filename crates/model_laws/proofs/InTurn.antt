-- The changes of a sweep and of each entry: moves, one after the other, that make the tables after them.
use Rattle.std.proofs.Common.{◌≡◌, ◌<◌, ℕ, ◌+◌, List, [], ◌∷◌, ◌++◌, map, filter, Some, None, refl, sym, ap, subst, true, cond, arith}
use Rattle.std.specs.Prelude.{◌==◌, IfSome, find}
use Rattle.desk_model.specs.Change.{accounts_put, applied, applied_one, authorizations_expired, authorizations_put, changes, nonces_gone, nonces_put, put}
use Rattle.desk_model.specs.Change.{spent_by, sweep_changes}
use Rattle.desk_model.specs.declared.rows.Change.TheVariants.{PutNonce, RemoveNonce, PutAccount, PutAuthorization, PutOrder}
use Rattle.desk_model.specs.{Effect.effect, Effect.lasts, Effect.not_spent, Effect.swept, Kept.EachOf, Tables.Tables, declared.entry.Entry.Entry}
use Rattle.desk_model.specs.{declared.entry.Entry.TheVariants.Spent as spent, declared.rows.AuthorizationRow.AuthorizationRow, declared.rows.Change.Change}
use Rattle.desk_model.specs.{declared.rows.Meta.Meta, declared.rows.OrderRow.OrderRow, declared.objects.Nonce.Nonce}
use Rattle.model_laws.specs.{News.InTurn, Ordered.Ascends, Ordered.IsOrdered, Placing.puts, Placing.removes}
use Rattle.model_laws.proofs.PutsDiffer.{IsMove, MovedAuthorization, MovedOrder, accounts_are_put, authorizations_are_put, expired_are_put, fallen_are_put}
use Rattle.model_laws.proofs.PutsDiffer.{nonces_are_put, orders_are_put}
use Rattle.model_laws.proofs.RowLists.{ascends_above, below_filter, removes_filter}
use Rattle.model_laws.proofs.{Basics.each, Basics.each_all, Basics.each_both, Basics.less_differs, Local.filter_all, PutRows.IsPut}

-- these changes are moves, one after the other, and make these tables
abbrev pub Leads : Tables → List Change → Tables → Type 0
Leads T cs U = InTurn IsMove T cs × (applied cs T ≡ U)

-- changes after changes
pub leads_then : (cs ds : List Change) (T U V : Tables) → Leads T cs U → Leads U ds V → Leads T (cs ++ ds) V
leads_then [] ds T U V h k = subst (λ W. Leads W ds V) (sym h.1) k
leads_then (c ∷ cs) ds T U V h k = let rest = leads_then cs ds (applied_one c T) U V (h.0.1, h.1) k in ((h.0.0, rest.0), rest.1)

-- ---- one table

-- a put row leaves those of greater numbers
find_put : {X : Type 0} (number : X → ℕ) (x : X) (k : ℕ) (rows : List X) → number x < k →
    find (λ y. number y == k) (put number x rows) ≡ find (λ y. number y == k) rows
find_put number x k [] lt = ap (λ b. cond b (Some x) None) (less_differs (number x) k lt)
find_put number x k (y ∷ ys) lt = grind (arith, (find_put number x k ys lt))

-- rows that are put into one table, the others being as they are
module _ {X : Type 0} (number : X → ℕ) (Moved : X → X → Type 0) (change : X → Change) (within : List X → Tables)
    (one : (x : X) (rows : List X) → applied_one (change x) (within rows) ≡ within (put number x rows))
    (moves : (y : X) (rows : List X) → IfSome (find (λ x. number x == number y) rows) (λ x. Moved x y) → IsMove (within rows) (change y)) where
  -- one after the other, each above those before it
  putting : (n : ℕ) (xs rows : List X) → Ascends number n xs → EachOf (λ y. IfSome (find (λ x. number x == number y) rows) (λ x. Moved x y)) xs →
      Leads (within rows) (map change xs) (within (puts number xs rows))
  putting n [] rows up all = (tt, refl)
  putting n (x ∷ xs) rows up all =
      let later = each_both _ _ xs (ascends_above number (number x) (number x + 1) xs (omega arith) up.1) all.1 in
      let rest = putting (number x + 1) xs (put number x rows) up.1
      (each _ _ xs (λ y p. subst (λ o. IfSome o (λ z. Moved z y)) (sym (find_put number x (number y) rows p.0)) p.1) later) in
      let here = subst (λ U. Leads U (map change xs) (within (puts number xs (put number x rows)))) (sym (one x rows)) rest in
      ((moves x rows all.0, here.0), here.1)

  -- as what is put makes of it
  put_leads : {rows xs after : List X} → IsPut number Moved rows xs after → Leads (within rows) (map change xs) (within after)
  put_leads {rows} {xs} p = subst (λ l. Leads (within rows) (map change xs) (within l)) p.made (putting 1 xs rows p.ascend p.each)

-- nonces that are removed
removing : (ns : List ℕ) (T : Tables) → Leads T (map RemoveNonce ns) (record T { nonces = removes (λ n. n.serial) ns T.nonces })
removing [] T = (tt, refl)
removing (n ∷ ns) T = let rest = removing ns (applied_one (RemoveNonce n) T) in ((tt, rest.0), rest.1)

-- authorizations that are put
put_authorizations : (T : Tables) {xs after : List AuthorizationRow} → IsPut (λ a. a.number) MovedAuthorization T.authorizations xs after →
    Leads T (map PutAuthorization xs) (record T { authorizations = after })
put_authorizations T =
    put_leads (λ a. a.number) MovedAuthorization PutAuthorization (λ rows. record T { authorizations = rows }) (λ x rows. refl) (λ y rows h. h)

-- orders
put_orders : (T : Tables) {xs after : List OrderRow} → IsPut (λ o. o.number) MovedOrder T.orders xs after →
    Leads T (map PutOrder xs) (record T { orders = after })
put_orders T = put_leads (λ o. o.number) MovedOrder PutOrder (λ rows. record T { orders = rows }) (λ x rows. refl) (λ y rows h. h)

-- ---- a sweep, and an entry

-- removing the spent nonce
spent_removed : (e : Entry) (rows : List Nonce) → removes (λ n. n.serial) (spent_by e) rows ≡ filter (not_spent e) rows
spent_removed (spent n) rows = refl
spent_removed _ rows = sym (filter_all (λ x. true) rows (each_all _ rows (λ x. refl)))

-- what holds of each change in turn
pub in_turn : (P Q : Tables → Change → Type 0) → ((T : Tables) (c : Change) → P T c → Q T c) → (cs : List Change) (T : Tables) → InTurn P T cs →
    InTurn Q T cs
in_turn P Q f [] T h = tt
in_turn P Q f (c ∷ cs) T h = (f T c h.0, in_turn P Q f cs (applied_one c T) h.1)

-- the changes of an entry lead to its effect, beside any meta row
pub changes_lead : (T : Tables) (m : ℕ) (e : Entry) (M : Meta) → IsOrdered T →
    Leads (record T { meta = M }) (changes m T e) (record (effect m T e) { meta = M })
changes_lead T m e M h =
    let left : List Nonce = filter (not_spent e) T.nonces in
    let first : Leads (record T { meta = M }) (map RemoveNonce (spent_by e)) (record T { meta = M; nonces = left }) =
    subst (λ l. Leads (record T { meta = M }) (map RemoveNonce (spent_by e)) (record T { meta = M; nonces = l })) (spent_removed e T.nonces)
    (removing (spent_by e) (record T { meta = M })) in
    leads_then (map RemoveNonce (spent_by e)) _ _ _ _ first
    (leads_then (map PutNonce (nonces_put T e m)) _ _ _ _
    (put_leads (λ n. n.serial) _ PutNonce (λ rows. record T { meta = M; nonces = rows }) (λ x rows. refl) (λ y rows h. h)
    (nonces_are_put T h m e left (below_filter (λ n. n.serial) (not_spent e) (T.meta.counters.nonces + 1) T.nonces h.nonces.1)))
    (leads_then (map PutAccount (accounts_put T e m)) _ _ _ _
    (put_leads (λ a. a.number) _ PutAccount (λ rows. record T { meta = M; nonces = (effect m T e).nonces; accounts = rows }) (λ x rows. refl)
    (λ y rows h. h) (accounts_are_put T h m e))
    (leads_then (map PutAuthorization (authorizations_put T e m)) _ _ _ _ (put_authorizations _ (authorizations_are_put T h m e))
    (put_orders _ (orders_are_put T h m e)))))

-- those of a sweep lead to the swept tables
pub sweep_leads : (T : Tables) (m : ℕ) (M : Meta) → IsOrdered T → Leads (record T { meta = M }) (sweep_changes m T) (record (swept m T) { meta = M })
sweep_leads T m M h =
    leads_then (map RemoveNonce (nonces_gone m T)) _ _ _ _
    (subst (λ l. Leads (record T { meta = M }) (map RemoveNonce (nonces_gone m T)) (record T { meta = M; nonces = l }))
    (removes_filter (λ n. n.serial) (lasts T.meta.policy m) 1 T.nonces h.nonces.0) (removing (nonces_gone m T) (record T { meta = M })))
    (leads_then (map PutAuthorization (authorizations_expired m T)) _ _ _ _ (put_authorizations _ (expired_are_put T h m))
    (put_orders _ (fallen_are_put T h m)))
