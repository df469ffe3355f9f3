-- What a call records puts rows in their limits alone.
use Rattle.std.proofs.Common.{◌≡◌, ◌≤◌, ℕ, List, [], ◌∷◌, ◌++◌, map, filter, subst, true, Bool, cond, not, arith, rules}
use Rattle.std.proofs.lemmas.Bool.{and_parts}
use Rattle.std.specs.Prelude.{◌&&◌}
use Rattle.store_columns.specs.Limits.{IsNumber, IsStoredMeta, IsStoredNonce}
use Rattle.model_laws.proofs.{Basics.each, Basics.each_parts, Basics.each-append, Basics.each-map, Basics.each_after, Beginnings.legal_between}
use Rattle.model_laws.proofs.{Dates.clock_in_time, Keeps.each-filter, PutsDiffer.each_change, PutsDiffer.each_sweep, Step.picture_more, Step.step, Step.sweep}
use Rattle.desk_model.specs.Change.{all_changes, changes, moved_rows, recorded_changes, spent_by, sweep_changes}
use Rattle.desk_model.specs.Effect.{effect, effects, falls, is_overdue, lasts, swept}
use Rattle.desk_model.specs.{Entry.History, Kept.EachOf, Legal.Legal, Limits.last_moment, History.clock, History.record_all, Tables.picture, Tables.Tables}
use Rattle.desk_model.specs.{Tables.tables_at, declared.entry.Entry.Entry, declared.rows.AuthorizationRow.AuthorizationRow, declared.rows.OrderRow.OrderRow}
use Rattle.desk_model.specs.declared.status.AuthzStatus.TheVariants as authz
use Rattle.desk_model.specs.declared.status.OrderStatus.TheVariants as order
use Rattle.store_laws.proofs.Rows.{spent_in_limits, tables_in_limits}
use Rattle.store_laws.specs.InLimits.{AreInLimits, IsAuthorizationInLimits, IsOrderInLimits, IsPutInLimits}

-- ---- one table

-- the rows that are put are among those that stand there afterwards
put_among : {X : Type 0} (P : X → Type 0) (picked moves : X → Bool) (move : X → X) → ((x : X) → picked x ≡ true → moves x ≡ true) →
    (rows : List X) → EachOf P (map (λ r. cond (moves r) (move r) r) rows) → EachOf P (map move (filter picked rows))
put_among P picked moves move says [] h = tt
put_among P picked moves move says (x ∷ xs) h = grind (arith, (put_among P picked moves move says xs h.1))

-- the moved rows that differ, and the new ones
differing_among : {X : Type 0} (P : X → Type 0) (touched : X → Bool) (differs : X → X → Bool) (move : X → X) (rows fresh : List X) →
    EachOf P (map (λ r. cond (touched r) (move r) r) rows ++ fresh) → EachOf P (moved_rows touched differs move rows ++ fresh)
differing_among P touched differs move rows fresh h =
    let parts = each_parts P (map (λ r. cond (touched r) (move r) r) rows) fresh h in
    each-append P (moved_rows touched differs move rows) fresh
    (put_among P (λ r. touched r && differs r (move r)) touched move (λ x p. (and_parts (touched x) _ p).0) rows parts.0) parts.1

-- ---- a sweep, an entry, and all of a record

-- the changes of a sweep, where the rows before and after it are in their limits
sweep_in_limits : (T : Tables) (m : ℕ) → EachOf IsStoredNonce T.nonces → AreInLimits (swept m T) → EachOf IsPutInLimits (sweep_changes m T)
sweep_in_limits T m nonces after =
    each_sweep IsPutInLimits T m
    (each-map IsNumber (λ n. n.serial) (filter (λ n. not (lasts T.meta.policy m n)) T.nonces)
    (each-filter _ (λ n. not (lasts T.meta.policy m n)) T.nonces (each _ _ T.nonces (λ n k. k.serial) nonces)))
    (put_among IsAuthorizationInLimits (is_overdue m) (is_overdue m) (λ (r : AuthorizationRow). record r { status = authz.Expired }) (λ x p. p)
    T.authorizations after.authorizations)
    (put_among IsOrderInLimits (falls m T.authorizations) (falls m T.authorizations) (λ (r : OrderRow). record r { status = order.Invalid })
    (λ x p. p) T.orders after.orders)

-- the changes of an entry, where the rows after it are in their limits
entry_in_limits : (T : Tables) (m : ℕ) (e : Entry) → EachOf IsNumber (spent_by e) → AreInLimits (effect m T e) → EachOf IsPutInLimits (changes m T e)
entry_in_limits T m e spent_numbers after = search (rules, each_change, each_after, differing_among)

-- the changes of entries in a row
entries_in_limits : (F : History) (m : ℕ) (es : List Entry) → Legal F → Legal (record_all m es F) → EachOf IsPutInLimits (all_changes m (tables_at F m) es)
entries_in_limits F m [] h k = tt
entries_in_limits F m (e ∷ es) h k =
    let G : History = record { date = m; entry = e } ∷ F in
    let legal : Legal G = legal_between F e es m h k in
    let one : tables_at G m ≡ effect m (tables_at F m) e = step F e m legal.each in
    each-append IsPutInLimits (changes m (tables_at F m) e) (all_changes m (effect m (tables_at F m) e) es)
    (entry_in_limits (tables_at F m) m e (spent_in_limits F e m h legal.each.0.allowed)
    (subst AreInLimits one (tables_in_limits G legal m legal.each.0.in_time)))
    (subst (λ T. EachOf IsPutInLimits (all_changes m T es)) one (entries_in_limits G m es legal k))

-- what a call records puts rows in their limits alone
pub records_in_limits : (F : History) (e : Entry) (es : List Entry) (m : ℕ) → clock F ≤ m → Legal F → Legal (record_all m (e ∷ es) F) →
    EachOf IsPutInLimits (recorded_changes m (picture F) (e ∷ es))
records_in_limits F e es m le h k =
    let now : tables_at F m ≡ swept m (picture F) = sweep F (clock F) m le in
    let in_time : m ≤ last_moment = (legal_between F e es m h k).each.0.in_time in
    let before : AreInLimits (picture F) = tables_in_limits F h (clock F) (clock_in_time F h.each) in
    let grown : picture (record_all m (e ∷ es) F) ≡ effects m (swept m (picture F)) (e ∷ es) = picture_more F e es m le k.each in
    let longer : AreInLimits (picture (record_all m (e ∷ es) F)) =
    tables_in_limits (record_all m (e ∷ es) F) k (clock (record_all m (e ∷ es) F)) (clock_in_time (record_all m (e ∷ es) F) k.each) in
    each-append IsPutInLimits (sweep_changes m (picture F)) _
    (sweep_in_limits (picture F) m before.nonces (subst AreInLimits now (tables_in_limits F h m in_time)))
    (each-append IsPutInLimits (all_changes m (swept m (picture F)) (e ∷ es)) _
    (subst (λ T. EachOf IsPutInLimits (all_changes m T (e ∷ es))) now (entries_in_limits F m (e ∷ es) h k))
    (subst (λ (T : Tables). IsStoredMeta T.meta) grown longer.meta, tt))
