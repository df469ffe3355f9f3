-- A request that shows orders without what they list: a part may lack that, but for what falls.
use Rattle.std.proofs.Common.{◌≡◌, ℕ, List, [], ◌∷◌, ◌++◌, map, filter, Option, None, refl, sym, ap, ◌∙◌, true, false, Bool, cond, not, arith, rules}
use Rattle.std.proofs.lemmas.Bool.{or_left}
use Rattle.std.specs.Prelude.{◌==◌, ◌&&◌, ◌||◌, find, nat_lt}
use Rattle.desk_model.specs.Change.{all_changes, changes, moved_rows, order_differs, recorded_changes, sweep_changes}
use Rattle.desk_model.specs.Effect.{authorizations_after, effect, effects, falls, is_live_order, is_overdue, lasts, noted_order, swept, touches_order}
use Rattle.desk_model.specs.declared.verdict.Verdict.TheVariants.{Refused as refused, KeyTaken as key_taken, Answers as answers}
use Rattle.desk_model.specs.{Derived.authorization_numbered, declared.call.Target.Target, declared.rows.AccountRow.AccountRow, declared.rows.OrderRow.OrderRow}
use Rattle.desk_model.specs.{Derived.numbers_of, Derived.restated_order, Rules.signed_verdict, Decide.entries_of, Asked.asks_orders, declared.entry.Entry.Entry}
use Rattle.desk_model.specs.{Kept.CoversSweep, Kept.EachOf, Kept.IsClosed, Kept.Kept, Kept.restricted, Lookup.holds, Shown.reply_of, Tables.Tables}
use Rattle.desk_model.specs.{declared.rows.Change.TheVariants.PutAuthorization, declared.call.Signed.Signed, declared.entry.Entry.TheVariants.Issued as issued}
use Rattle.desk_model.specs.{declared.rows.Change.TheVariants.PutMeta, declared.rows.Change.TheVariants.PutOrder, declared.rows.Change.TheVariants.RemoveNonce}
use Rattle.desk_model.specs.{declared.rows.AuthorizationRow.AuthorizationRow, declared.verdict.Verdict.Verdict, declared.entry.Entry.TheVariants.Spent as spent}
use Rattle.model_laws.specs.Ordered.{IsOrdered}
use Rattle.model_laws.proofs.{Basics.each, Basics.list_any-same, Chain.all_changes_local, SweptParts.swept_closed, Plain.nonces_covered, Plain.nothing_touched}
use Rattle.model_laws.proofs.{Basics.each_all, Finds.each_found, Finds.found_passes, Local.filter_part, Local.find_kept, Local.swept_alike, Plain.covers_issued}
use Rattle.model_lives.proofs.Judged.{OfAccount, OfRequest, held_key, request_judged, sent}
use Rattle.model_parts.proofs.Between.{bare, bare_ordered}
use Rattle.model_parts.proofs.{Between.carries_by, Between.open_kept, Between.swept_bare, Grown.KeepsNamed, Grown.grown_closed, Lists.filter_same}
use Rattle.model_parts.proofs.{Lists.same_number, Ready.swept_names, Replies.certificate_shown, Replies.orders_shown, Verdicts.nonce_same, Verdicts.signed_same}
use Rattle.model_parts.specs.{AnswersAs.CarriesOutAs, AnswersAs.PassesAs, MinimalPart.target_needs_listed}
use Rattle.desk_model.specs.declared.call.Ask.TheVariants as ask
use Rattle.desk_model.specs.declared.status.AuthzStatus.TheVariants as authz
use Rattle.desk_model.specs.declared.status.OrderStatus.TheVariants as order

-- ---- what falls

-- a number that is not kept is not found in the part
not_found : (kept : ℕ → Bool) (n : ℕ) (xs : List AuthorizationRow) → kept n ≡ false → find (λ a. a.number == n) (filter (λ a. kept a.number) xs) ≡ None
not_found kept n [] h = refl
not_found kept n (x ∷ xs) h = grind (arith, (not_found kept n xs h))

-- a row that passes a test is found in a part that keeps all that pass, and no other passes there
found_alike : (kept : ℕ → Bool) (test : AuthorizationRow → Bool) (n : ℕ) (xs : List AuthorizationRow) →
    EachOf (λ r. test r ≡ true → kept r.number ≡ true) xs →
    holds test (authorization_numbered n (filter (λ a. kept a.number) xs)) ≡ holds test (authorization_numbered n xs)
found_alike kept test n xs h = by (kept n) refl
  where
    fails : (r : AuthorizationRow) → r.number ≡ n → kept n ≡ false → (test r ≡ true → kept r.number ≡ true) → (b : Bool) → test r ≡ b → b ≡ false
    fails i j k l u g = grind arith

    none : kept n ≡ false → (o : Option AuthorizationRow) → authorization_numbered n xs ≡ o → holds test o ≡ false
    none v o w = grind (arith, found_passes, each_found)

    by : (b : Bool) → kept n ≡ b → holds test (authorization_numbered n (filter (λ a. kept a.number) xs)) ≡ holds test (authorization_numbered n xs)
    by true e = ap (holds test) (find_kept (λ (a : AuthorizationRow). a.number) kept n xs e)
    by false e = ap (holds test) (not_found kept n xs e) ∙ sym (none e (authorization_numbered n xs) refl)

-- an order falls by the part where it falls by the whole
pub falls_open : (k : Kept) (T : Tables) (m : ℕ) → CoversSweep k T m → (o : OrderRow) → falls m (restricted k T).authorizations o ≡ falls m T.authorizations o
falls_open k T m covers o =
    ap (λ b. is_live_order o.status && (nat_lt o.expires m || b))
    (list_any-same _ _ (numbers_of o.listed) (λ n. found_alike k.authorizations (is_overdue m) n T.authorizations covers.authorizations))

-- the part, swept, is the part of the swept tables
swept_open : (k : Kept) (T : Tables) (m : ℕ) → CoversSweep k T m → swept m (restricted k T) ≡ restricted k (swept m T)
swept_open k T m covers = swept_alike k T m (each_all _ T.orders (λ o kept. falls_open k T m covers o))

-- the part changes as the whole by the passing of time
sweep_open : (k : Kept) (T : Tables) (m : ℕ) → CoversSweep k T m → sweep_changes m (restricted k T) ≡ sweep_changes m T
sweep_open k T m covers =
    λ i. map RemoveNonce (map (λ n. n.serial) (filter_part (λ n. not (lasts T.meta.policy m n)) (λ n. k.nonces n.serial) T.nonces covers.nonces i))
    ++ (map PutAuthorization (map (λ (r : AuthorizationRow). record r { status = authz.Expired })
    (filter_part (is_overdue m) (λ (a : AuthorizationRow). k.authorizations a.number) T.authorizations covers.authorizations i))
    ++ map PutOrder (map (λ (r : OrderRow). record r { status = order.Invalid }) (fallen i)))
  where
    fallen : filter (falls m (restricted k T).authorizations) (restricted k T).orders ≡ filter (falls m T.authorizations) T.orders
    fallen =
        filter_same (falls m (restricted k T).authorizations) (falls m T.authorizations) (restricted k T).orders
        (each_all _ (restricted k T).orders (λ o. falls_open k T m covers o))
        ∙ filter_part (falls m T.authorizations) (λ (o : OrderRow). k.orders o.number) T.orders covers.orders

-- ---- nonces

-- where no order that is touched differs, none is put
no_orders : (touched : OrderRow → Bool) (move : OrderRow → OrderRow) (rows : List OrderRow) →
    EachOf (λ o. (touched o && order_differs o (move o)) ≡ false) rows → moved_rows touched order_differs move rows ≡ []
no_orders touched move rows none = by rows none
  where
    by : (xs : List OrderRow) → EachOf (λ o. (touched o && order_differs o (move o)) ≡ false) xs →
        map move (filter (λ r. touched r && order_differs r (move r)) xs) ≡ []
    by [] h = refl
    by (x ∷ xs) h =
        ap (λ b. map move (cond b (x ∷ filter (λ r. touched r && order_differs r (move r)) xs) (filter (λ r. touched r && order_differs r (move r)) xs))) h.0
        ∙ by xs h.1

-- an order that the entry touches differs after it
abbrev pub moves_order : ℕ → Tables → Entry → OrderRow → Bool
moves_order m S e o = touches_order e S.authorizations o && order_differs o (restated_order m (authorizations_after S e m) (noted_order e m o))

-- an entry that moves no order changes the same without the orders
pub bare_changes : (m : ℕ) (S : Tables) (e : Entry) → EachOf (λ o. moves_order m S e o ≡ false) S.orders → changes m S e ≡ changes m (bare S) e
bare_changes m S e none = grind (arith, no_orders)

-- a new nonce changes the same without the orders
pub issued_bare : (m : ℕ) (S : Tables) (r : List ℕ) → all_changes m S (issued r ∷ []) ≡ all_changes m (bare S) (issued r ∷ [])
issued_bare m S r = ap (λ cs. cs ++ []) (bare_changes m S (issued r) (each_all _ S.orders (λ o.
    ap (λ b. b && order_differs o (restated_order m (authorizations_after S (issued r) m) (noted_order (issued r) m o)))
    (nothing_touched S.authorizations (numbers_of o.listed)))))

-- and so does a spent one before it
pub nonces_bare : (m : ℕ) (S : Tables) (n : ℕ) (r : List ℕ) → all_changes m S (spent n ∷ issued r ∷ []) ≡ all_changes m (bare S) (spent n ∷ issued r ∷ [])
nonces_bare m S n r =
    λ i. bare_changes m S (spent n) (each_all _ S.orders (λ o.
    ap (λ b. b && order_differs o (restated_order m (authorizations_after S (spent n) m) (noted_order (spent n) m o)))
    (nothing_touched S.authorizations (numbers_of o.listed)))) i ++ issued_bare m (effect m S (spent n)) r i

-- a part of tables without orders is closed
bare_closed : (k : Kept) (T : Tables) (m : ℕ) → IsOrdered T → IsClosed (open_kept k T) (swept m (bare T))
bare_closed k T m h = swept_closed (open_kept k T) (bare T) m (grown_closed k (bare T) (bare_ordered T h) tt)

-- so a part records the same of nonces
issued_open : (k : Kept) (T : Tables) (m : ℕ) (r : List ℕ) → IsOrdered T → CoversSweep k T m →
    recorded_changes m (restricted k T) (issued r ∷ []) ≡ recorded_changes m T (issued r ∷ [])
issued_open k T m r h covers =
    λ i. sweep_open k T m covers i ++ (same i ++ PutMeta (effects m (swept m T) (issued r ∷ [])).meta ∷ [])
  where
    same : all_changes m (swept m (restricted k T)) (issued r ∷ []) ≡ all_changes m (swept m T) (issued r ∷ [])
    same =
        issued_bare m (swept m (restricted k T)) r
        ∙ ap (λ P. all_changes m P (issued r ∷ [])) (swept_bare k T m h)
        ∙ all_changes_local (open_kept k T) m (swept m (bare T)) (issued r ∷ [])
        (bare_closed k T m h, covers_issued (open_kept k T) (swept m (bare T)) r, tt, tt)
        ∙ sym (issued_bare m (swept m T) r)

-- and of a spent one before it
nonces_open : (k : Kept) (T : Tables) (m : ℕ) (n : ℕ) (r : List ℕ) → IsOrdered T → CoversSweep k T m →
    recorded_changes m (restricted k T) (spent n ∷ issued r ∷ []) ≡ recorded_changes m T (spent n ∷ issued r ∷ [])
nonces_open k T m n r h covers =
    λ i. sweep_open k T m covers i ++ (same i ++ PutMeta (effects m (swept m T) (spent n ∷ issued r ∷ [])).meta ∷ [])
  where
    same : all_changes m (swept m (restricted k T)) (spent n ∷ issued r ∷ []) ≡ all_changes m (swept m T) (spent n ∷ issued r ∷ [])
    same =
        nonces_bare m (swept m (restricted k T)) n r
        ∙ ap (λ P. all_changes m P (spent n ∷ issued r ∷ [])) (swept_bare k T m h)
        ∙ all_changes_local (open_kept k T) m (swept m (bare T)) (spent n ∷ issued r ∷ [])
        (nonces_covered (open_kept k T) m (swept m (bare T)) n r [] (bare_closed k T m h) tt)
        ∙ sym (nonces_bare m (swept m T) n r)

-- ---- what is shown

-- a verdict that records nothing, and shows by the part what it shows by the whole
abbrev IsShown : Kept → Tables → Verdict → Type 0
IsShown k S (refused why subproblems) = Unit {0}
IsShown k S (key_taken account) = Unit {0}
IsShown k S (answers what) = reply_of (restricted k S) what ≡ reply_of S what
IsShown k S _ = ⊥

-- the list of an account's orders, and a certificate
account_way : (k : Kept) (S : Tables) (r : List ℕ) (x : AccountRow) (s : Signed) (t : Target) (v : Verdict) → target_needs_listed t ≡ false
    → KeepsNamed k S (sent s t) → EachOf (λ o. asks_orders (sent s t) ≡ true → (o.account == x.number) ≡ true → k.orders o.number ≡ true) S.orders
    → OfAccount S r x.number s.payload t v → IsShown k S v
account_way k S r x s t v e named owned (OfAccount.turned_away u why ss) = tt
account_way k S r x s t v e named owned (OfAccount.orders_listed j) = orders_shown k S x.number (each _ _ S.orders (λ o f h. f refl h) owned)
account_way k S r x s t v e named owned (OfAccount.certificate_read j o c found there) = certificate_shown k S j (named.order j (same_number j))
account_way k S r x s t v e named owned _ = cc

-- by each way of a signed request
request_way : (k : Kept) (S : Tables) (r : List ℕ) (s : Signed) (t : Target) (v : Verdict) → target_needs_listed t ≡ false → KeepsNamed k S (sent s t)
    → OfRequest S r s t v → IsShown k S v
request_way k S r s t v e named (OfRequest.unheld u why) = tt
request_way k S r s t v e named (OfRequest.opened key q is none asked pass) = cc
request_way k S r s t v e named (OfRequest.held u j key x is found valid way) =
    account_way k S r x s t v e named (each_found _ _ S.accounts x named.orders found (or_left _ _ (held_key S s t key x is found))) way

-- so its verdict is one
signed_shown : (k : Kept) (S : Tables) (r : List ℕ) (s : Signed) → target_needs_listed s.target ≡ false → KeepsNamed k S (ask.Signed s) →
    IsShown k S (signed_verdict S r s)
signed_shown k S r s e named = request_way k S r s s.target (signed_verdict S r s) e named (request_judged S r s)

-- ---- the request

-- such a verdict is carried out by the part as by the whole
carried_open : (k : Kept) (T : Tables) (m : ℕ) (v : Verdict) → IsOrdered T → CoversSweep k T m → IsShown k (swept m T) v → CarriesOutAs m T (restricted k T) v
carried_open k T m v h l g = grind (arith, carries_by, swept_open)

-- behind the nonces, too
records_open : (k : Kept) (T : Tables) (m : ℕ) (v : Verdict) → IsOrdered T → CoversSweep k T m → IsShown k (swept m T) v → (n : ℕ) (fresh : List ℕ) →
    recorded_changes m (restricted k T) (spent n ∷ issued fresh ∷ entries_of v) ≡ recorded_changes m T (spent n ∷ issued fresh ∷ entries_of v)
records_open k T m v h l g n fresh = grind (arith, nonces_open)

-- so the part answers the request as the whole
pub passes_open : (k : Kept) (T : Tables) (m : ℕ) (s : Signed) → IsOrdered T → target_needs_listed s.target ≡ false → CoversSweep k T m →
    KeepsNamed k T (ask.Signed s) → PassesAs m s T (restricted k T)
passes_open k T m s h e covers kept = search (rules, swept_names, swept_open, nonce_same, issued_open, signed_same, carried_open, signed_shown, records_open)
