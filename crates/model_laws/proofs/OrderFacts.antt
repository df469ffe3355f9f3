-- What an entry, and the passing of time, does to the row of an order.
use Rattle.std.proofs.Common.{◌≡◌, ◌≤◌, ℕ, ◌+◌, List, [], ◌∷◌, length, map, Some, refl, sym, ap, ◌∙◌, true, false, Bool, cond, arith}
use Rattle.std.proofs.{lemmas.Bool.or_parts, lemmas.List.Folds.list_all-map}
use Rattle.std.specs.Prelude.{nat_lt, ◌==◌, ◌&&◌, ◌||◌, is_some, IsSome}
use Rattle.std.specs.{List.list_any, List.list_all, Option.option_map}
use Rattle.desk_model.specs.Authorization.{authorizations, authorization, made_by, made_for, count_challenges, authorization_status, is_over, is_valid}
use Rattle.desk_model.specs.Order.{orders, ordered_by, order_status, order_status_by, has_lost, all_valid, authorizations_at, listed_by}
use Rattle.desk_model.specs.Derived.{stored_statuses, and_status, authorization_numbered, numbers_of, restated_order}
use Rattle.desk_model.specs.Effect.{noted_order, touches_authorization, names_order, touches_order, moved_order, is_overdue, is_live_order, falls, swept_order}
use Rattle.desk_model.specs.Effect.{lists_one}
use Rattle.desk_model.specs.{Entry.History, declared.status.AuthzStatus.AuthzStatus, declared.entry.Wanted.Wanted, declared.entry.Wanted.TheVariants.New as new}
use Rattle.desk_model.specs.{Lookup.holds, Kept.EachOf, History.clock, History.terms, Legal.may_follow, Legal.may_serve, Legal.may_want, Tables.order_row}
use Rattle.desk_model.specs.{Legal.EachFollows, Tables.listed_from, declared.entry.Dated.Dated, declared.entry.Entry.Entry, declared.objects.Order.Order}
use Rattle.desk_model.specs.{Tables.authorization_row, declared.entry.Entry.TheVariants.Ordered as ordered, declared.entry.Wanted.TheVariants.Reused as reused}
use Rattle.desk_model.specs.{declared.objects.Authorization.Authorization, declared.rows.AuthorizationRow.AuthorizationRow, declared.rows.OrderRow.OrderRow}
use Rattle.model_laws.proofs.Basics.{list_any-map, list_any-same, any_or, each, each-append, each_after, map-each, find-map, find-append, still_some, there}
use Rattle.model_laws.proofs.Basics.{IsNumbered, numbered-append}
use Rattle.model_laws.proofs.{RowFacts.authorization_kept, RowFacts.authorization_later, RowFacts.past_later, OrderDates.order_unnoted}
use Rattle.model_laws.proofs.{NewOrders.may_be_ordered, NewOrders.of_reused, NewOrders.reused_pass, RowLists.ascends_found, RowLists.numbered_ascends}
use Rattle.model_laws.specs.{Ordered.Ascends, Reused.OfReused}
use Rattle.desk_model.specs.declared.status.AuthzStatus.TheVariants as authz
use Rattle.desk_model.specs.declared.status.OrderStatus.TheVariants as order

-- ---- the authorizations of an order are found by their numbers

-- an authorization has the number
abbrev pub IsFound : History → ℕ → Type 0
IsFound F n = IsSome (authorization n F)

-- each number that the order lists is that of an authorization
abbrev pub AreFound : History → Order → Type 0
AreFound F o = EachOf (IsFound F) o.authorizations

-- new authorizations count up
made_for_numbered : (account date expires : ℕ) (ws : List Wanted) (n c : ℕ) → IsNumbered (λ a. a.number) n (made_for account date expires ws n c)
made_for_numbered account date expires [] n c = tt
made_for_numbered account date expires (new name tokens ∷ ws) n c = (refl, made_for_numbered account date expires ws (n + 1) _)
made_for_numbered account date expires (reused name k ∷ ws) n c = made_for_numbered account date expires ws n c

-- those of an entry count up
pub made_by_numbered : (e : Entry) (date life n c : ℕ) → IsNumbered (λ a. a.number) n (made_by e date life n c)
made_by_numbered e date life n c = grind (arith, made_for_numbered)

-- numbers of authorizations count up from 1
pub authorizations_numbered : (F : History) → IsNumbered (λ a. a.number) 1 (authorizations F)
authorizations_numbered [] = tt
authorizations_numbered (e ∷ F) = grind (arith, numbered-append, made_by_numbered, (authorizations_numbered F))

-- each authorization is found by its number
pub all_found : (F : History) → EachOf (λ a. authorization a.number F ≡ Some a) (authorizations F)
all_found F = ascends_found (λ a. a.number) 1 (authorizations F) (numbered_ascends (λ a. a.number) 1 (authorizations F) (authorizations_numbered F))

-- what is found stays found
pub found_later : (F : History) (e : Dated) (n : ℕ) → IsFound F n → IsFound (e ∷ F) n
found_later F e n h = grind (arith, still_some)

-- what holds of the numbers of those that are made, and of those that are used again, holds of all that an order lists
pub each_listed : (P : ℕ → Type 0) (account date expires : ℕ) (ws : List Wanted) (n c : ℕ) →
    EachOf (λ a. P a.number) (made_for account date expires ws n c) → EachOf (OfReused P) ws → EachOf P (listed_by ws n)
each_listed P account date expires [] n c h k = tt
each_listed P account date expires (new name tokens ∷ ws) n c h k = (h.0, each_listed P account date expires ws (n + 1) _ h.1 k.1)
each_listed P account date expires (reused name j ∷ ws) n c h k = (k.0, each_listed P account date expires ws n c h k.1)

-- the authorizations that an order uses again are there
pub reused_found : (F : History) (m account : ℕ) (ws : List Wanted) → may_follow F (ordered account ws) m ≡ true → EachOf (OfReused (IsFound F)) ws
reused_found F m account ws may =
    reused_pass (IsFound F) (may_want F m account) (λ name k p. there (may_serve F m account name (m + (terms F).order_life)) (authorization k F) p) ws
    (may_be_ordered F m account ws may).reused

-- the numbers that each order lists are found
pub listed_found : (F : History) → EachFollows F → EachOf (AreFound F) (orders F)
listed_found [] h = tt
listed_found (e ∷ F) h =
    each-append (AreFound (e ∷ F)) (orders F) _
    (each (AreFound F) (AreFound (e ∷ F)) (orders F) (λ o. each (IsFound F) (IsFound (e ∷ F)) o.authorizations (found_later F e))
    (listed_found F h.1))
    (now e.entry h.0.allowed
    (each (λ a. authorization a.number (e ∷ F) ≡ Some a) (λ a. IsFound (e ∷ F) a.number) _ (λ a k. ap is_some k)
    (each_after (λ a. authorization a.number (e ∷ F) ≡ Some a) (authorizations F) _ (all_found (e ∷ F)))))
  where
    now : (entry : Entry) → may_follow F entry e.date ≡ true →
        EachOf (λ a. IsFound (e ∷ F) a.number)
        (made_by entry e.date (terms F).authz_life (length (authorizations F) + 1) (count_challenges (authorizations F) + 1)) →
        EachOf (AreFound (e ∷ F)) (ordered_by entry e.date (terms F) (length (authorizations F) + 1) (length (orders F) + 1))
    now (ordered account ws) may h =
        let again = each _ _ ws (of_reused _ _ (found_later F e)) (reused_found F e.date account ws may) in
        (each_listed (IsFound (e ∷ F)) account e.date _ ws (length (authorizations F) + 1) _ h again, tt)
    now _ may h = tt

-- places count up
pub places_ascend : (place : ℕ) (ns : List ℕ) → Ascends (λ l. l.place) place (listed_from place ns)
places_ascend place [] = tt
places_ascend place (n ∷ ns) = (omega arith, places_ascend (place + 1) ns)

-- the numbers of authorizations in their places are these numbers
pub numbers_listed : (place : ℕ) (ns : List ℕ) → numbers_of (listed_from place ns) ≡ ns
numbers_listed place [] = refl
numbers_listed place (n ∷ ns) = ap (λ rest. n ∷ rest) (numbers_listed (place + 1) ns)

-- ---- look-ups in the rows

-- the row of the authorization of this number
numbered_row : (F : History) (t n : ℕ) →
    authorization_numbered n (map (authorization_row F t) (authorizations F)) ≡ option_map (authorization_row F t) (authorization n F)
numbered_row F t n = find-map (λ r. r.number == n) (authorization_row F t) (authorizations F)

-- the statuses of these authorizations
abbrev statuses_of : History → ℕ → List Authorization → List AuthzStatus
statuses_of F t xs = map (λ a. authorization_status a F t) xs

-- the stored statuses are those that the history gives
stored : (F : History) (t : ℕ) (ns : List ℕ) → stored_statuses (map (authorization_row F t) (authorizations F)) ns ≡ statuses_of F t (authorizations_at ns F)
stored F t [] = refl
stored F t (n ∷ ns) = (λ i. and_status (numbered_row F t n i) (stored F t ns i)) ∙ grind arith

-- also those of what an order lists
stored_listed : (F : History) (t : ℕ) (o : Order) →
    stored_statuses (map (authorization_row F t) (authorizations F)) (numbers_of (listed_from 1 o.authorizations))
    ≡ statuses_of F t (authorizations_at o.authorizations F)
stored_listed F t o = ap (stored_statuses (map (authorization_row F t) (authorizations F))) (numbers_listed 1 o.authorizations) ∙ stored F t o.authorizations

-- equal statuses of what it lists give an order the same status
pub restated_alike : (m : ℕ) (rows others : List AuthorizationRow) (row : OrderRow) →
    stored_statuses rows (numbers_of row.listed) ≡ stored_statuses others (numbers_of row.listed) → restated_order m rows row ≡ restated_order m others row
restated_alike m rows others row same = rw same

-- the status that a history gives is the one that the row ought to have
pub order_stated : (F : History) (t u : ℕ) (o : Order) → order_row F t o ≡ restated_order t (map (authorization_row F t) (authorizations F)) (order_row F u o)
order_stated F t u o = rw (stored_listed F t o, list_any-map is_over, list_all-map is_valid)

-- ---- an entry

-- the row of an order after an entry, in general
pub order_noted : (F : History) (e : Entry) (m t : ℕ) (o : Order) →
    (let G : History = record { date = m; entry = e } ∷ F in order_row G m o
    ≡ restated_order m (map (authorization_row G m) (authorizations G)) (noted_order e m (order_row F t o)))
order_noted F e m t o = order_stated (record { date = m; entry = e } ∷ F) m m o

-- a test of the listed rows is one of the authorizations
none_listed : (F : History) (t p : ℕ) (test : AuthorizationRow → Bool) (ns : List ℕ) →
    lists_one test (map (authorization_row F t) (authorizations F)) (numbers_of (listed_from p ns))
    ≡ list_any (λ a. test (authorization_row F t a)) (authorizations_at ns F)
none_listed F t p test [] = refl
none_listed F t p test (n ∷ ns) = (λ i. holds test (numbered_row F t n i) || none_listed F t (p + 1) test ns i) ∙ grind arith

-- the authorizations of an order stay what they are
at_later : (F : History) (e : Dated) (ns : List ℕ) → EachOf (IsFound F) ns → authorizations_at ns (e ∷ F) ≡ authorizations_at ns F
at_later F e [] h = refl
at_later F e (n ∷ ns) h = grind (arith, find-append, (at_later F e ns h.1))

-- where no item passes, each fails
each_not : {X : Type 0} (p : X → Bool) (xs : List X) → list_any p xs ≡ false → EachOf (λ x. p x ≡ false) xs
each_not p [] h = tt
each_not p (x ∷ xs) h = let k = or_parts (p x) _ h in (k.0, each_not p xs k.1)

-- an order that the entry does not touch keeps its row
pub order_untouched : (F : History) (e : Entry) (m : ℕ) (o : Order) → EachFollows (record { date = m; entry = e } ∷ F) → clock F ≤ m → AreFound F o →
    touches_order e (map (authorization_row F m) (authorizations F)) (order_row F m o) ≡ false → order_row (record { date = m; entry = e } ∷ F) m o
    ≡ order_row F m o
order_untouched F e m o each_follows le found h =
    let G : History = record { date = m; entry = e } ∷ F in
    let parts = or_parts (names_order e o.number) _ h in
    let listed : List Authorization = authorizations_at o.authorizations F in
    let others : EachOf (λ a. touches_authorization e (authorization_row F m a) ≡ false) listed =
    each_not _ listed (sym (none_listed F m 1 (touches_authorization e) o.authorizations) ∙ parts.1) in
    let same : statuses_of G m (authorizations_at o.authorizations G) ≡ statuses_of F m listed =
    ap (statuses_of G m) (at_later F (record { date = m; entry = e }) o.authorizations found)
    ∙ map-each (λ a. authorization_status a G m) (λ a. authorization_status a F m) listed
    (each _ _ listed (λ a k. ap (λ (r : AuthorizationRow). r.status) (authorization_kept F e m a each_follows le k)) others) in
    order_noted F e m m o
    ∙ ap (restated_order m (map (authorization_row G m) (authorizations G))) (order_unnoted e m (order_row F m o) parts.0)
    ∙ restated_alike m _ _ (order_row F m o) (stored_listed G m o ∙ same ∙ sym (stored_listed F m o))
    ∙ sym (order_stated F m m o)

-- the row of an order after an entry
pub order_moves : (F : History) (e : Entry) (m : ℕ) (o : Order) → EachFollows (record { date = m; entry = e } ∷ F) → clock F ≤ m → AreFound F o →
    (let G : History = record { date = m; entry = e } ∷ F in
    order_row G m o ≡ moved_order e m (map (authorization_row F m) (authorizations F)) (map (authorization_row G m) (authorizations G))
    (order_row F m o))
order_moves F e m o each_follows le found = grind (arith, (order_noted F e m m o), (order_untouched F e m o each_follows le found))

-- ---- the passing of time

-- an authorization that is over stays so; another is over at the later moment exactly where it is overdue
over_later : (F : History) (t m : ℕ) (a : Authorization) → t ≤ m →
    is_over (authorization_status a F m) ≡ (is_over (authorization_status a F t) || is_overdue m (authorization_row F t a))
over_later F t m a le = grind arith

-- an order has lost one at the later moment where it had before, or one is overdue
lost_later : (F : History) (t m : ℕ) (o : Order) → t ≤ m →
    has_lost o F m ≡ (has_lost o F t || list_any (λ a. is_overdue m (authorization_row F t a)) (authorizations_at o.authorizations F))
lost_later F t m o le =
    let listed : List Authorization = authorizations_at o.authorizations F in
    list_any-same (λ a. is_over (authorization_status a F m))
    (λ a. is_over (authorization_status a F t) || is_overdue m (authorization_row F t a)) listed (λ a. over_later F t m a le)
    ∙ any_or (λ a. is_over (authorization_status a F t)) (λ a. is_overdue m (authorization_row F t a)) listed

-- tests that agree on each item
all_same : {X : Type 0} (p q : X → Bool) (xs : List X) → EachOf (λ x. p x ≡ q x) xs → list_all p xs ≡ list_all q xs
all_same p q [] h = refl
all_same p q (x ∷ xs) h = λ i. h.0 i && all_same p q xs h.1 i

-- none is overdue: as many are valid
valid_later : (F : History) (t m : ℕ) (o : Order) → t ≤ m →
    list_any (λ a. is_overdue m (authorization_row F t a)) (authorizations_at o.authorizations F) ≡ false →
    all_valid o F m ≡ all_valid o F t
valid_later F t m o le h =
    let listed : List Authorization = authorizations_at o.authorizations F in
    all_same (λ a. is_valid (authorization_status a F m)) (λ a. is_valid (authorization_status a F t)) listed
    (each _ _ listed (λ a k. ap is_valid (authorization_later F t m a le ∙ ap (λ b. cond b authz.Expired (authorization_status a F t)) k))
    (each_not _ listed h))

-- an order's status at a later moment, case by case
order_status_later : (c f x y z v w l d : Bool) → (x ≡ true → y ≡ true) → (d ≡ false → w ≡ v) →
    order_status_by c (f || (y || (l || d))) z w
    ≡ cond (is_live_order (order_status_by c (f || (x || l)) z v) && (y || d)) order.Invalid (order_status_by c (f || (x || l)) z v)
order_status_later c f x y z v w l d h k = grind arith

-- an order's status at a later moment
pub order_later : (F : History) (t m : ℕ) (o : Order) → t ≤ m →
    order_status o F m ≡ cond (falls m (map (authorization_row F t) (authorizations F)) (order_row F t o)) order.Invalid (order_status o F t)
order_later F t m o le =
    rw (lost_later F t m o le, none_listed F t 1 (is_overdue m) o.authorizations)
    (order_status_later _ _ (nat_lt o.expires t) (nat_lt o.expires m) _ (all_valid o F t) (all_valid o F m) (has_lost o F t) _
    (past_later o.expires t m le) (valid_later F t m o le))

-- an order's row at a later moment
pub order_swept : (F : History) (t m : ℕ) (o : Order) → t ≤ m →
    order_row F m o ≡ swept_order m (map (authorization_row F t) (authorizations F)) (order_row F t o)
order_swept F t m o le = (λ i. record (order_row F t o) { status = order_later F t m o le i }) ∙ grind arith
