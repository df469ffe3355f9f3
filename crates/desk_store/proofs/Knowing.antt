-- What is known of tables, and how it follows their changes.
use Rattle.std.proofs.Common.{◌≡◌, ◌≢◌, ◌≤◌, ℕ, zero, suc, Bool, true, false, List, [], ◌∷◌, map, filter, cond, Option, None, Some, inl, inr, refl, sym, ap}
use Rattle.std.proofs.Common.{subst, ◌∙◌, arith}
use Rattle.std.proofs.{lemmas.Bool.eq-eqb, lemmas.Bool.le-ltb, lemmas.Bool.Decides.nat_tests, lemmas.List.get_or-set_other}
use Rattle.std.specs.Prelude.{◌==◌, ◌&&◌, IfSome, IsTrue, if◌then◌else◌, nat_le, nat_lt, replicate, slice_index, slice_set}
use Rattle.model_laws.proofs.{Basics.each, Basics.each_all, Basics.each_both, Basics.each_of_map, Keeps.each-filter}
use Rattle.desk_model.specs.{Change.applied, Change.applied_one, Change.put, Derived.authz_code, Derived.order_code, Kept.EachOf, Tables.Tables}
use Rattle.desk_model.specs.declared.{objects.Nonce.Nonce, rows.AuthorizationRow.AuthorizationRow, rows.Change.Change, rows.Meta.Meta, rows.OrderRow.OrderRow}
use Rattle.desk_model.specs.declared.{status.AuthzStatus.AuthzStatus, status.OrderStatus.OrderStatus, rows.Change.TheVariants.PutNonce}
use Rattle.desk_model.specs.declared.{rows.Change.TheVariants.RemoveNonce, rows.Change.TheVariants.PutAuthorization, rows.Change.TheVariants.PutOrder}
use Rattle.model_laws.specs.Ordered.{Ascends}
use Rattle.model_parts.proofs.Lists.{each_filtered}
use Rattle.model_parts.specs.LookUps.{authorizations_past, nonces_before, nonces_numbered, orders_past}
use Rattle.sql_tables.proofs.{Keyed.ranked, Sorting.each_put}
use Rattle.sql_read.specs.Earliest.{IsEarliest, authorization_ends, issues, order_ends}
use Rattle.desk_store.specs.Known.{EndFrom, IsKnownOf, bound_of, earlier, known_nonce, lowered, nonce_place, nothing, without}
use Rattle.desk_store.specs.declared.known.Known.{Known}
use Rattle.desk_store.proofs.KnownNonces.{none_there, nonce_there, nonces_left, nonces_put, same_everywhere}
use Rattle.store_api.proofs.Lacking.{rows_one}

-- ---- nothing

-- where zeros stand none ends before them
zeros_from : {X : Type 0} (code end : X → ℕ) (ends : List ℕ) → ((x : X) → slice_index ends (code x) ≡ 0) → (xs : List X) → EndFrom code end ends xs
zeros_from code end ends zeros xs = each_all (λ x. slice_index ends (code x) ≤ end x) xs (λ x. let none = zeros x in omega (arith, none))

-- where nothing is known, it is so of any tables
pub nothing_known : (T : Tables) → IsKnownOf nothing T
nothing_known T = record {
  meta = tt;
  nonces = none_there T.nonces;
  issues = each_all (λ (n : Nonce). 0 ≤ n.issued) T.nonces (λ n. omega arith);
  orders = zeros_from _ _ (replicate 5 0) (λ (o : OrderRow). same_everywhere 5 (order_code o.status) 0) T.orders;
  authorizations = zeros_from _ _ (replicate 6 0) (λ (r : AuthorizationRow). same_everywhere 6 (authz_code r.status) 0) T.authorizations;
}

-- ---- moments in their places

-- one that is set stands there, where there is a place
set_at : (ends : List ℕ) (place m : ℕ) → slice_index (slice_set ends place m) place ≤ m
set_at [] place m = omega arith
set_at (e ∷ ends) zero m = omega arith
set_at (e ∷ ends) (suc place) m = set_at ends place m

-- the earlier one is no later than the first
earlier_first : (m n : ℕ) → earlier m n ≤ m
earlier_first m n = by (nat_le m n) refl
  where
    by : (b : Bool) → nat_le m n ≡ b → (if b then m else n) ≤ m
    by true is = omega arith
    by false is = grind (arith, nat_tests)

-- nor than the second
earlier_second : (m n : ℕ) → earlier m n ≤ n
earlier_second m n = by (nat_le m n) refl
  where
    by : (b : Bool) → nat_le m n ≡ b → (if b then m else n) ≤ n
    by true is = grind (arith, nat_tests)
    by false is = omega arith

-- none is raised
lowered_below : (ends : List ℕ) (place end n : ℕ) → slice_index (lowered ends place end) n ≤ slice_index ends n
lowered_below ends place end n =
    let low = earlier (slice_index ends place) end in
    let other : n ≢ place → slice_index (lowered ends place end) n ≤ slice_index ends n =
    (λ apart. let same = get_or-set_other ends place n low 0 apart in omega (arith, same)) in
    elim (ranked n place) [
      | inl less ↦ other (λ same. let l = less.low in omega (arith, same, l))
      | inr (inl tied) ↦ subst (λ k. slice_index (lowered ends place end) k ≤ slice_index ends k) (sym tied.same)
          (let at = set_at ends place low in let first = earlier_first (slice_index ends place) end in omega (arith, at, first))
      | inr (inr more) ↦ other (λ same. let h = more.high in omega (arith, same, h))
    ]

-- so a row that is put has its end no earlier than what then stands under its status
put_ends : {X : Type 0} (key code end : X → ℕ) (ends : List ℕ) (x : X) (xs : List X) → EndFrom code end ends xs
    → EndFrom code end (lowered ends (code x) (end x)) (put key x xs)
put_ends {X} key code end ends x xs h =
    let after = lowered ends (code x) (end x) in
    each_put key (λ (y : X). slice_index after (code y) ≤ end y) x xs
    (let at = set_at ends (code x) (earlier (slice_index ends (code x)) (end x)) in
    let second = earlier_second (slice_index ends (code x)) (end x) in omega (arith, at, second))
    (each _ _ xs (λ y low. let less = lowered_below ends (code x) (end x) (code y) in omega (arith, less, low)) h)

-- ---- after a change

-- a nonce
pub nonce_followed : (old new : Known) (x : Nonce)
    → new ≡ record old { first_issue = earlier old.first_issue x.issued; nonces = slice_set old.nonces (nonce_place x.serial) (Some x) } → (T : Tables)
    → IsKnownOf old T → IsKnownOf new (applied_one (PutNonce x) T)
nonce_followed old new x is T known =
    subst (λ k. IsKnownOf k (applied_one (PutNonce x) T)) (sym is)
    (record {
      meta = known.meta;
      nonces = nonces_put old.nonces x T.nonces known.nonces;
      issues = each_put (λ n. n.serial) (λ n. earlier old.first_issue x.issued ≤ n.issued) x T.nonces (earlier_second old.first_issue x.issued)
          (each _ _ T.nonces (λ n low. let first = earlier_first old.first_issue x.issued in omega (arith, first, low)) known.issues);
      orders = known.orders;
      authorizations = known.authorizations;
    })

-- a nonce that is gone
pub removal_followed : (old new : Known) (n : ℕ) → new ≡ record old { nonces = without old.nonces n } → (T : Tables) → IsKnownOf old T
    → IsKnownOf new (applied_one (RemoveNonce n) T)
removal_followed old new n is T known =
    subst (λ k. IsKnownOf k (applied_one (RemoveNonce n) T)) (sym is)
    (record {
      meta = known.meta;
      nonces = nonces_left old.nonces n T.nonces known.nonces;
      issues = each-filter _ _ T.nonces known.issues;
      orders = known.orders;
      authorizations = known.authorizations;
    })

-- an authorization
pub authorization_followed : (old : Known) (ends : List ℕ) (place : ℕ) (x : AuthorizationRow) → place ≡ authz_code x.status
    → ends ≡ lowered old.authorization_ends place x.expires → (T : Tables) → IsKnownOf old T
    → IsKnownOf (record old { authorization_ends = ends }) (applied_one (PutAuthorization x) T)
authorization_followed old ends place x at is T known = record {
  meta = known.meta;
  nonces = known.nonces;
  issues = known.issues;
  orders = known.orders;
  authorizations = subst (λ es. EndFrom (λ (r : AuthorizationRow). authz_code r.status) (λ r. r.expires) es (put (λ r. r.number) x T.authorizations))
      (sym (is ∙ ap (λ n. lowered old.authorization_ends n x.expires) at))
      (put_ends (λ r. r.number) (λ r. authz_code r.status) (λ r. r.expires) old.authorization_ends x T.authorizations known.authorizations);
}

-- an order
pub order_followed : (old : Known) (ends : List ℕ) (place : ℕ) (x : OrderRow) → place ≡ order_code x.status
    → ends ≡ lowered old.order_ends place x.expires → (T : Tables) → IsKnownOf old T
    → IsKnownOf (record old { order_ends = ends }) (applied_one (PutOrder x) T)
order_followed old ends place x at is T known = record {
  meta = known.meta;
  nonces = known.nonces;
  issues = known.issues;
  orders = subst (λ es. EndFrom (λ (o : OrderRow). order_code o.status) (λ o. o.expires) es (put (λ o. o.number) x T.orders))
      (sym (is ∙ ap (λ n. lowered old.order_ends n x.expires) at))
      (put_ends (λ o. o.number) (λ o. order_code o.status) (λ o. o.expires) old.order_ends x T.orders known.orders);
  authorizations = known.authorizations;
}

-- a change that is another
pub followed_as : (known : Known) (c d : Change) (T : Tables) → c ≡ d → IsKnownOf known (applied_one d T) → IsKnownOf known (applied_one c T)
followed_as known c d T same is = subst (λ change. IsKnownOf known (applied_one change T)) (sym same) is

-- what is left of changes, from tables of which it is known
abbrev pub Follows : Known → List Change → Tables → Type 0
Follows known left W = (U : Tables) × IsKnownOf known U × (applied left U ≡ W)

-- one more was followed
pub followed_one : (old new : Known) (c d : Change) (before rest : List Change) (W : Tables) → before ≡ d ∷ rest → d ≡ c
    → ((T : Tables) → IsKnownOf old T → IsKnownOf new (applied_one c T)) → Follows old before W → Follows new rest W
followed_one old new c d before rest W next is one (U, known, same) =
    (applied_one c U, one U known, sym (ap (λ cs. applied cs U) (next ∙ ap (λ x. x ∷ rest) is)) ∙ same)

-- all of them were followed
pub followed_all : (known : Known) (left : List Change) (W : Tables) → left ≡ [] → Follows known left W → IsKnownOf known W
followed_all known left W none (U, is, same) = subst (IsKnownOf known) (sym (ap (λ cs. applied cs U) none) ∙ same) is

-- ---- what was found

-- nothing is made of nothing alone
none_mapped : {X : Type 0} (P : X → Type 0) (f : X → ℕ) (xs : List X) → map f xs ≡ [] → EachOf P xs
none_mapped P f [] none = tt
none_mapped P f (x ∷ xs) none = absurd (let e = none in cc)

-- each ends at the earliest or later
found_ends : {X : Type 0} (end : X → ℕ) (found : Option ℕ) (xs : List X) → IsEarliest (map end xs) found → EachOf (λ x. bound_of found ≤ end x) xs
found_ends end None xs none = none_mapped _ end xs none
found_ends end (Some m) xs earliest = each_of_map (λ n. m ≤ n) end xs earliest.1

-- so what is set under a status is so
learned_ends : {X : Type 0} (code end : X → ℕ) (ends : List ℕ) (place : ℕ) (found : Option ℕ) (xs : List X)
    → IsEarliest (map end (filter (λ x. code x == place) xs)) found → EndFrom code end ends xs
    → EndFrom code end (slice_set ends place (bound_of found)) xs
learned_ends {X} code end ends place found xs earliest h =
    let m = bound_of found in
    each _ _ xs (λ (x : X) both. one x both.0 both.1)
    (each_both _ _ xs h (each_filtered (λ x. m ≤ end x) (λ x. code x == place) xs (found_ends end found (filter (λ x. code x == place) xs) earliest)))
  where
    one : (x : X) → slice_index ends (code x) ≤ end x → ((code x == place) ≡ true → bound_of found ≤ end x)
        → slice_index (slice_set ends place (bound_of found)) (code x) ≤ end x
    one x was from =
        let other : code x ≢ place → slice_index (slice_set ends place (bound_of found)) (code x) ≤ end x =
        (λ apart. let same = get_or-set_other ends place (code x) (bound_of found) 0 apart in omega (arith, same, was)) in
        elim (ranked (code x) place) [
          | inl less ↦ other (λ same. let l = less.low in omega (arith, same, l))
          | inr (inl tied) ↦
              let low = from (eq-eqb (code x) place tied.same) in
              let at = subst (λ k. slice_index (slice_set ends place (bound_of found)) k ≤ bound_of found) (sym tied.same)
              (set_at ends place (bound_of found)) in
              omega (arith, low, at)
          | inr (inr more) ↦ other (λ same. let h = more.high in omega (arith, same, h))
        ]

-- the desk's own row
pub meta_learned : (old new : Known) (x : Meta) → IfSome new.meta (λ meta. meta ≡ x) → new ≡ record old { meta = new.meta } → (T : Tables) → x ≡ T.meta
    → IsKnownOf old T → IsKnownOf new T
meta_learned old new x noted rest T is known =
    subst (λ k. IsKnownOf k T) (sym rest)
    (record {
      meta = subst (λ m. IfSome new.meta (λ meta. meta ≡ m)) is noted;
      nonces = known.nonces;
      issues = known.issues;
      orders = known.orders;
      authorizations = known.authorizations;
    })

-- when the earliest nonce was issued
pub issue_learned : (old new : Known) (found : Option ℕ) → new ≡ record old { first_issue = bound_of found } → (T : Tables) → IsEarliest (issues T) found
    → IsKnownOf old T → IsKnownOf new T
issue_learned old new found rest T earliest known =
    subst (λ k. IsKnownOf k T) (sym rest)
    (record {
      meta = known.meta;
      nonces = known.nonces;
      issues = found_ends (λ n. n.issued) found T.nonces earliest;
      orders = known.orders;
      authorizations = known.authorizations;
    })

-- when the earliest order of a status ends
pub order_end_learned : (old new : Known) (s : OrderStatus) (found : Option ℕ)
    → new ≡ record old { order_ends = slice_set old.order_ends (order_code s) (bound_of found) } → (T : Tables) → IsEarliest (order_ends T s) found
    → IsKnownOf old T → IsKnownOf new T
order_end_learned old new s found rest T earliest known =
    subst (λ k. IsKnownOf k T) (sym rest)
    (record {
      meta = known.meta;
      nonces = known.nonces;
      issues = known.issues;
      orders = learned_ends (λ o. order_code o.status) (λ o. o.expires) old.order_ends (order_code s) found T.orders earliest known.orders;
      authorizations = known.authorizations;
    })

-- when the earliest authorization of a status ends
pub authorization_end_learned : (old new : Known) (s : AuthzStatus) (found : Option ℕ)
    → new ≡ record old { authorization_ends = slice_set old.authorization_ends (authz_code s) (bound_of found) } → (T : Tables)
    → IsEarliest (authorization_ends T s) found → IsKnownOf old T → IsKnownOf new T
authorization_end_learned old new s found rest T earliest known =
    subst (λ k. IsKnownOf k T) (sym rest)
    (record {
      meta = known.meta;
      nonces = known.nonces;
      issues = known.issues;
      orders = known.orders;
      authorizations = learned_ends (λ r. authz_code r.status) (λ r. r.expires) old.authorization_ends (authz_code s) found T.authorizations earliest
          known.authorizations;
    })

-- ---- what is not there

-- where none passes
filter_none : {X : Type 0} (test : X → Bool) (xs : List X) → EachOf (λ x. test x ≡ false) xs → filter test xs ≡ []
filter_none test [] h = refl
filter_none test (x ∷ xs) h = (λ i. cond (h.0 i) (x ∷ filter test xs) (filter test xs)) ∙ filter_none test xs h.1

-- none of a status is past
none_past : {X : Type 0} (code end : X → ℕ) (ends : List ℕ) (place m : ℕ) (xs : List X) → EndFrom code end ends xs → m ≤ slice_index ends place
    → filter (λ x. (code x == place) && nat_lt (end x) m) xs ≡ []
none_past {X} code end ends place m xs h late =
    filter_none (λ x. (code x == place) && nat_lt (end x) m) xs (each _ _ xs (λ x low. one x low (code x == place) refl) h)
  where
    one : (x : X) → slice_index ends (code x) ≤ end x → (b : Bool) → (code x == place) ≡ b → (b && nat_lt (end x) m) ≡ false
    one x low true is =
        let same : code x ≡ place = grind (arith, nat_tests) in
        let from = subst (λ n. slice_index ends n ≤ end x) same low in
        le-ltb (end x) m (omega (arith, from, late))
    one x low false is = refl

-- the nonce that is known is the one of its serial
pub serial_found : (known : Known) (T : Tables) (n : ℕ) (x : Nonce) → IsKnownOf known T → Ascends (λ y. y.serial) 1 T.nonces
    → known_nonce known.nonces n ≡ Some x → nonces_numbered T n ≡ x ∷ []
serial_found known T n x is ascends here = rows_one (λ y. y.serial) 1 n x T.nonces ascends (nonce_there known.nonces T.nonces n x is.nonces here)

-- no nonce was issued before
pub no_nonces_before : (known : Known) (T : Tables) (m first : ℕ) → IsKnownOf known T → first ≡ known.first_issue → m ≤ first → nonces_before T m ≡ []
no_nonces_before known T m first is here late =
    filter_none (λ n. nat_lt n.issued m) T.nonces (each _ _ T.nonces (λ n low. le-ltb n.issued m (omega (arith, here, low, late))) is.issues)

-- no order of a status is past
pub no_orders_past : (known : Known) (T : Tables) (s : OrderStatus) (m end : ℕ) → IsKnownOf known T → end ≡ slice_index known.order_ends (order_code s)
    → m ≤ end → orders_past T s m ≡ []
no_orders_past known T s m end is here late =
    none_past (λ o. order_code o.status) (λ o. o.expires) known.order_ends (order_code s) m T.orders is.orders (omega (arith, here, late))

-- no authorization of a status is past
pub no_authorizations_past : (known : Known) (T : Tables) (s : AuthzStatus) (m end : ℕ) → IsKnownOf known T
    → end ≡ slice_index known.authorization_ends (authz_code s) → m ≤ end → authorizations_past T s m ≡ []
no_authorizations_past known T s m end is here late =
    none_past (λ r. authz_code r.status) (λ r. r.expires) known.authorization_ends (authz_code s) m T.authorizations is.authorizations
    (omega (arith, here, late))

-- a moment that a test found early enough
pub not_late : (m n : ℕ) → IsTrue (nat_le m n) → m ≤ n
not_late m n early = grind (arith, nat_tests)
