-- Rows under their owners: each owner's rows are its own, and so are their numbers.
use Rattle.std.proofs.Common.{◌≡◌, ℕ, ◌+◌, ◌<◌, Bool, true, false, cond, List, [], ◌∷◌, ◌++◌, map, filter, refl, sym, ap, subst, ◌∙◌, arith, append-nil, rules}
use Rattle.std.proofs.{lemmas.Bool.eqb-true, lemmas.List.Elements.filter-append, lemmas.List.map-append, lemmas.Simd.map-map}
use Rattle.sqlite_trees.proofs.ListLemmas.{filter-map}
use Rattle.std.specs.{Prelude.◌==◌, List.flat_map}
use Rattle.store_columns.specs.{Flat.challenge_rows, Flat.listed_rows, Flat.owned_by, declared.columns.Owned.Owned}
use Rattle.model_laws.proofs.{Basics.each, Basics.each_both, Basics.less_differs, Basics.more_differs, RowLists.ascends_above, RowLists.ascends_map}
use Rattle.model_laws.specs.Ordered.{Ascends}
use Rattle.desk_model.specs.{Kept.EachOf, Tables.Tables}
use Rattle.desk_model.specs.declared.rows.{AuthorizationRow.AuthorizationRow, ChallengeRow.ChallengeRow, Listed.Listed, OrderRow.OrderRow}
use Rattle.model_parts.specs.LookUps.{challenges, orders_listing, owners_of, places}
use Rattle.sql_tables.specs.Layouts.{challenge_layout}
use Rattle.store_book.specs.Nesting.{child_rows}
use Rattle.sql_read.specs.Under.{HasItsChallenges, HasItsListed, rows_under}

-- ---- owners

-- the rows of one owner are its own
own_here : {R : Type 0} (n : ℕ) (rs : List R) → filter (λ r. r.owner == n) (owned_by n rs) ≡ owned_by n rs
own_here n [] = refl
own_here {R} n (r ∷ rs) = grind (arith, (own_here n rs))

-- none of them is another's
own_other : {R : Type 0} (n m : ℕ) → (m == n) ≡ false → (rs : List R) → filter (λ r. r.owner == n) (owned_by m rs) ≡ []
own_other n m is [] = refl
own_other {R} n m is (r ∷ rs) =
    ap (λ b. cond b ((record { owner = m; row = r }) ∷ filter (λ o. o.owner == n) (owned_by m rs)) (filter (λ o. o.owner == n) (owned_by m rs))) is
    ∙ own_other n m is rs

-- by themselves
pub own_rows : {R : Type 0} (n : ℕ) (rs : List R) → map (λ r. r.row) (owned_by n rs) ≡ rs
own_rows n [] = refl
own_rows n (r ∷ rs) = ap (λ l. r ∷ l) (own_rows n rs)

module _ {P R : Type 0} (number : P → ℕ) (children : P → List R) where
  -- higher owners have no rows of a lower number
  own_lower : (k n : ℕ) (ps : List P) → k < n → Ascends number n ps → filter (λ r. r.owner == k) (child_rows number children ps) ≡ []
  own_lower k n [] low up = refl
  own_lower k n (p ∷ ps) low up =
      filter-append (λ r. r.owner == k) (owned_by (number p) (children p)) (child_rows number children ps)
      ∙ ap (λ rs. rs ++ filter (λ r. r.owner == k) (child_rows number children ps))
      (own_other k (number p) (more_differs (number p) k (omega (arith, low, up.0))) (children p))
      ∙ own_lower k (number p + 1) ps (omega (arith, low, up.0)) up.1

  -- of all rows those of each owner are its own
  each_own : (n : ℕ) (ps : List P) → Ascends number n ps
      → EachOf (λ p. filter (λ r. r.owner == number p) (child_rows number children ps) ≡ owned_by (number p) (children p)) ps
  each_own n [] up = tt
  each_own n (p ∷ ps) up =
      let own = owned_by (number p) (children p) in
      let others = child_rows number children ps in (
        filter-append (λ r. r.owner == number p) own others
            ∙ ap (λ rs. filter (λ r. r.owner == number p) own ++ rs) (own_lower (number p) (number p + 1) ps (omega arith) up.1)
            ∙ append-nil (filter (λ r. r.owner == number p) own)
            ∙ own_here (number p) (children p),
        each _ _ ps
            (λ q k.
            let above : number p < number q = k.0 in
            filter-append (λ r. r.owner == number q) own others
            ∙ ap (λ rs. rs ++ filter (λ r. r.owner == number q) others)
            (own_other (number q) (number p) (less_differs (number p) (number q) above) (children p))
            ∙ k.1)
            (each_both _ _ ps (ascends_above number (number p) (number p + 1) ps (omega arith) up.1) (each_own (number p + 1) ps up.1)),
      )

  -- by themselves, too
  each_under : (n : ℕ) (ps : List P) → Ascends number n ps → EachOf (λ p. rows_under (number p) (child_rows number children ps) ≡ children p) ps
  each_under n ps up = each _ _ ps (λ p own. ap (map (λ r. r.row)) own ∙ own_rows (number p) (children p)) (each_own n ps up)

-- each order has what it lists
pub orders_have : (n : ℕ) (os : List OrderRow) → Ascends (λ o. o.number) n os → EachOf (HasItsListed os) os
orders_have n os up = each_under (λ (o : OrderRow). o.number) (λ o. o.listed) n os up

-- and what it lists is its own
pub orders_own : (n : ℕ) (os : List OrderRow) → Ascends (λ o. o.number) n os
    → EachOf (λ o. filter (λ l. l.owner == o.number) (listed_rows os) ≡ owned_by o.number o.listed) os
orders_own n os up = each_own (λ (o : OrderRow). o.number) (λ o. o.listed) n os up

-- each authorization has its challenges
pub authorizations_have : (n : ℕ) (rs : List AuthorizationRow) → Ascends (λ a. a.number) n rs → EachOf (HasItsChallenges rs) rs
authorizations_have n rs up = each_under (λ (a : AuthorizationRow). a.number) (λ a. a.challenges) n rs up

-- the challenges of one authorization ascend as those of each do
pub own_ascend : (n m : ℕ) (rs : List AuthorizationRow) → Ascends (λ a. a.number) m rs → EachOf (λ a. Ascends (λ c. c.number) 1 a.challenges) rs
    → Ascends challenge_layout.key 1 (filter (λ c. c.owner == n) (challenge_rows rs))
own_ascend n m [] up all = tt
own_ascend n m (a ∷ rs) up all =
    subst (Ascends challenge_layout.key 1) (sym (filter-append own (owned_by a.number a.challenges) (challenge_rows rs)))
    (by (a.number == n) refl (own_ascend n (a.number + 1) rs up.1 all.1))
  where
    own : Owned ChallengeRow → Bool
    own c = c.owner == n

    by : (b : Bool) → (a.number == n) ≡ b → Ascends challenge_layout.key 1 (filter own (challenge_rows rs))
        → Ascends challenge_layout.key 1 (filter own (owned_by a.number a.challenges) ++ filter own (challenge_rows rs))
    by true is more =
        let same = eqb-true a.number n is in
        let here = subst (λ k. filter (λ c. c.owner == k) (owned_by a.number a.challenges) ≡ owned_by a.number a.challenges) same
        (own_here a.number a.challenges) in
        let none = own_lower (λ (r : AuthorizationRow). r.number) (λ r. r.challenges) n (a.number + 1) rs (omega (arith, same)) up.1 in
        subst (Ascends challenge_layout.key 1) (sym ((λ i. here i ++ none i) ∙ append-nil (owned_by a.number a.challenges)))
        (ascends_map (λ c. c.number) challenge_layout.key (λ c. record { owner = a.number; row = c }) (λ c. refl) 1 a.challenges all.0)
    by false is more =
        subst (λ cs. Ascends challenge_layout.key 1 (cs ++ filter own (challenge_rows rs))) (sym (own_other n a.number is a.challenges)) more

-- ---- numbers

-- what is made of the rows of each owner and its number is made of all rows under their owners
made_under : {P R A : Type 0} (number : P → ℕ) (children : P → List R) (make : ℕ → R → A) (ps : List P)
    → flat_map (λ p. map (make (number p)) (children p)) ps ≡ map (λ (r : Owned R). make r.owner r.row) (child_rows number children ps)
made_under number children make [] = refl
made_under {R = R} number children make (p ∷ ps) =
    (λ i. sym (map-map (λ (r : Owned R). make r.owner r.row) (λ r. record { owner = number p; row = r }) (children p)) i
    ++ made_under number children make ps i)
    ∙ sym (map-append (λ (r : Owned R). make r.owner r.row) (owned_by (number p) (children p)) (child_rows number children ps))

-- one number of those pairs of which the other is looked for
picked_of : {A X Y : Type 0} (pair : A → X × Y) (test : X × Y → Bool) {Z : Type 0} (part : X × Y → Z) (as' : List A) (ps : List (X × Y)) → ps ≡ map pair as'
    → map part (filter test ps) ≡ map (λ a. part (pair a)) (filter (λ a. test (pair a)) as')
picked_of pair test part as' ps are = search (rules, filter-map, map-map)

-- the orders that list an authorization
pub listing_is : (T : Tables) (n : ℕ) → map (λ (l : Owned Listed). l.owner) (filter (λ l. l.row.authorization == n) (listed_rows T.orders)) ≡ orders_listing T n
listing_is T n =
    sym (picked_of (λ (l : Owned Listed). (l.owner, l.row.authorization)) (λ p. p.1 == n) (λ p. p.0) (listed_rows T.orders) (places T)
    (ap (λ f. flat_map f T.orders) (λ i (o : OrderRow). map-map (λ j. (o.number, j)) (λ (l : Listed). l.authorization) o.listed i)
    ∙ made_under (λ (o : OrderRow). o.number) (λ o. o.listed) (λ m l. (m, l.authorization)) T.orders))

-- the authorization of a challenge
pub owners_are : (T : Tables) (n : ℕ) → map (λ (c : Owned ChallengeRow). c.owner) (filter (λ c. c.row.number == n) (challenge_rows T.authorizations))
    ≡ owners_of T n
owners_are T n =
    sym (picked_of (λ (c : Owned ChallengeRow). (c.row.number, c.owner)) (λ p. p.0 == n) (λ p. p.1) (challenge_rows T.authorizations) (challenges T)
    (made_under (λ (r : AuthorizationRow). r.number) (λ r. r.challenges) (λ m c. (c.number, m)) T.authorizations))
