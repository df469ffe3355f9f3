-- Rows beside those that they tell: each beside the one of that number.
use Rattle.std.proofs.Common.{◌≡◌, ◌++◌, ◌+◌, ◌<◌, ℕ, Bool, true, false, cond, List, [], ◌∷◌, map, filter, flat_map, find, IsSome, Some, Ordering, Less}
use Rattle.std.proofs.Common.{refl, sym, ap, subst, ◌∙◌, arith}
use Rattle.std.proofs.lemmas.{Bool.eq-eqb, Bool.eqb-true, List.Concat.flat_map_single, List.map-id, Simd.map-map}
use Rattle.std.specs.{Prelude.◌==◌, List.AllByRecursion, List.Sorted.IsStrictlySortedBy}
use Rattle.sqlite_trees.proofs.ListLemmas.{flat_map_same_on, map-flat_map}
use Rattle.store_columns.specs.{Flat.answer_key, Flat.bare_row, Flat.challenge_rows, Flat.owned_by, Flat.without_challenges, declared.columns.Owned.Owned}
use Rattle.store_columns.specs.TextColumns.{HasTextAuthorization, HasTextChallenge}
use Rattle.store_book.specs.Nesting.{child_rows}
use Rattle.model_laws.specs.Ordered.{Ascends}
use Rattle.model_laws.proofs.Basics.{each, each-append, each-map, each_all, each_both, less_differs, more_differs}
use Rattle.model_laws.proofs.{Keeps.each-filter, RowLists.ascends_above}
use Rattle.desk_model.specs.{Kept.EachOf, declared.rows.AuthorizationRow.AuthorizationRow, declared.rows.ChallengeRow.ChallengeRow}
use Rattle.sql_read.specs.Spelled.{FitsJoined, joined_in}
use Rattle.sql_read.proofs.JoinParts.{IsStoredJoined, Joined, JoinedColumns, joined-apart, joined_back, joined_columns, joined_fits}
use Rattle.sql_read.proofs.{JoinParts.joined_params, TableFacts.RowFacts, TableFacts.facts_of}

-- ---- an order of what a map gives

-- what holds of each item that a map gives, of what it is given
all_of_map : {X Y : Type 0} (P : Y → Type 0) (f : X → Y) (xs : List X) → AllByRecursion P (map f xs) → AllByRecursion (λ x. P (f x)) xs
all_of_map P f [] h = tt
all_of_map P f (x ∷ xs) h = (h.0, all_of_map P f xs h.1)

-- where a map gives items in a strict order, it is given them in that order
strictly_of_map : {X Y : Type 0} (cmp : Y → Y → Ordering) (f : X → Y) (xs : List X) → IsStrictlySortedBy cmp (map f xs)
    → IsStrictlySortedBy (λ x y. cmp (f x) (f y)) xs
unfolding IsStrictlySortedBy
strictly_of_map cmp f [] up = tt
strictly_of_map cmp f (x ∷ xs) up = (all_of_map (λ y. cmp (f x) y ≡ Less) f xs up.0, strictly_of_map cmp f xs up.1)

-- ---- pairs

module _ {C A : Type 0} (number : C → ℕ) (key : A → ℕ) (rows : List A) where
  -- the rows of the number that a row tells
  abbrev pub told_by : C → List A
  told_by c = filter (λ a. key a == number c) rows

  -- it beside each of them
  abbrev pub beside : C → List (C × A)
  beside c = map (λ a. (c, a)) (told_by c)

  -- each of these rows
  abbrev pub pairs : List C → List (C × A)
  pairs cs = flat_map beside cs

  -- what is made of each pair
  pub map-pairs : {B : Type 0} (f : C × A → B) (cs : List C) → flat_map (λ c. flat_map (λ a. f (c, a) ∷ []) (told_by c)) cs ≡ map f (pairs cs)
  map-pairs f cs =
      flat_map_same_on _ _ (λ c. flat_map_single (λ a. f (c, a)) (told_by c) ∙ sym (map-map f (λ a. (c, a)) (told_by c))) cs
      ∙ sym (map-flat_map f beside cs)

  -- what stands beside each
  pub seconds : (cs : List C) → map (λ x. x.1) (pairs cs) ≡ flat_map told_by cs
  seconds cs =
      map-flat_map (λ (x : C × A). x.1) beside cs
      ∙ flat_map_same_on _ _ (λ c. map-map (λ (x : C × A). x.1) (λ a. (c, a)) (told_by c) ∙ map-id (told_by c)) cs

  -- there is one row of the number
  abbrev pub HasOne : C → Type 0
  HasOne c = (a : A) × ((told_by c ≡ a ∷ []) × (key a ≡ number c))

  -- which is the one beside it
  abbrev pub IsBeside : C × A → Type 0
  IsBeside x = (told_by x.0 ≡ x.1 ∷ []) × (key x.1 ≡ number x.0)

  -- so each comes once
  pub firsts : (cs : List C) → EachOf HasOne cs → map (λ x. x.0) (pairs cs) ≡ cs
  firsts [] h = refl
  firsts (c ∷ cs) h = ap (λ as'. map (λ (x : C × A). x.0) (map (λ a. (c, a)) as' ++ pairs cs)) h.0.1.0 ∙ ap (λ l. c ∷ l) (firsts cs h.1)

  -- and stands beside its own
  pub each_beside : (cs : List C) → EachOf HasOne cs → EachOf IsBeside (pairs cs)
  each_beside [] h = tt
  each_beside (c ∷ cs) h =
      subst (λ as'. EachOf IsBeside (map (λ a. (c, a)) as' ++ pairs cs)) (sym h.0.1.0) ((h.0.1.0, h.0.1.1), each_beside cs h.1)

  -- in the order of their first rows
  pub pairs_strictly : (cmp : C → C → Ordering) (cs : List C) → EachOf HasOne cs → IsStrictlySortedBy cmp cs
      → IsStrictlySortedBy (λ x y. cmp x.0 y.0) (pairs cs)
  pairs_strictly cmp cs one up =
      strictly_of_map cmp (λ (x : C × A). x.0) (pairs cs) (subst (IsStrictlySortedBy cmp) (sym (firsts cs one)) up)

  -- what is so of each row and of each that it tells
  pub each_pair : (P : C → Type 0) (Q : A → Type 0) (cs : List C) → EachOf P cs → EachOf Q rows → EachOf (λ x. P x.0 × Q x.1) (pairs cs)
  each_pair P Q [] h k = tt
  each_pair P Q (c ∷ cs) h k =
      each-append (λ (x : C × A). P x.0 × Q x.1) (beside c) (pairs cs)
      (each-map (λ (x : C × A). P x.0 × Q x.1) (λ a. (c, a)) (told_by c)
      (each Q (λ a. P c × Q a) (told_by c) (λ a q. (h.0, q)) (each-filter Q (λ a. key a == number c) rows k)))
      (each_pair P Q cs h.1 k)

-- ---- challenges

-- a challenge beside its authorization
abbrev pub Pair : Type 0
Pair = Owned ChallengeRow × AuthorizationRow

-- the number of the row that one belongs to
abbrev pub owner : {R : Type 0} → Owned R → ℕ
owner c = c.owner

-- there is one authorization of it
abbrev pub IsOwned : List AuthorizationRow → Owned ChallengeRow → Type 0
IsOwned rows = HasOne owner (λ a. a.number) rows

-- the parts that stand in the three tables
abbrev pub parts : Pair → Joined
parts x = ((bare_row x.0, without_challenges x.1), answer_key x.0.row)

-- what is known of them
abbrev pub joined_facts : RowFacts Pair Joined JoinedColumns
joined_facts =
    facts_of parts joined_columns joined_in joined_params joined_back IsStoredJoined joined-apart
    (λ c. HasTextChallenge c.0.0 × HasTextAuthorization c.0.1) FitsJoined joined_fits

-- ---- the row of each number

module _ {P : Type 0} (number : P → ℕ) where
  -- no higher one has the number
  none_at : (n k : ℕ) (ps : List P) → k < n → Ascends number n ps → filter (λ p. number p == k) ps ≡ []
  none_at n k [] low up = refl
  none_at n k (p ∷ ps) low up =
      ap (λ b. cond b (p ∷ filter (λ q. number q == k) ps) (filter (λ q. number q == k) ps)) (more_differs (number p) k (omega (arith, low, up.0)))
      ∙ none_at (number p + 1) k ps (omega (arith, low, up.0)) up.1

  -- the one of a number that is found
  pub one_found : (n k : ℕ) (ps : List P) → Ascends number n ps → IsSome (find (λ p. number p == k) ps)
      → (p : P) × ((filter (λ q. number q == k) ps ≡ p ∷ []) × (number p ≡ k))
  one_found n k [] up there = absurd (let none = there in cc)
  one_found n k (p ∷ ps) up there = by (number p == k) refl there (one_found (number p + 1) k ps up.1)
    where
      Found : List P → Type 0
      Found found = (q : P) × ((found ≡ q ∷ []) × (number q ≡ k))

      by : (b : Bool) → (number p == k) ≡ b → IsSome (cond b (Some p) (find (λ q. number q == k) ps))
          → (IsSome (find (λ q. number q == k) ps) → Found (filter (λ q. number q == k) ps))
          → Found (cond b (p ∷ filter (λ q. number q == k) ps) (filter (λ q. number q == k) ps))
      by true is here behind =
          let same : number p ≡ k = eqb-true (number p) k is in
          (p, (ap (λ l. p ∷ l) (none_at (number p + 1) k ps (omega (arith, same)) up.1), same))
      by false is later behind = behind later

  -- each is the one of its number
  each_one : (n : ℕ) (ps : List P) → Ascends number n ps → EachOf (λ p. filter (λ q. number q == number p) ps ≡ p ∷ []) ps
  each_one n [] up = tt
  each_one n (p ∷ ps) up = (
    ap (λ b. cond b (p ∷ filter (λ q. number q == number p) ps) (filter (λ q. number q == number p) ps)) (eq-eqb (number p) (number p) refl)
        ∙ ap (λ l. p ∷ l) (none_at (number p + 1) (number p) ps (omega arith) up.1),
    each _ _ ps
        (λ r k.
        ap (λ b. cond b (p ∷ filter (λ q. number q == number r) ps) (filter (λ q. number q == number r) ps)) (less_differs (number p) (number r) k.0)
        ∙ k.1)
        (each_both _ _ ps (ascends_above number (number p) (number p + 1) ps (omega arith) up.1) (each_one (number p + 1) ps up.1)),
  )

-- ---- the row of each owner

module _ {P R : Type 0} (number : P → ℕ) (children : P → List R) where
  -- what is so of all that belongs to each
  pub of_each : (Q : Owned R → Type 0) (ps : List P) → EachOf (λ p. EachOf (λ r. Q (record { owner = number p; row = r })) (children p)) ps
      → EachOf Q (child_rows number children ps)
  of_each Q [] h = tt
  of_each Q (p ∷ ps) h =
      each-append Q (owned_by (number p) (children p)) (child_rows number children ps)
      (each-map Q (λ r. record { owner = number p; row = r }) (children p) h.0)
      (of_each Q ps h.1)

  -- so each has its owner
  pub one_owner : (n : ℕ) (ps : List P) → Ascends number n ps → EachOf (HasOne owner number ps) (child_rows number children ps)
  one_owner n ps up =
      of_each (HasOne owner number ps) ps (each _ _ ps (λ p one. each_all _ (children p) (λ r. (p, (one, refl)))) (each_one number n ps up))

-- each challenge its authorization
pub owners_there : (n : ℕ) (rows : List AuthorizationRow) → Ascends (λ a. a.number) n rows → EachOf (IsOwned rows) (challenge_rows rows)
owners_there n rows up = one_owner (λ (a : AuthorizationRow). a.number) (λ a. a.challenges) n rows up
