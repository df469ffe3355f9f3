-- The names and tokens of a new order.
use Rattle.std.proofs.Common.{◌≡◌, ◌≤◌, ◌*◌, ℕ, suc, zero, List, [], ◌∷◌, length, take, drop, map, Option, Some, None, refl, ap, ◌∙◌, Bool, true, false}
use Rattle.std.proofs.Common.{cond, not, arith, length-take, length-drop}
use Rattle.std.proofs.lemmas.Bool.{eq-eqb, and_from, and_parts}
use Rattle.std.specs.{Prelude.◌&&◌, Prelude.◌==◌, List.filter, List.list_any, List.list_all}
use Rattle.desk_model.specs.Rules.{and_name, and_subproblem, fault_of, kept, left_by, names_in, pieces, subproblems, wanted, wanted_by}
use Rattle.desk_model.specs.{declared.refusal.Refusal.Refusal, declared.payload.Identifier.Identifier, declared.entry.Wanted.Wanted}
use Rattle.desk_model.specs.{declared.rows.AuthorizationRow.AuthorizationRow, BaseName.is_base_name, Limits.most_names, Authorization.kinds_of}
use Rattle.desk_model.specs.{Allowed.may_want_on, Questions.serving_on, Tables.Tables, Run.count_tokens, Kept.EachOf, Name.Name, Name.same_name, Names.name_of}
use Rattle.desk_model.specs.{Names.name_with, Legal.all_different, Legal.has_length, Legal.is_wanted, Legal.wanted_name}
use Rattle.model_laws.proofs.{Keeps.each-filter, Serving.all_may_be_wanted, Drawn.length-pieces, Drawn.length-wanted}
use Rattle.model_laws.specs.Ordered.{IsOrdered}

-- ---- names

-- the name is well formed
abbrev pub IsFormedName : Name → Type 0
IsFormedName name = is_base_name name.base ≡ true

-- a name behind its mark is well formed
with_named : (wildcard : Bool) (rest : List ℕ) (name : Name) → name_with wildcard rest ≡ Some name → IsFormedName name
with_named wildcard rest name h = grind arith

-- the name that a text stands for is well formed
pub text_named : (text : List ℕ) (name : Name) → name_of text ≡ Some name → IsFormedName name
unfolding name_of
text_named text name h = grind (arith, with_named)

-- each name of an order is well formed
pub each_named : (ids : List Identifier) → EachOf IsFormedName (names_in ids)
each_named [] = tt
each_named (i ∷ ids) = grind (arith, text_named, (each_named ids))

-- an identifier without a fault has a name
identifier_named : (i : Identifier) → fault_of i ≡ None → (name : Name) × (name_of i.value ≡ Some name)
identifier_named i h = grind arith

-- where no identifier has a fault, each has a name
pub length-names_in : (ids : List Identifier) → subproblems ids ≡ [] → length (names_in ids) ≡ length ids
length-names_in [] h = refl
length-names_in (i ∷ ids) h =
    let parts = faultless (fault_of i) h in
    let named = identifier_named i parts.0 in
    length-and_name (name_of i.value) named.0 (names_in ids) named.1 ∙ ap suc (length-names_in ids parts.1)
  where
    faultless : (o : Option Refusal) → and_subproblem o i (subproblems ids) ≡ [] → (o ≡ None) × (subproblems ids ≡ [])
    faultless k l = grind arith

    length-and_name : (o : Option Name) (name : Name) (names : List Name) → o ≡ Some name → length (and_name o names) ≡ suc (length names)
    length-and_name g name names e = grind arith

-- ---- names that are kept

-- no more items are left
length-filter : {X : Type 0} (p : X → Bool) (xs : List X) → length (filter p xs) ≤ length xs
length-filter p [] = omega arith
length-filter p (x ∷ xs) = grind (arith, (length-filter p xs))

-- no more names are kept
length-kept : (ns : List Name) → length (kept ns) ≤ length ns
length-kept [] = omega arith
length-kept (n ∷ ns) = omega (arith, length-kept ns, length-filter (λ other. not (same_name n other)) (kept ns))

-- where there are names, some are kept
kept_some : (ns : List Name) → 1 ≤ length ns → 1 ≤ length (kept ns)
kept_some [] h = h
kept_some (n ∷ ns) h = omega arith

-- what holds of each name holds of those that are kept
each-kept : (P : Name → Type 0) (ns : List Name) → EachOf P ns → EachOf P (kept ns)
each-kept P [] h = tt
each-kept P (n ∷ ns) h = (h.0, each-filter P (λ other. not (same_name n other)) (kept ns) (each-kept P ns h.1))

-- what no item passes, none that is left passes
any-filter : {X : Type 0} (p q : X → Bool) (xs : List X) → list_any p xs ≡ false → list_any p (filter q xs) ≡ false
any-filter p q [] h = h
any-filter p q (x ∷ xs) h = grind (arith, (any-filter p q xs))

-- no item passes the test that it was left out by
any-filter_not : {X : Type 0} (p : X → Bool) (xs : List X) → list_any p (filter (λ x. not (p x)) xs) ≡ false
any-filter_not p [] = refl
any-filter_not p (x ∷ xs) = grind (arith, (any-filter_not p xs))

-- different names stay different
different-filter : (q : Name → Bool) (ns : List Name) → all_different ns ≡ true → all_different (filter q ns) ≡ true
different-filter q [] h = h
different-filter q (n ∷ ns) h =
    let parts = and_parts (not (list_any (same_name n) ns)) (all_different ns) h in
    by (q n) (list_any (same_name n) ns) refl parts.0 (different-filter q ns parts.1)
  where
    by : (b a : Bool) → a ≡ list_any (same_name n) ns → not a ≡ true → all_different (filter q ns) ≡ true →
        all_different (cond b (n ∷ filter q ns) (filter q ns)) ≡ true
    by b a g k l = grind (arith, any-filter)

-- names that are kept are different
different-kept : (ns : List Name) → all_different (kept ns) ≡ true
different-kept [] = refl
different-kept (n ∷ ns) = rw (any-filter_not (same_name n) (kept ns)) (different-filter (λ other. not (same_name n other)) (kept ns) (different-kept ns))

-- ---- tokens

-- what some names want has these names
names-wanted : (T : Tables) (account : ℕ) (ns : List Name) (r : List ℕ) → map wanted_name (wanted T account ns r) ≡ ns
names-wanted T account [] r = refl
names-wanted T account (n ∷ ns) r = λ i. name (serving_on T account n) i ∷ names-wanted T account ns (left_by (serving_on T account n) n r) i
  where
    name : (o : Option AuthorizationRow) → wanted_name (wanted_by o n r) ≡ n
    name o = grind arith

-- each piece is full, where there are bytes enough
pieces_fit : (k : ℕ) (r : List ℕ) → 16 * k ≤ length r → list_all (λ token. length token == 16) (pieces k r) ≡ true
pieces_fit zero r h = refl
pieces_fit (suc k) r h =
    let full : length (take 16 r) ≡ 16 = omega (arith, length-take 16 r) in
    let rest : 16 * k ≤ length (drop 16 r) = omega (arith, length-drop 16 r) in
    rw full (pieces_fit k (drop 16 r) rest)

-- well-formed names with tokens may be asked for
tokens_fit : (T : Tables) (account : ℕ) (ns : List Name) (r : List ℕ) → EachOf IsFormedName ns →
    16 * count_tokens (wanted T account ns r) ≤ length r → list_all is_wanted (wanted T account ns r) ≡ true
tokens_fit T account [] r named h = refl
tokens_fit T account (n ∷ ns) r named h = by (serving_on T account n) h (λ rest. tokens_fit T account ns rest named.1)
  where
    by : (o : Option AuthorizationRow) → 16 * count_tokens (wanted_by o n r ∷ wanted T account ns (left_by o n r)) ≤ length r →
        ((rest : List ℕ) → 16 * count_tokens (wanted T account ns rest) ≤ length rest → list_all is_wanted (wanted T account ns rest) ≡ true) →
        list_all is_wanted (wanted_by o n r ∷ wanted T account ns (left_by o n r)) ≡ true
    by None h others =
        let k : ℕ = length (kinds_of n) in
        let many : length (pieces k r) ≡ k = length-pieces k r in
        let enough : 16 * k ≤ length r = omega arith in
        let rest : 16 * count_tokens (wanted T account ns (drop (16 * k) r)) ≤ length (drop (16 * k) r) = omega (arith, length-drop (16 * k) r) in
        and_from _ _ (and_from _ _ named.0 (and_from _ _ (eq-eqb _ _ many) (pieces_fit k r enough))) (others (drop (16 * k) r) rest)
    by (Some row) h others = others r h

-- what a new order asks for has the form of an order
pub wanted_fits : (T : Tables) (account : ℕ) (ids : List Identifier) (r : List ℕ) → IsOrdered T → has_length 1 most_names ids ≡ true → subproblems ids ≡ [] →
    (let ws : List Wanted = wanted T account (kept (names_in ids)) r in 16 * count_tokens ws ≤ length r →
    (has_length 1 most_names ws
    && (all_different (map wanted_name ws) && (list_all is_wanted ws && list_all (may_want_on T account) ws))) ≡ true)
wanted_fits T account ids r in_order fits none enough = grind (
  arith,
  length-names_in,
  length-wanted,
  length-kept,
  kept_some,
  names-wanted,
  different-kept,
  tokens_fit,
  each-kept,
  each_named,
  all_may_be_wanted,
)
