-- Names that keep their first place.
use Rattle.std.proofs.Common.{◌≡◌, Bool, true, false, cond, not, ◌&&◌, ◌||◌, List, [], ◌∷◌, ◌++◌, refl, sym, ap, ◌∙◌, arith, rules}
use Rattle.std.proofs.{lemmas.List.append-nil, lemmas.Slice.Eq.bytes_eq-Decides, lemmas.Bool.Decides.nat_tests}
use Rattle.std.specs.List.{filter, list_any}
use Rattle.desk_model.specs.{Name.Name, Name.same_bool, Name.same_name, Rules.kept}

true_parts : (a b : Bool) → (a && b) ≡ true → (a ≡ true) × (b ≡ true)
true_parts a b h = grind (arith, nat_tests)

same_mark : (a b : Bool) → same_bool a b ≡ true → a ≡ b
same_mark a b h = grind (arith, nat_tests)

-- names that are the same are equal
pub same_names : (n m : Name) → same_name n m ≡ true → n ≡ m
same_names n m e = grind (arith, nat_tests, true_parts, bytes_eq-Decides, same_mark)

filter-append : {X : Type 0} (p : X → Bool) (xs : List X) (x : X) → filter p (xs ++ x ∷ []) ≡ filter p xs ++ cond (p x) (x ∷ []) []
filter-append p [] x = refl
filter-append {X} p (y ∷ ys) x = grind (arith, nat_tests, (filter-append p ys x))

-- what passes the one test passes the other, so those that the other keeps answer as all
any-filter : {X : Type 0} (p q : X → Bool) (xs : List X) → ((x : X) → p x ≡ true → q x ≡ true) → list_any p (filter q xs) ≡ list_any p xs
any-filter p q [] h = refl
any-filter {X} p q (x ∷ xs) h = grind (arith, nat_tests, (any-filter p q xs h))

abbrev is_in : Name → List Name → Bool
is_in x names = list_any (λ other. same_name other x) names

abbrev others : Name → List Name → List Name
others n names = filter (λ other. not (same_name n other)) names

-- a name that is the same as another is not the same as one that differs from it
apart : (n x : Name) → same_name n x ≡ false → (o : Name) → same_name o x ≡ true → not (same_name n o) ≡ true
apart n x e o f = search (rules, same_names)

-- one more among those that differ from a name
others-last : (n x : Name) (ns : List Name) (b : Bool) → same_name n x ≡ b → others n (ns ++ x ∷ []) ≡ others n ns ++ cond b [] (x ∷ [])
others-last n x ns b e = grind (arith, nat_tests, filter-append)

-- one more name is kept where none that was kept is the same
pub kept-last : (ns : List Name) (x : Name) → kept (ns ++ x ∷ []) ≡ cond (list_any (λ other. same_name other x) (kept ns)) (kept ns) (kept ns ++ x ∷ [])
kept-last [] x = refl
kept-last (n ∷ ns) x = by (same_name n x) refl (is_in x (kept ns)) refl (kept-last ns x)
  where
    by : (b : Bool) → same_name n x ≡ b → (c : Bool) → is_in x (kept ns) ≡ c →
        kept (ns ++ x ∷ []) ≡ cond c (kept ns) (kept ns ++ x ∷ []) →
        n ∷ others n (kept (ns ++ x ∷ []))
        ≡ cond (b || is_in x (others n (kept ns))) (n ∷ others n (kept ns)) ((n ∷ others n (kept ns)) ++ x ∷ [])
    by true e true f ih = ap (λ l. n ∷ others n l) ih
    by true e false f ih = ap (λ l. n ∷ others n l) ih ∙ ap (λ (l : List Name). n ∷ l) (others-last n x (kept ns) true e ∙ append-nil (others n (kept ns)))
    by false e true f ih =
        ap (λ l. n ∷ others n l) ih
        ∙ sym (ap (λ d. cond d (n ∷ others n (kept ns)) ((n ∷ others n (kept ns)) ++ x ∷ []))
        (any-filter (λ other. same_name other x) (λ other. not (same_name n other)) (kept ns) (apart n x e) ∙ f))
    by false e false f ih =
        ap (λ l. n ∷ others n l) ih
        ∙ ap (λ (l : List Name). n ∷ l) (others-last n x (kept ns) false e)
        ∙ sym (ap (λ d. cond d (n ∷ others n (kept ns)) ((n ∷ others n (kept ns)) ++ x ∷ []))
        (any-filter (λ other. same_name other x) (λ other. not (same_name n other)) (kept ns) (apart n x e) ∙ f))

-- whether a name is among those kept, by the test that is made
pub kept-tested : (ns found there : List Name) (x y : Name) (b : Bool) → b ≡ list_any (λ other. same_name other y) there → y ≡ x
    → there ≡ found → found ≡ kept ns →
    kept (ns ++ x ∷ []) ≡ cond b (kept ns) (kept ns ++ x ∷ [])
kept-tested ns found there x y b e is same known = grind (arith, nat_tests, kept-last)

-- one that is new is kept
pub kept-new : (ns found there : List Name) (x y : Name) (b : Bool) → b ≡ list_any (λ other. same_name other y) there → y ≡ x
    → there ≡ found → found ≡ kept ns → b ≡ false →
    found ++ x ∷ [] ≡ kept (ns ++ x ∷ [])
kept-new ns found there x y b e is same known absent =
    ap (λ l. l ++ x ∷ []) known ∙ sym (kept-tested ns found there x y b e is same known ∙ ap (λ d. cond d (kept ns) (kept ns ++ x ∷ [])) absent)

-- one that is there is not kept again
pub kept-known : (ns found there : List Name) (x y : Name) (b : Bool) → b ≡ list_any (λ other. same_name other y) there → y ≡ x
    → there ≡ found → found ≡ kept ns → b ≡ true →
    found ≡ kept (ns ++ x ∷ [])
kept-known ns found there x y b e is same known present =
    known ∙ sym (kept-tested ns found there x y b e is same known ∙ ap (λ d. cond d (kept ns) (kept ns ++ x ∷ [])) present)
