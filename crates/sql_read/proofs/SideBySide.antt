-- What is shown of rows side by side: of those that pass the tests of a statement, each with what stands beside it.
use Rattle.std.proofs.Common.{◌≡◌, ◌++◌, ◌&&◌, ℕ, Bool, true, false, cond, List, [], ◌∷◌, map, filter, flat_map, refl, sym, ap, ◌∙◌, arith, rules}
use Rattle.std.proofs.Math.Bool.{and-true}
use Rattle.sqlite_value.specs.Order.{Row}
use Rattle.sqlite_trees.specs.Tree.{Trees}
use Rattle.sqlite_trees.proofs.ListLemmas.{map-flat_map}
use Rattle.sqlite_sql.specs.{Query.Join, Query.Output, Query.Query, Query.inner, Query.matches, Query.output, Term.Env, Term.Term}
use Rattle.model_parts.proofs.Lists.{filter_nothing}
use Rattle.desk_model.specs.Kept.{EachOf}

-- ---- tests

-- a test with one that never holds
never : (b : Bool) → (b && false) ≡ false
never b = search rules

-- tests that do not look at the rows stand before them
pub tests_first : {X Y : Type 0} (f : X → List Y) (test : X → Bool) (p q : Bool) (xs : List X)
    → flat_map f (filter (λ x. p && (test x && q)) xs) ≡ cond (p && q) (flat_map f (filter test xs)) []
tests_first f test true true xs = λ i. flat_map f (filter (λ x. and-true (test x) i) xs)
tests_first f test true false xs = (λ i. flat_map f (filter (λ x. never (test x) i) xs)) ∙ ap (flat_map f) (sym (filter_nothing xs))
tests_first f test false q xs = ap (flat_map f) (sym (filter_nothing xs))

-- ---- rows

-- what is made of those that pass
pub each_spread : {X Z : Type 0} (image : X → Row) (part : X → List Z) (P : X → Type 0) (test : X → Bool) (joined : Row → List Z)
    → ((x : X) → P x → joined (image x) ≡ cond (test x) (part x) []) → (xs : List X) → EachOf P xs
    → flat_map joined (map image xs) ≡ flat_map part (filter test xs)
each_spread image part P test joined is [] h = refl
each_spread {X} image part P test joined is (x ∷ xs) h = (λ i. is x h.0 i ++ each_spread image part P test joined is xs h.1 i) ∙ grind arith

-- rows that pass are shown so
pub shown_if : (q : Query) (passed passes : Bool) (env : Env) (o : Output) → passed ≡ passes → output q env ≡ o
    → map (output q) (cond passed (env ∷ []) []) ≡ cond passes (o ∷ []) []
shown_if q passed passes env o same shows = ap (λ b. map (output q) (cond b (env ∷ []) [])) same ∙ by passes
  where
    by : (b : Bool) → map (output q) (cond b (env ∷ []) []) ≡ cond b (o ∷ []) []
    by true = λ i. shows i ∷ []
    by false = refl

-- so is all that stands beside the rows of a table which pass
pub spread : {X : Type 0} (q : Query) (db : Trees) (tests : List Term) (more : Join) (env : Env) (image : X → Row) (tree : ℕ) (test : X → Bool)
    (part : X → List Output) (xs : List X) → db tree ≡ map image xs → (P : X → Type 0) → EachOf P xs
    → ((x : X) → P x → map (output q) (matches db tests more (env ++ image x ∷ [])) ≡ cond (test x) (part x) [])
    → map (output q) (matches db tests (inner tree more) env) ≡ flat_map part (filter test xs)
spread q db tests more env image tree test part xs there P all is =
    let tried = λ (r : Row). map (output q) (matches db tests more (env ++ r ∷ [])) in
    map-flat_map (output q) (λ r. matches db tests more (env ++ r ∷ [])) (db tree)
    ∙ ap (flat_map tried) there
    ∙ each_spread image part P test tried is xs all
