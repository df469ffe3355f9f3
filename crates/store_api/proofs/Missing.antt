-- Rows that are put into a table which has some of them already.
use Rattle.std.proofs.Common.{◌≡◌, ℕ, List, [], ◌∷◌, ◌++◌, filter, find, map, Option, Some, refl, sym, ap, ◌∙◌, true, false, Bool, cond, arith, rules}
use Rattle.std.proofs.lemmas.Bool.{eqb-true}
use Rattle.std.specs.{Prelude.◌==◌, Prelude.◌&&◌, Prelude.◌||◌, Prelude.is_some, List.flat_map, List.list_any}
use Rattle.model_laws.specs.{Ordered.Ascends, Placing.puts}
use Rattle.model_laws.proofs.{Basics.each, Basics.each_both, Basics.list_any-same, RowLists.ascends_found, RowLists.puts_append}
use Rattle.model_parts.proofs.{Cut.at_number, Cut.numbered, Found.any_filter, Found.puts_filter, Lists.filter_same, Lists.filtered_each}
use Rattle.desk_model.specs.Kept.{EachOf}
use Rattle.store_api.specs.Needing.{lacking, missing, missings}

-- the rows of a number
abbrev pub rows_at : {X : Type 0} → (X → ℕ) → List X → ℕ → List X
rows_at number xs n = filter (λ x. number x == n) xs

-- with the rows of a number
abbrev pub with_number : {X : Type 0} → (X → ℕ) → List X → ℕ → (X → Bool) → X → Bool
with_number number xs n p x = list_any (λ y. number y == number x) (rows_at number xs n) || p x

-- they are put among rows that pass a test
pub put_number : {X : Type 0} (number : X → ℕ) (xs : List X) → Ascends number 1 xs → (n : ℕ) (p : X → Bool) →
    puts number (rows_at number xs n) (filter p xs) ≡ filter (with_number number xs n p) xs
put_number number xs h n p = search (rules, puts_filter, filtered_each, each, ascends_found)

-- a row of the number among those that pass is the one of that number
has_number : {X : Type 0} (number : X → ℕ) (xs : List X) (n : ℕ) (p : X → Bool) (o : Option X) → find (λ x. number x == n) (filter p xs) ≡ o →
    is_some o ≡ list_any (λ x. number x == n) (filter p xs)
has_number number xs n p o is = ap is_some (sym is) ∙ some_found (filter p xs)
  where
    some_found : (ys : List _) → is_some (find (λ x. number x == n) ys) ≡ list_any (λ x. number x == n) ys
    some_found [] = refl
    some_found (y ∷ ys) = by (number y == n) (some_found ys)
      where
        by : (b : Bool) → is_some (find (λ x. number x == n) ys) ≡ list_any (λ x. number x == n) ys →
            is_some (cond b (Some y) (find (λ x. number x == n) ys)) ≡ (b || list_any (λ x. number x == n) ys)
        by true later = refl
        by false later = later

-- where one of the number is there already, nothing more passes
nothing_missing : {X : Type 0} (number : X → ℕ) (xs : List X) → Ascends number 1 xs → (n : ℕ) (p : X → Bool) →
    list_any (λ x. number x == n) (filter p xs) ≡ true → filter p xs ≡ filter (with_number number xs n p) xs
nothing_missing number xs h n p has =
    filter_same p (with_number number xs n p) xs
    (each _ _ xs (λ x alike. sym (ap (λ b. b || p x) (named x alike.1) ∙ same x (number x == n) refl (p x) alike.0 refl))
    (each_both _ _ xs (numbered number p 1 xs h) (numbered number (λ y. number y == n) 1 xs h)))
  where
    turned : (a b : Bool) → (a && b) ≡ (b && a)
    turned a k = grind arith

    named : (x : _) → at_number number (λ y. number y == n) xs (number x) ≡ (number x == n) →
        list_any (λ y. number y == number x) (rows_at number xs n) ≡ (number x == n)
    named l g = grind (arith, any_filter, list_any-same)

    passes : at_number number p xs n ≡ true
    passes = list_any-same _ _ xs (λ y. turned (number y == n) (p y)) ∙ sym (any_filter p (λ y. number y == n) xs) ∙ has

    same : (x : _) (b : Bool) → (number x == n) ≡ b → (c : Bool) → at_number number p xs (number x) ≡ c → p x ≡ c → (b || c) ≡ c
    same x true e true alike is = refl
    same x true e false alike is =
        let number_is : number x ≡ n = eqb-true (number x) n e in
        let no : at_number number p xs n ≡ false = ap (at_number number p xs) (sym number_is) ∙ alike in
        let some : at_number number p xs n ≡ true = passes in cc
    same x false e c alike is = refl

-- a number whose row is put where it is missing is put
pub missing_put : {X : Type 0} (number : X → ℕ) (xs : List X) → Ascends number 1 xs → (n : ℕ) (p : X → Bool) →
    missing number (rows_at number xs) n (filter p xs) ≡ filter (with_number number xs n p) xs
missing_put number xs h n p = search (rules, nothing_missing, has_number, put_number)

-- so are numbers in a row
pub missings_put : {X : Type 0} (number : X → ℕ) (xs : List X) → Ascends number 1 xs → (ns : List ℕ) (p : X → Bool) →
    missings number (rows_at number xs) ns (filter p xs) ≡ puts number (flat_map (rows_at number xs) ns) (filter p xs)
missings_put number xs h [] p = refl
missings_put number xs h (n ∷ ns) p =
    ap (missings number (rows_at number xs) ns) (missing_put number xs h n p)
    ∙ missings_put number xs h ns (with_number number xs n p)
    ∙ ap (puts number (flat_map (rows_at number xs) ns)) (sym (put_number number xs h n p))
    ∙ sym (puts_append number (rows_at number xs n) (flat_map (rows_at number xs) ns) (filter p xs))

-- numbers one after the other
pub missings_append : {X : Type 0} (number : X → ℕ) (rows_of : ℕ → List X) (ns ms : List ℕ) (table : List X) →
    missings number rows_of (ns ++ ms) table ≡ missings number rows_of ms (missings number rows_of ns table)
missings_append number rows_of [] ms table = refl
missings_append number rows_of (n ∷ ns) ms table = missings_append number rows_of ns ms (missing number rows_of n table)

-- rows that stand alone under their numbers are put where they are missing
pub lacking_missings : {X : Type 0} (number : X → ℕ) (rows_of : ℕ → List X) (xs : List X) → EachOf (λ x. rows_of (number x) ≡ x ∷ []) xs → (table : List X)
    → lacking number xs table ≡ missings number rows_of (map number xs) table
lacking_missings number rows_of [] alone table = refl
lacking_missings number rows_of (x ∷ xs) alone table =
    (λ i. lacking number xs (cond (is_some (find (λ y. number y == number x) table)) table (puts number (sym alone.0 i) table)))
    ∙ lacking_missings number rows_of xs alone.1 (missing number rows_of (number x) table)
