-- Small lemmas on options and lists.
use Rattle.std.proofs.Common.{◌≡◌, ◌<◌, ℕ, ◌+◌, List, [], ◌∷◌, ◌++◌, length, map, Option, Some, None, refl, ap, ◌∙◌, subst, true, false, Bool, cond, arith}
use Rattle.std.specs.{Prelude.◌==◌, Prelude.◌||◌, Prelude.find, Prelude.is_some, Prelude.IsSome, List.list_any, Option.option_map}
use Rattle.desk_model.specs.{History.earlier, Kept.EachOf, Lookup.holds}

-- what came first stays first
pub earlier-some : {X : Type 0} (x : X) (o : Option X) → earlier (Some x) o ≡ Some x
earlier-some x o = grind arith

-- the first fact after none
pub none_earlier : {X : Type 0} (o : Option X) → earlier None o ≡ o
none_earlier o = grind arith

-- there is a first fact where there is one of the two
pub is_some-earlier : {X : Type 0} (x y : Option X) → is_some (earlier x y) ≡ (is_some x || is_some y)
is_some-earlier x y = grind arith

-- a test of some mapped item
pub list_any-map : {X Y : Type 0} (p : Y → Bool) (f : X → Y) (xs : List X) → list_any p (map f xs) ≡ list_any (λ x. p (f x)) xs
list_any-map p f [] = refl
list_any-map p f (x ∷ xs) = ap (λ b. p (f x) || b) (list_any-map p f xs)

-- equal tests pass the same lists
pub list_any-same : {X : Type 0} (p q : X → Bool) (xs : List X) → ((x : X) → p x ≡ q x) → list_any p xs ≡ list_any q xs
list_any-same p q xs h = grind arith

-- some item passes one of two tests
pub any_or : {X : Type 0} (p q : X → Bool) (xs : List X) → list_any (λ x. p x || q x) xs ≡ (list_any p xs || list_any q xs)
any_or p q [] = refl
any_or p q (x ∷ xs) = grind (arith, (any_or p q xs))

-- what follows from what holds of each item
pub each : {X : Type 0} (P Q : X → Type 0) (xs : List X) → ((x : X) → P x → Q x) → EachOf P xs → EachOf Q xs
each P Q [] f h = tt
each P Q (x ∷ xs) f h = (f x h.0, each P Q xs f h.1)

-- what holds of all holds of each item
pub each_all : {X : Type 0} (P : X → Type 0) (xs : List X) → ((x : X) → P x) → EachOf P xs
each_all P [] f = tt
each_all P (x ∷ xs) f = (f x, each_all P xs f)

-- what holds of the items of two lists
pub each-append : {X : Type 0} (P : X → Type 0) (xs ys : List X) → EachOf P xs → EachOf P ys → EachOf P (xs ++ ys)
each-append P [] ys h k = k
each-append P (x ∷ xs) ys h k = (h.0, each-append P xs ys h.1 k)

-- what holds of each mapped item
pub each-map : {X Y : Type 0} (P : Y → Type 0) (f : X → Y) (xs : List X) → EachOf (λ x. P (f x)) xs → EachOf P (map f xs)
each-map P f [] h = tt
each-map P f (x ∷ xs) h = (h.0, each-map P f xs h.1)

-- maps that agree on each item
pub map-each : {X Y : Type 0} (f g : X → Y) (xs : List X) → EachOf (λ x. f x ≡ g x) xs → map f xs ≡ map g xs
map-each f g [] h = refl
map-each f g (x ∷ xs) h = λ i. h.0 i ∷ map-each f g xs h.1 i

-- moved row by row
pub map-moved : {X Y : Type 0} (f : X → Y) (move : Y → Y) (g : X → Y) (xs : List X) → EachOf (λ x. g x ≡ move (f x)) xs → map g xs ≡ map move (map f xs)
map-moved f move g [] h = refl
map-moved f move g (x ∷ xs) h = λ i. h.0 i ∷ map-moved f move g xs h.1 i

-- the first mapped item that passes
pub find-map : {X Y : Type 0} (p : Y → Bool) (f : X → Y) (xs : List X) → find p (map f xs) ≡ option_map f (find (λ x. p (f x)) xs)
find-map p f [] = refl
find-map p f (x ∷ xs) = grind (arith, (find-map p f xs))

-- a test that a move leaves passes the moved items that it passed
pub find-moved : {X : Type 0} (test : X → Bool) (move : X → X) (xs : List X) → ((x : X) → test (move x) ≡ test x)
    → find test (map move xs) ≡ option_map move (find test xs)
find-moved test move xs same = find-map test move xs ∙ (λ i. option_map move (find (λ x. same x i) xs))

-- what is found stays found
pub find-append : {X : Type 0} (p : X → Bool) (xs ys : List X) (x : X) → find p xs ≡ Some x → find p (xs ++ ys) ≡ Some x
find-append p [] ys x h = cc
find-append p (y ∷ xs) ys x h = grind (arith, (find-append p xs ys x))

-- and what is there stays there
pub still_some : {X : Type 0} (p : X → Bool) (xs ys : List X) → IsSome (find p xs) → IsSome (find p (xs ++ ys))
still_some p [] ys h = cc
still_some p (x ∷ xs) ys h = grind (arith, (still_some p xs ys))

-- what passes a test is there
pub there : {X : Type 0} (test : X → Bool) (o : Option X) → holds test o ≡ true → IsSome o
there test o h = grind arith

-- what holds of moved items
pub each_of_map : {X Y : Type 0} (P : Y → Type 0) (f : X → Y) (xs : List X) → EachOf P (map f xs) → EachOf (λ x. P (f x)) xs
each_of_map P f [] h = tt
each_of_map P f (x ∷ xs) h = (h.0, each_of_map P f xs h.1)

-- what holds of two lists, one behind the other
pub each_parts : {X : Type 0} (P : X → Type 0) (xs ys : List X) → EachOf P (xs ++ ys) → EachOf P xs × EachOf P ys
each_parts P [] ys h = (tt, h)
each_parts P (x ∷ xs) ys h = let rest = each_parts P xs ys h.1 in ((h.0, rest.0), rest.1)

-- what holds of the items that come last
pub each_after : {X : Type 0} (P : X → Type 0) (xs ys : List X) → EachOf P (xs ++ ys) → EachOf P ys
each_after P [] ys h = h
each_after P (x ∷ xs) ys h = each_after P xs ys h.1

-- the items' numbers count up from n
abbrev pub IsNumbered : {X : Type 0} → (X → ℕ) → ℕ → List X → Type 0
IsNumbered number n [] = Unit {0}
IsNumbered number n (x ∷ xs) = (number x ≡ n) × IsNumbered number (n + 1) xs

-- numbers that go on counting
pub numbered-append : {X : Type 0} (number : X → ℕ) (n : ℕ) (xs ys : List X) (k : ℕ) → k ≡ length xs + n → IsNumbered number n xs →
    IsNumbered number k ys → IsNumbered number n (xs ++ ys)
numbered-append number n [] ys k e h g = let same : k ≡ n = omega arith in subst (λ j. IsNumbered number j ys) same g
numbered-append number n (x ∷ xs) ys k e h g = (h.0, numbered-append number (n + 1) xs ys k (omega arith) h.1 g)

-- two facts of each item
pub each_both : {X : Type 0} (P Q : X → Type 0) (xs : List X) → EachOf P xs → EachOf Q xs → EachOf (λ x. P x × Q x) xs
each_both P Q [] h k = tt
each_both P Q (x ∷ xs) h k = ((h.0, k.0), each_both P Q xs h.1 k.1)

-- numbers apart
pub less_differs : (a b : ℕ) → a < b → (a == b) ≡ false
less_differs a b lt = grind arith

-- and so the other way round
pub more_differs : (a b : ℕ) → b < a → (a == b) ≡ false
more_differs a b lt = grind arith

-- numbers compare alike from either side
pub eq_turn : (a b : ℕ) → (a == b) ≡ (b == a)
eq_turn a b = grind arith

-- a row that is moved or not keeps what both have
pub one_kept : {X Y : Type 0} (value : X → Y) (b : Bool) (x y : X) → value x ≡ value y → value (cond b x y) ≡ value y
one_kept value b x y h = grind arith
