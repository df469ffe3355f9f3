-- Rows in the order of a number, their key.
use Rattle.std.proofs.Common.{◌≡◌, ◌⊎◌, inl, inr, ℕ, pos, ◌+◌, ◌<◌, ◌≤◌, List, [], ◌∷◌, map, filter, not, Bool, true, false, refl, sym, ap, subst, ◌∙◌, arith}
use Rattle.std.proofs.Common.{cond, None, Ordering, Less, Equal, Greater, int_cmp, rules}
use Rattle.std.specs.{Prelude.◌==◌, Prelude.find, Prelude.nat_lt, Ordering.is_eq}
use Rattle.sqlite.specs.declared.types.Value.TheVariants.{Int}
use Rattle.sqlite_value.specs.Order.{Row, value_cmp}
use Rattle.sqlite_value.proofs.OrderLemmas.{value_cmp-Int}
use Rattle.sqlite_trees.specs.Tree.{rowid, put_row, without_rowid, has_rowid}
use Rattle.sqlite_rules.specs.{Edit.is_taken, Lists.Has}
use Rattle.model_laws.specs.Ordered.{Ascends}
use Rattle.model_laws.proofs.RowLists.{ascends_above, ascends_from, put_first, put_instead, put_past, remove_none}
use Rattle.model_laws.proofs.Basics.{less_differs, more_differs}
use Rattle.desk_model.specs.Change.{put, remove}

-- ---- two numbers

-- how SQL orders them
abbrev pub three : ℕ → ℕ → Ordering
three a b = int_cmp (pos a) (pos b)

-- a is below b
pub record IsLess (a b : ℕ) : Type 0 where
  pub low : a < b
  pub ranks : three a b ≡ Less
  pub apart : (b == a) ≡ false
  pub under : nat_lt b a ≡ false

-- they are one
pub record IsTied (a b : ℕ) : Type 0 where
  pub same : a ≡ b
  pub ranks : three a b ≡ Equal
  pub tied : (b == a) ≡ true

-- a is above b
pub record IsMore (a b : ℕ) : Type 0 where
  pub high : b < a
  pub ranks : three a b ≡ Greater
  pub apart : (b == a) ≡ false
  pub under : nat_lt b a ≡ true

-- one of the three
abbrev pub Ranked : ℕ → ℕ → Type 0
Ranked a b = IsLess a b ⊎ (IsTied a b ⊎ IsMore a b)

-- which of the three
pub ranked : (a b : ℕ) → Ranked a b
ranked a b = grind arith

-- SQL finds two numbers equal where the model does
pub eq_is : (a b : ℕ) → is_eq (three a b) ≡ (b == a)
eq_is a b = search (rules, ranked)

-- and then they are one
pub same_of_eq : (a b : ℕ) → is_eq (three a b) ≡ true → a ≡ b
same_of_eq a b eq = search (rules, ranked)

-- ---- rows in order

module _ {X : Type 0} (key : X → ℕ) where
  -- above a lower number, too
  pub above : (n m : ℕ) (xs : List X) → n ≤ m → Ascends key (m + 1) xs → Ascends key (n + 1) xs
  above n m xs low up = ascends_from key (n + 1) (m + 1) xs (omega (arith, low)) up

  -- no row above a key is removed with it
  pub kept : (n : ℕ) (xs : List X) → Ascends key (n + 1) xs → remove key n xs ≡ xs
  kept n xs up = remove_none key n xs (ascends_above key n (n + 1) xs (omega arith) up)

  -- the rows that have a key, as a query finds them
  abbrev pub with_key : ℕ → List X → List X
  with_key n = filter (λ x. is_eq (three (key x) n))

  -- none of the rows above it has the key
  pub none_with : (n : ℕ) (xs : List X) → Ascends key (n + 1) xs → with_key n xs ≡ []
  none_with n [] up = refl
  none_with n (x ∷ xs) up = elim (ranked (key x) n) [
    | inl less ↦ absurd (omega (arith, up.0, less.low))
    | inr (inl tied) ↦ absurd (omega (arith, up.0, tied.same))
    | inr (inr more) ↦ rw (more.ranks) (none_with n xs (above n (key x) xs (omega (arith, more.high)) up.1))
  ]

  -- another row stays
  stays : (n : ℕ) (y : X) (ys : List X) → (n == key y) ≡ false → remove key n (y ∷ ys) ≡ y ∷ remove key n ys
  stays n y ys apart = rw apart refl

  -- the one with the key goes
  goes : (n : ℕ) (y : X) (ys : List X) → (n == key y) ≡ true → remove key n (y ∷ ys) ≡ remove key n ys
  goes n y ys tied = rw tied refl

  -- to put a row is to remove the one with its key, and to put it then
  pub put_anew : (x : X) (m : ℕ) (xs : List X) → Ascends key m xs → put key x (remove key (key x) xs) ≡ put key x xs
  put_anew x m [] up = refl
  put_anew x m (y ∷ ys) up = elim (ranked (key y) (key x)) [
    | inl less ↦
        ap (put key x) (stays (key x) y ys less.apart)
        ∙ put_past key x y (remove key (key x) ys) less.low
        ∙ ap (λ zs. y ∷ zs) (put_anew x (key y + 1) ys up.1)
        ∙ sym (put_past key x y ys less.low)
    | inr (inl tied) ↦
        let more : Ascends key (key x + 1) ys = subst (λ k. Ascends key (k + 1) ys) tied.same up.1 in
        ap (put key x) (goes (key x) y ys tied.tied ∙ kept (key x) ys more)
        ∙ put_first key x ys (ascends_above key (key x) (key x + 1) ys (omega arith) more)
        ∙ sym (put_instead key x y ys tied.same)
    | inr (inr more) ↦
        let rest = above (key x) (key y) ys (omega (arith, more.high)) up.1 in
        ap (put key x) (stays (key x) y ys more.apart ∙ ap (λ zs. y ∷ zs) (kept (key x) ys rest))
  ]

  -- rows stay in order
  pub put_ascends : (m : ℕ) (x : X) (xs : List X) → m ≤ key x → Ascends key m xs → Ascends key m (put key x xs)
  put_ascends m x [] low up = (low, tt)
  put_ascends m x (y ∷ ys) low up = elim (ranked (key y) (key x)) [
    | inl less ↦ rw (less.apart, less.under) (up.0, put_ascends (key y + 1) x ys (omega (arith, less.low)) up.1)
    | inr (inl tied) ↦ rw (tied.tied) (low, subst (λ k. Ascends key (k + 1) ys) tied.same up.1)
    | inr (inr more) ↦ rw (more.apart, more.under) (low, (omega (arith, more.high), up.1))
  ]

  -- ---- the same of rows as the engine keeps them

  module _ (row : X → Row) (first : (x : X) → rowid (row x) ≡ Int (pos (key x))) where
    -- row numbers are ordered as the keys
    ranked_as : (x y : X) → value_cmp (rowid (row x)) (rowid (row y)) ≡ three (key x) (key y)
    ranked_as x y = rw (first x, first y) (value_cmp-Int (pos (key x)) (pos (key y)))

    -- the engine puts a row where the model does
    pub put_row_as : (x : X) (xs : List X) → put_row (row x) (map row xs) ≡ map row (put key x xs)
    put_row_as x [] = refl
    put_row_as x (y ∷ ys) = rw (ranked_as y x) (elim (ranked (key y) (key x)) [
      | inl less ↦ rw (less.ranks, less.apart, less.under) (ap (λ rs. row y ∷ rs) (put_row_as x ys))
      | inr (inl tied) ↦ rw (tied.ranks, tied.tied) refl
      | inr (inr more) ↦ rw (more.ranks, more.apart, more.under) refl
    ])

    -- a row whose number is not taken has a key that no row has
    pub untaken : (x : X) (xs : List X) → is_taken (map row xs) (row x) ≡ false → find (λ r. key r == key x) xs ≡ None
    untaken x [] free = refl
    untaken x (y ∷ ys) free =
        let test = rw (ranked_as y x) at free in
        elim (ranked (key y) (key x)) [
          | inl less ↦ rw (less_differs (key y) (key x) less.low) (untaken x ys (rw (less.ranks) at test))
          | inr (inl tied) ↦ absurd (let e = rw (tied.ranks) at test in cc)
          | inr (inr more) ↦ rw (more_differs (key y) (key x) more.high) (untaken x ys (rw (more.ranks) at test))
        ]

    -- a row has a number where it has the key
    has_as : (n : ℕ) (x : X) → has_rowid (pos n) (row x) ≡ (n == key x)
    has_as n x = ap is_eq (rw (first x) (value_cmp-Int (pos (key x)) (pos n))) ∙ eq_is (key x) n

    -- and removes the one that the model does
    pub without_as : (n : ℕ) (xs : List X) → without_rowid (pos n) (map row xs) ≡ map row (remove key n xs)
    without_as n [] = refl
    without_as n (x ∷ xs) = rw (has_as n x) (go (n == key x) (without_as n xs))
      where
        go : (b : Bool) → without_rowid (pos n) (map row xs) ≡ map row (remove key n xs)
            → cond (not b) (row x ∷ without_rowid (pos n) (map row xs)) (without_rowid (pos n) (map row xs))
            ≡ map row (cond (not b) (x ∷ remove key n xs) (remove key n xs))
        go true more = more
        go false more = ap (λ rs. row x ∷ rs) more

  -- no row is below the first
  pub has_from : (m : ℕ) (xs : List X) (y : X) → Ascends key m xs → Has xs y → m ≤ key y
  has_from m [] y up h = absurd h
  has_from m (x ∷ xs) y up (inl here) = let same : key y ≡ key x = ap key here in omega (arith, up.0)
  has_from m (x ∷ xs) y up (inr there) = let after = has_from (key x + 1) xs y up.1 there in omega (arith, up.0)

  -- a row is the only one that has its key
  pub alone_with : (m : ℕ) (xs : List X) (x : X) → Ascends key m xs → Has xs x → with_key (key x) xs ≡ x ∷ []
  alone_with m [] x up h = absurd h
  alone_with m (y ∷ ys) x up (inl here) = subst (λ z. with_key (key z) (y ∷ ys) ≡ z ∷ []) (sym here) (elim (ranked (key y) (key y)) [
    | inl less ↦ absurd (omega (arith, less.low))
    | inr (inl tied) ↦ rw (tied.ranks) (ap (λ zs. y ∷ zs) (none_with (key y) ys up.1))
    | inr (inr more) ↦ absurd (omega (arith, more.high))
  ])
  alone_with m (y ∷ ys) x up (inr there) =
      let after = has_from (key y + 1) ys x up.1 there in
      elim (ranked (key y) (key x)) [
        | inl less ↦ rw (less.ranks) (alone_with (key y + 1) ys x up.1 there)
        | inr (inl tied) ↦ absurd (omega (arith, after, tied.same))
        | inr (inr more) ↦ absurd (omega (arith, after, more.high))
      ]

  -- a key stands once or not at all
  pub one_or_none : (n m : ℕ) (xs : List X) → Ascends key m xs → (with_key n xs ≡ []) ⊎ ((x : X) × (key x ≡ n) × (with_key n xs ≡ x ∷ []))
  one_or_none n m [] up = inl refl
  one_or_none n m (x ∷ xs) up = elim (ranked (key x) n) [
    | inl less ↦ rw (less.ranks) (one_or_none n (key x + 1) xs up.1)
    | inr (inl tied) ↦ inr (x, tied.same, rw (tied.ranks) (ap (λ ys. x ∷ ys) (none_with n xs (subst (λ k. Ascends key (k + 1) xs) tied.same up.1))))
    | inr (inr more) ↦ inl (rw (more.ranks) (none_with n xs (above n (key x) xs (omega (arith, more.high)) up.1)))
  ]

  -- a key that stands nowhere removes nothing
  pub none_out : (n : ℕ) (xs : List X) → with_key n xs ≡ [] → remove key n xs ≡ xs
  none_out n [] none = refl
  none_out n (x ∷ xs) none = elim (ranked (key x) n) [
    | inl less ↦ rw (less.apart) (ap (λ ys. x ∷ ys) (none_out n xs (rw (less.ranks) at none)))
    | inr (inl tied) ↦ absurd (let e : x ∷ with_key n xs ≡ [] = rw (tied.ranks) at none in cc)
    | inr (inr more) ↦ rw (more.apart) (ap (λ ys. x ∷ ys) (none_out n xs (rw (more.ranks) at none)))
  ]
