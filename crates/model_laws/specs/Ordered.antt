-- Tables whose rows stand by number.
use Rattle.std.specs.Prelude.{ℕ, ◌+◌, ◌≤◌, ◌<◌, List, [], ◌∷◌}
use Rattle.desk_model.specs.{Tables.Tables, Kept.EachOf}

-- the numbers ascend, from n on
abbrev pub Ascends : {X : Type 0} → (X → ℕ) → ℕ → List X → Type 0
Ascends number n [] = Unit {0}
Ascends number n (x ∷ xs) = (n ≤ number x) × Ascends number (number x + 1) xs

-- each number is below n
abbrev pub Below : {X : Type 0} → (X → ℕ) → ℕ → List X → Type 0
Below number n xs = EachOf (λ x. number x < n) xs

-- the numbers ascend, and none is above the last one given
abbrev pub IsTable : {X : Type 0} → (X → ℕ) → ℕ → List X → Type 0
IsTable number last rows = Ascends number 1 rows × Below number (last + 1) rows

-- each table stands by number
pub record IsOrdered (T : Tables) : Type 0 where
  pub nonces : IsTable (λ n. n.serial) T.meta.counters.nonces T.nonces
  pub accounts : IsTable (λ a. a.number) T.meta.counters.accounts T.accounts
  pub authorizations : IsTable (λ a. a.number) T.meta.counters.authorizations T.authorizations
  pub orders : IsTable (λ o. o.number) T.meta.counters.orders T.orders
