-- Rows that are put into a table without what belongs to them.
use Rattle.std.proofs.Common.{◌≡◌, ℕ, List, [], ◌∷◌, map, refl, ap, ◌∙◌, true, false, Bool, cond, arith}
use Rattle.std.proofs.lemmas.Grind.{flat_map-append}
use Rattle.std.specs.{Prelude.◌==◌, Prelude.nat_lt, List.flat_map}
use Rattle.desk_model.specs.{Change.put, Derived.numbers_of, Tables.Tables, declared.rows.OrderRow.OrderRow}
use Rattle.model_laws.specs.Placing.{puts}
use Rattle.model_parts.specs.{LookUps.authorizations_numbered, Loaded.listed_authorizations}

module _ {X : Type 0} (number : X → ℕ) (bare : X → X) (same : (x : X) → number (bare x) ≡ number x) where
  -- a bare row is put where the row would be
  pub put_bare : (x : X) (ys : List X) → put number (bare x) (map bare ys) ≡ map bare (put number x ys)
  put_bare x [] = refl
  put_bare x (y ∷ ys) =
      (λ i. cond (same x i == same y i) (bare x ∷ map bare ys)
      (cond (nat_lt (same x i) (same y i)) (bare x ∷ bare y ∷ map bare ys) (bare y ∷ put number (bare x) (map bare ys))))
      ∙ by (number x == number y) (nat_lt (number x) (number y)) (put_bare x ys)
    where
      by : (b c : Bool) → put number (bare x) (map bare ys) ≡ map bare (put number x ys) →
          cond b (bare x ∷ map bare ys) (cond c (bare x ∷ bare y ∷ map bare ys) (bare y ∷ put number (bare x) (map bare ys)))
          ≡ map bare (cond b (x ∷ ys) (cond c (x ∷ y ∷ ys) (y ∷ put number x ys)))
      by true c ih = refl
      by false true ih = refl
      by false false ih = ap (λ l. bare y ∷ l) ih

  -- and so are bare rows
  pub puts_bare : (xs ys : List X) → puts number (map bare xs) (map bare ys) ≡ map bare (puts number xs ys)
  puts_bare [] ys = refl
  puts_bare (x ∷ xs) ys = ap (puts number (map bare xs)) (put_bare x ys) ∙ puts_bare xs (put number x ys)

-- what orders list, order by order
pub nested : (T : Tables) (os : List OrderRow) → flat_map (authorizations_numbered T) (flat_map (λ o. numbers_of o.listed) os) ≡ listed_authorizations T os
nested T [] = refl
nested T (o ∷ os) = grind (arith, flat_map-append, (nested T os))
