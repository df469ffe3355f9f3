-- A row in the place of one with its number, whose columns it has.
use Rattle.std.proofs.Common.{◌≡◌, inl, inr, ℕ, ◌+◌, List, [], ◌∷◌, map, arith}
use Rattle.sqlite_rules.specs.Lists.{Has}
use Rattle.model_laws.specs.Ordered.{Ascends}
use Rattle.desk_model.specs.Change.{put}
use Rattle.sql_tables.proofs.Keyed.{has_from}

module _ {X Y : Type 0} (key : X → ℕ) (image : X → Y) (x y : X) where
  -- what both have stays as it was
  pub put_alike : (n : ℕ) (rows : List X) → Ascends key n rows → Has rows y → key y ≡ key x → image y ≡ image x
      → map image (put key x rows) ≡ map image rows
  put_alike n [] up there same alike = absurd there
  put_alike n (z ∷ zs) up (inl here) same alike = grind arith
  put_alike n (z ∷ zs) up (inr there) same alike = grind (arith, has_from, (put_alike (key z + 1) zs up.1 there same alike))
