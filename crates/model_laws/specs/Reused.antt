-- The authorizations that an order uses again.
use Rattle.std.specs.Prelude.{ℕ}
use Rattle.desk_model.specs.{declared.entry.Wanted.Wanted, declared.entry.Wanted.TheVariants.New as new, declared.entry.Wanted.TheVariants.Reused as reused}

-- what holds of the number of the authorization that the name gets, where it is used again
abbrev pub OfReused : (ℕ → Type 0) → Wanted → Type 0
OfReused P (new name tokens) = Unit {0}
OfReused P (reused name n) = P n
