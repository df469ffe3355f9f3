-- Which readings of the machine's clock a desk that is served takes for true.
use Rattle.std.specs.Prelude.{ℕ, ◌+◌, ◌&&◌, ◌||◌, Bool, true, Option, Some, None, if◌then◌else◌, max, nat_eq, nat_le}
use Rattle.desk_model.specs.Limits.{last_moment}
use Rattle.desk_http.specs.declared.moment_bound.MomentBound.{MomentBound}

-- a moment is no more than so many seconds above the latest that is known, or none is
abbrev pub is_near : (latest step at : ℕ) → Bool
is_near latest step at = nat_eq latest 0 || nat_le at (latest + step)

-- a call may be made at a moment: where no step is given at any, else at one that a desk knows and that is near
abbrev pub admits : (latest : ℕ) → (step : Option ℕ) → (at : ℕ) → Bool
admits latest None at = true
admits latest (Some step) at = nat_le at last_moment && is_near latest step at

-- the moment at which a call is made: the machine's, or one past the last
abbrev pub moment_for : MomentBound → ℕ → ℕ
moment_for bound at = if admits bound.latest bound.step at then at else (last_moment + 1)

-- what is known then: the later of the two, or no more than before
abbrev pub followed : MomentBound → ℕ → MomentBound
followed bound at =
    if admits bound.latest bound.step at then (record { step = bound.step; latest = max bound.latest at }) else bound
