-- A moment that has a text, whatever the number.
use Rattle.std.specs.Prelude.{ℕ, min}
use Rattle.desk_model.specs.Limits.{last_end}

-- the moment, or the last one that has a text where it is past that
abbrev pub capped : ℕ → ℕ
capped moment = min moment last_end
