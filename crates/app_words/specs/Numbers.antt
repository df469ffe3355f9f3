-- Numbers, as words write them.
use Rattle.std.specs.Prelude.{◌≡◌, ◌<◌, ◌^◌, ℕ, List, decimal}

-- the decimal text of a number of 64 bits, which has no sign and no zero in front
pub record IsDecimal (text : List ℕ) (n : ℕ) : Type 0 where
  pub digits : text ≡ decimal n
  pub fits : n < 2 ^ 64
