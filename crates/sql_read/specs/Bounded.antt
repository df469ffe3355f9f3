-- Numbers as SQL has them.
use Rattle.std.specs.Prelude.{ℕ, if◌then◌else◌, nat_le}

-- the number, or the greatest that SQL has; no row of a desk has that one
abbrev pub bounded : ℕ → ℕ
bounded n = if nat_le n 9223372036854775807 then n else 9223372036854775807
