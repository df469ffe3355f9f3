-- How a row is written, by what is known to stand in its place.
use Rattle.std.specs.Prelude.{Bool, true, false, Option, Some, None}
use Rattle.sql_write.specs.declared.stored.{Difference.Difference, Write.Write, Difference.TheVariants.Same, Difference.TheVariants.Moved}
use Rattle.sql_write.specs.declared.stored.{Difference.TheVariants.Other, Write.TheVariants.Upsert, Write.TheVariants.Insert, Write.TheVariants.Update}

-- by whether a row keeps what it was made with, and whether all else is the same
abbrev pub difference : Bool → Bool → Difference
difference true true = Same
difference true false = Moved
difference false same = Other

-- not at all where it stands there as it is
abbrev pub write : Option Difference → Bool → Option Write
write (Some Same) new = None
write (Some Moved) new = Some Update
write (Some Other) new = Some Upsert
write None true = Some Insert
write None false = Some Upsert
