-- What a task does with the store of a desk.
use Rattle.std.specs.Prelude.{ℕ, List, Option, Result}
use Rattle.store_api.specs.{Sight.Sight, Storing.Causes}

-- what is so of a store before and after, where a task ends by this exit status or this fault: by what may be said of the store as one
-- that answers calls, and what its failures come from, and by what may be said of it as one whose rows are read
abbrev pub Doing : Type 0 → Type 1
Doing F = (S C D : Type 0) → Sight S C → Causes S → Sight S D → S → S → Result ℕ F → Type 0

-- the same of a task whose writer was given these bytes before it and has these behind it, where they are known
abbrev pub Deed : Type 0 → Type 1
Deed F = (was is : Option (List ℕ)) → Doing F
