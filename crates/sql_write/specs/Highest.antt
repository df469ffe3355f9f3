-- Above which numbers changes put no row.
use Rattle.std.specs.Prelude.{◌≡◌, ◌<◌, ℕ, List, Option}
use Rattle.desk_model.specs.Questions.{account_on, authorization_on, order_on}
use Rattle.desk_model.specs.{Change.applied_one, Kept.EachOf, Tables.Tables, declared.rows.Change.Change}
use Rattle.sql_write.specs.declared.stored.Highest.{Highest}

-- whatever the tables, above this number the change leaves what is found in them
abbrev pub PutsNone : {X : Type 0} → (Tables → ℕ → Option X) → ℕ → Change → Type 0
PutsNone on highest change = (T : Tables) (n : ℕ) → highest < n → on (applied_one change T) n ≡ on T n

-- and so each of these changes
pub record IsAbove (highest : Highest) (changes : List Change) : Type 0 where
  pub accounts : EachOf (PutsNone account_on highest.accounts) changes
  pub authorizations : EachOf (PutsNone authorization_on highest.authorizations) changes
  pub orders : EachOf (PutsNone order_on highest.orders) changes
