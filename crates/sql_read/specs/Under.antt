-- Rows under the rows that they belong to.
use Rattle.std.specs.{Prelude.◌≡◌, Prelude.◌==◌, Prelude.ℕ, Prelude.List, Prelude.map, List.filter}
use Rattle.store_columns.specs.{Flat.challenge_rows, Flat.listed_rows, declared.columns.Owned.Owned}
use Rattle.desk_model.specs.declared.rows.{AuthorizationRow.AuthorizationRow, OrderRow.OrderRow}

-- the rows that belong to the one of this number
abbrev pub rows_under : {R : Type 0} → ℕ → List (Owned R) → List R
rows_under n rows = map (λ r. r.row) (filter (λ r. r.owner == n) rows)

-- what is listed under the order's number is what it lists
abbrev pub HasItsListed : List OrderRow → OrderRow → Type 0
HasItsListed orders o = rows_under o.number (listed_rows orders) ≡ o.listed

-- the challenges under the authorization's number are its own
abbrev pub HasItsChallenges : List AuthorizationRow → AuthorizationRow → Type 0
HasItsChallenges authorizations a = rows_under a.number (challenge_rows authorizations) ≡ a.challenges
