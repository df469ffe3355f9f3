-- The rows above a number: what a pass through a table still has before it.
use Rattle.std.specs.{Prelude.ℕ, Prelude.nat_lt, Prelude.List, Prelude.take, List.filter, List.flat_map}
use Rattle.desk_model.specs.{Derived.sorted_challenges, Tables.Tables}
use Rattle.desk_model.specs.declared.rows.{AccountRow.AccountRow, AuthorizationRow.AuthorizationRow, ChallengeRow.ChallengeRow, OrderRow.OrderRow}

-- the rows whose number is above n
abbrev pub above : {X : Type 0} → (X → ℕ) → ℕ → List X → List X
above number n rows = filter (λ x. nat_lt n (number x)) rows

-- the first of them, if there is one
abbrev pub first_of : {X : Type 0} → List X → List X
first_of rows = take 1 rows

abbrev pub accounts_above : Tables → ℕ → List AccountRow
accounts_above T n = above (λ x. x.number) n T.accounts

abbrev pub orders_above : Tables → ℕ → List OrderRow
orders_above T n = above (λ o. o.number) n T.orders

abbrev pub authorizations_above : Tables → ℕ → List AuthorizationRow
authorizations_above T n = above (λ r. r.number) n T.authorizations

-- challenges by number, through all authorizations
abbrev pub challenges_above : Tables → ℕ → List ChallengeRow
challenges_above T n = above (λ c. c.number) n (sorted_challenges (flat_map (λ r. r.challenges) T.authorizations))
