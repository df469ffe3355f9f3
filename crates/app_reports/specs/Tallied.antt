-- How many rows have each status.
use Rattle.std.specs.Prelude.{◌≡◌, ◌==◌, ℕ, ◌^◌, ◌-◌, ◌++◌, List, codes, decimal, length, min, slice_index}
use Rattle.std.specs.List.{filter}

-- ---- counts

-- how many of these rows have the place k, 2^64 - 1 at most
abbrev pub tally_of : {X : Type 0} → (place : X → ℕ) → List X → ℕ → ℕ
tally_of place rows k = min (length (filter (λ row. place row == k) rows)) (2 ^ 64 - 1)

-- so many stand at each place
abbrev pub IsTally : {X : Type 0} → (place : X → ℕ) → List X → List ℕ → Type 0
IsTally place rows counts = (k : ℕ) → slice_index counts k ≡ tally_of place rows k

-- ---- what is said of them, by how many there are at each place

abbrev pub accounts_said : (ℕ → ℕ) → List ℕ
accounts_said n =
    codes "accounts: " ++ (decimal (n 0) ++ (codes " valid, " ++ (decimal (n 1) ++ (codes " deactivated, " ++ (decimal (n 2) ++ codes " revoked\n")))))

-- of authorizations first those that have not ended, or are invalid, then those that ended otherwise
abbrev pub unended_said : (ℕ → ℕ) → List ℕ
unended_said n =
    codes "authorizations: " ++ (decimal (n 0) ++ (codes " pending, " ++ (decimal (n 1) ++ (codes " valid, " ++ (decimal (n 2) ++ codes " invalid")))))

abbrev pub ended_said : (ℕ → ℕ) → List ℕ
ended_said n =
    codes ", " ++ (decimal (n 3) ++ (codes " deactivated, " ++ (decimal (n 4) ++ (codes " expired, " ++ (decimal (n 5) ++ codes " revoked\n")))))

abbrev pub authorizations_said : (ℕ → ℕ) → List ℕ
authorizations_said n = unended_said n ++ ended_said n

abbrev pub challenges_said : (ℕ → ℕ) → List ℕ
challenges_said n =
    codes "challenges: " ++ (decimal (n 0) ++ (codes " pending, " ++ (decimal (n 1) ++ (codes " processing, " ++ (decimal (n 2) ++ (codes " valid, "
    ++ (decimal (n 3) ++ codes " invalid\n")))))))

abbrev pub orders_said : (ℕ → ℕ) → List ℕ
orders_said n =
    codes "orders: " ++ (decimal (n 0) ++ (codes " pending, " ++ (decimal (n 1) ++ (codes " ready, " ++ (decimal (n 2) ++ (codes " processing, "
    ++ (decimal (n 3) ++ (codes " valid, " ++ (decimal (n 4) ++ codes " invalid\n")))))))))
