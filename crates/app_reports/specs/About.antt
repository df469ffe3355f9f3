-- What is told about a desk.
use Rattle.std.specs.Prelude.{ℕ, ◌-◌, ◌++◌, List, Option, None, Some, codes, decimal, if◌then◌else◌, nat_lt}
use Rattle.desk_model.specs.{Derived.sorted_challenges, Moment.moment_text, Tables.Tables, Terms.Terms, declared.rows.Meta.Meta}
use Rattle.moments.specs.Capped.{capped}
use Rattle.std.specs.List.{flat_map}
use Rattle.app_reports.specs.Tallied.{accounts_said, authorizations_said, challenges_said, orders_said, tally_of}
use Rattle.desk_model.specs.Derived.{account_code, authz_code, chall_code, order_code}
use Rattle.app_reports.specs.declared.beside.Beside.{Beside}

-- by how many seconds a desk's clock is ahead of the machine's, if it is
abbrev pub ahead : (clock : ℕ) → (now : Option ℕ) → Option ℕ
ahead clock None = None
ahead clock (Some now) = if nat_lt now clock then Some (clock - now) else None

-- the format, and what the desk was made with: what each URL begins with, and the lives
abbrev pub base_said : Terms → List ℕ
base_said t = codes "format: 2\nbase: " ++ (t.base ++ codes "\n")

abbrev pub lives_said : Terms → List ℕ
lives_said t =
    codes "nonce life: " ++ (decimal t.nonce_life ++ (codes "\norder life: " ++ (decimal t.order_life ++ (codes "\nauthorization life: "
    ++ (decimal t.authz_life ++ codes "\n")))))

-- the clock, and by how much it is ahead
abbrev pub clock_said : (clock : ℕ) → (ahead : Option ℕ) → List ℕ
clock_said clock None = codes "clock: " ++ (moment_text (capped clock) ++ codes "\n")
clock_said clock (Some seconds) =
    codes "clock: " ++ (moment_text (capped clock) ++ (codes ", " ++ (decimal seconds ++ codes " seconds ahead of the machine's\n")))

-- what the desk's own row tells, beside the machine's moment
abbrev pub meta_said : (now : Option ℕ) → Meta → List ℕ
meta_said now m = base_said m.policy ++ (lives_said m.policy ++ clock_said m.counters.clock (ahead m.counters.clock now))

-- how many objects of each kind have each stored status
abbrev pub statuses_said : Tables → List ℕ
statuses_said T =
    accounts_said (tally_of (λ a. account_code a.status) T.accounts)
    ++ (authorizations_said (tally_of (λ a. authz_code a.status) T.authorizations)
    ++ (challenges_said (tally_of (λ c. chall_code c.status) (sorted_challenges (flat_map (λ r. r.challenges) T.authorizations)))
    ++ orders_said (tally_of (λ o. order_code o.status) T.orders)))

-- the whole text
abbrev pub about_text : Beside → Tables → List ℕ
about_text b T = meta_said b.now T.meta ++ (statuses_said T ++ (codes "log: " ++ (decimal b.log ++ codes "\n")))
