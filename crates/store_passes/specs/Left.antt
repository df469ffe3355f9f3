-- What a pass has before it.
use Rattle.std.specs.Prelude.{◌≡◌, ℕ, List, [], ◌∷◌, Option, Some, None}
use Rattle.std.specs.List.{flat_map}
use Rattle.desk_model.specs.Derived.{account_faults, authorization_faults, challenge_faults, order_faults, sorted_challenges}
use Rattle.desk_model.specs.{Tables.Tables, declared.rows.StatusFault.StatusFault}
use Rattle.model_parts.specs.Above.{above, accounts_above, authorizations_above, challenges_above, orders_above}
use Rattle.store_passes.specs.declared.fault_kind.FaultKind.{FaultKind}
use Rattle.store_passes.specs.declared.fault_kind.FaultKind.TheVariants as kind

-- the faults of a kind in the rows above a number, at a moment
abbrev pub faults_above : Tables → FaultKind → ℕ → ℕ → List StatusFault
faults_above T kind.Account moment n = flat_map account_faults (accounts_above T n)
faults_above T kind.Order moment n = flat_map (order_faults moment T.authorizations) (orders_above T n)
faults_above T kind.Authorization moment n = flat_map (authorization_faults moment) (authorizations_above T n)
faults_above T kind.Challenge moment n = flat_map challenge_faults (challenges_above T n)

-- all faults of a kind, at the desk's clock
abbrev pub faults_of : Tables → FaultKind → List StatusFault
faults_of T kind.Account = flat_map account_faults T.accounts
faults_of T kind.Order = flat_map (order_faults T.meta.counters.clock T.authorizations) T.orders
faults_of T kind.Authorization = flat_map (authorization_faults T.meta.counters.clock) T.authorizations
faults_of T kind.Challenge = flat_map challenge_faults (sorted_challenges (flat_map (λ r. r.challenges) T.authorizations))

-- what was given is the first of what was left, or nothing was left
abbrev pub IsNext : {X : Type 0} → Option X → List X → List X → Type 0
IsNext None before after = before ≡ []
IsNext (Some x) before after = before ≡ x ∷ after

-- of the rows above a number the one that was given is the first, and those above its own are left behind it; or there are none
abbrev pub IsRowAfter : {X : Type 0} → (number : X → ℕ) → List X → ℕ → Option X → Type 0
IsRowAfter number rows n None = above number n rows ≡ []
IsRowAfter number rows n (Some x) = above number n rows ≡ x ∷ above number (number x) rows
