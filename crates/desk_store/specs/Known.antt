-- What a store knows of its tables without asking for it.
use Rattle.std.specs.Prelude.{ℕ, ◌≡◌, ◌≤◌, ◌%◌, ◌==◌, List, Option, None, Some, IfSome, find, is_some, nat_le, replicate}
use Rattle.std.specs.Prelude.{slice_index, slice_index_or, slice_set, if◌then◌else◌}
use Rattle.desk_model.specs.{Derived.authz_code, Derived.order_code, Kept.EachOf, Tables.Tables, declared.objects.Nonce.Nonce}
use Rattle.desk_store.specs.declared.known.Known.{Known}

-- no more than that no moment is before 0
abbrev pub nothing : Known
nothing = record { meta = None; nonces = replicate 8 None; first_issue = 0; order_ends = replicate 5 0; authorization_ends = replicate 6 0 }

-- the place of a serial among the nonces that are known
abbrev pub nonce_place : ℕ → ℕ
nonce_place n = n % 8

-- what stands in that place
abbrev pub nonce_at : List (Option Nonce) → ℕ → Option Nonce
nonce_at nonces n = slice_index_or nonces (nonce_place n) None

-- a nonce, if it is that of the serial
abbrev pub of_serial : ℕ → Option Nonce → Option Nonce
of_serial n None = None
of_serial n (Some x) = if x.serial == n then Some x else None

-- the nonce of a serial, where it is one of these
abbrev pub known_nonce : List (Option Nonce) → ℕ → Option Nonce
known_nonce nonces n = of_serial n (nonce_at nonces n)

-- these without the nonce of a serial
abbrev pub without : List (Option Nonce) → ℕ → List (Option Nonce)
without nonces n = if is_some (known_nonce nonces n) then slice_set nonces (nonce_place n) None else nonces

-- each of them that stands in the place of its serial is among these rows
abbrev pub AreThere : List (Option Nonce) → List Nonce → Type 0
AreThere nonces rows = (x : Nonce) → nonce_at nonces x.serial ≡ Some x → find (λ y. y.serial == x.serial) rows ≡ Some x

-- each row has its end at the moment that stands under the code of its status, or later
abbrev pub EndFrom : {X : Type 0} → (code end : X → ℕ) → List ℕ → List X → Type 0
EndFrom code end ends rows = EachOf (λ x. slice_index ends (code x) ≤ end x) rows

-- what is known is so of these tables
pub record IsKnownOf (known : Known) (T : Tables) : Type 0 where
  pub meta : IfSome known.meta (λ meta. meta ≡ T.meta)
  pub nonces : AreThere known.nonces T.nonces
  pub issues : EachOf (λ n. known.first_issue ≤ n.issued) T.nonces
  pub orders : EndFrom (λ o. order_code o.status) (λ o. o.expires) known.order_ends T.orders
  pub authorizations : EndFrom (λ r. authz_code r.status) (λ r. r.expires) known.authorization_ends T.authorizations

-- the moment from which rows are there, where the earliest of them is found; with none, no moment is too late
abbrev pub bound_of : Option ℕ → ℕ
bound_of None = 18446744073709551615
bound_of (Some m) = m

-- the earlier of two moments
abbrev pub earlier : ℕ → ℕ → ℕ
earlier m n = if nat_le m n then m else n

-- the moments with the one in this place no later than this end
abbrev pub lowered : List ℕ → ℕ → ℕ → List ℕ
lowered ends place end = slice_set ends place (earlier (slice_index ends place) end)
