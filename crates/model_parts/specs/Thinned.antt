-- Some rows of the tables, chosen by their numbers, which may lack rows that belong to them.
use Rattle.std.specs.Prelude.{ℕ, [], None, Bool, true, false, map, if◌then◌else◌}
use Rattle.std.specs.List.{filter}
use Rattle.desk_model.specs.{Kept.Kept, Kept.restricted, Legal.is_processing_challenge, Tables.Tables, declared.rows.AuthorizationRow.AuthorizationRow}
use Rattle.desk_model.specs.{declared.rows.ChallengeRow.ChallengeRow, declared.rows.OrderRow.OrderRow}

-- an authorization with some of its challenges
abbrev pub with_challenges : (ℕ → ChallengeRow → Bool) → AuthorizationRow → AuthorizationRow
with_challenges kept r = record r { challenges = filter (kept r.number) r.challenges }

-- an order whole, or its summary: what it was made with and its status, without what it lists and what calls have recorded of it
abbrev pub whole_if : Bool → OrderRow → OrderRow
whole_if whole o =
    record o {
      listed = if whole then o.listed else [];
      finalized = if whole then o.finalized else None;
      certified = if whole then o.certified else None;
      failed = if whole then o.failed else None;
    }

-- those of these numbers whole
abbrev pub with_orders : (ℕ → Bool) → OrderRow → OrderRow
with_orders whole o = whole_if (whole o.number) o

-- all rows, with these challenges, and with these orders whole
abbrev pub thin : (ℕ → ChallengeRow → Bool) → (ℕ → Bool) → Tables → Tables
thin challenges whole T =
    record {
      meta = T.meta;
      nonces = T.nonces;
      accounts = T.accounts;
      authorizations = map (with_challenges challenges) T.authorizations;
      orders = map (with_orders whole) T.orders;
    }

-- an authorization without its challenges
abbrev pub without_challenges : AuthorizationRow → AuthorizationRow
without_challenges r = record r { challenges = [] }

-- the summary of an order
abbrev pub summarized : OrderRow → OrderRow
summarized o = whole_if false o

-- which rows are kept, of an authorization which challenges, and which orders whole
pub record Thinning : Type 0 where
  pub rows : Kept
  pub challenges : ℕ → ChallengeRow → Bool
  pub whole : ℕ → Bool

-- these rows, without what is not kept of them
abbrev pub thinned : Thinning → Tables → Tables
thinned t T = thin t.challenges t.whole (restricted t.rows T)

-- all challenges are kept, or none
abbrev pub all_challenges : ℕ → ChallengeRow → Bool
all_challenges n c = true

abbrev pub no_challenges : ℕ → ChallengeRow → Bool
no_challenges n c = false

-- those that are stored as waiting for the validator are kept
abbrev pub waiting_challenges : ℕ → ChallengeRow → Bool
waiting_challenges n c = is_processing_challenge c.status

-- each order is kept whole
abbrev pub all_whole : ℕ → Bool
all_whole n = true

-- the rows are kept whole
abbrev pub in_whole : Kept → Thinning
in_whole k = record { rows = k; challenges = all_challenges; whole = all_whole }
