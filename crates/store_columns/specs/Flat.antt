-- The rows of a book, table by table.
use Rattle.std.specs.Prelude.{ℕ, List, [], ◌∷◌, map, Option, None, option_map, filter_map}
use Rattle.std.specs.{List.flat_map, List.Sorted.IsPermutation}
use Rattle.desk_model.specs.{Tables.Tables, declared.objects.Answer.Answer, declared.rows.AuthorizationRow.AuthorizationRow}
use Rattle.desk_model.specs.{declared.rows.ChallengeRow.ChallengeRow, declared.rows.Listed.Listed, declared.rows.OrderRow.OrderRow}
use Rattle.store_columns.specs.declared.columns.{AnswerKey.AnswerKey, BareChallenge.BareChallenge, Owned.Owned, FlatRows.FlatRows}

-- rows that belong to the row of this number
abbrev pub owned_by : {T : Type 0} → ℕ → List T → List (Owned T)
owned_by owner rows = map (λ r. record { owner = owner; row = r }) rows

-- an order without what it lists
abbrev pub without_listed : OrderRow → OrderRow
without_listed o = record o { listed = [] }

-- an order in summary: what it was made with and its status, without what it lists and what calls have recorded of it
abbrev pub summarized : OrderRow → OrderRow
summarized o = record o { listed = []; finalized = None; certified = None; failed = None }

-- an authorization without its challenges
abbrev pub without_challenges : AuthorizationRow → AuthorizationRow
without_challenges a = record a { challenges = [] }

-- what orders list, under their numbers
abbrev pub listed_rows : List OrderRow → List (Owned Listed)
listed_rows rows = flat_map (λ o. owned_by o.number o.listed) rows

-- the challenges of authorizations, under their numbers
abbrev pub challenge_rows : List AuthorizationRow → List (Owned ChallengeRow)
challenge_rows rows = flat_map (λ a. owned_by a.number a.challenges) rows

-- a challenge without the key of its answer
abbrev pub bare : ChallengeRow → BareChallenge
bare c = record { number = c.number; kind = c.kind; token = c.token; answered = option_map (λ a. a.date) c.answered; reported = c.reported; status = c.status }

-- a challenge of its table, with this answer
abbrev pub with_answer : BareChallenge → Option Answer → ChallengeRow
with_answer c answered = record { number = c.number; kind = c.kind; token = c.token; answered = answered; reported = c.reported; status = c.status }

-- the bare challenge, under its authorization
abbrev pub bare_row : Owned ChallengeRow → Owned BareChallenge
bare_row c = record { owner = c.owner; row = bare c.row }

-- the key of its answer
abbrev pub answer_key : ChallengeRow → Option AnswerKey
answer_key c = option_map (λ a. record { challenge = c.number; thumb = a.thumb }) c.answered

-- the keys of the answers of challenges, in their order
abbrev pub key_rows : List (Owned ChallengeRow) → List AnswerKey
key_rows rows = filter_map (λ c. answer_key c.row) rows

-- the rows of these tables
abbrev pub flat : Tables → FlatRows
flat T =
    record {
      metas = T.meta ∷ [];
      nonces = T.nonces;
      accounts = T.accounts;
      orders = map without_listed T.orders;
      authorizations = map without_challenges T.authorizations;
      listed = listed_rows T.orders;
      challenges = map bare_row (challenge_rows T.authorizations);
      keys = key_rows (challenge_rows T.authorizations);
    }

-- the same rows in each table, in any order
pub record AreReordered (rows others : FlatRows) : Type 0 where
  pub metas : IsPermutation rows.metas others.metas
  pub nonces : IsPermutation rows.nonces others.nonces
  pub accounts : IsPermutation rows.accounts others.accounts
  pub orders : IsPermutation rows.orders others.orders
  pub authorizations : IsPermutation rows.authorizations others.authorizations
  pub listed : IsPermutation rows.listed others.listed
  pub challenges : IsPermutation rows.challenges others.challenges
  pub keys : IsPermutation rows.keys others.keys
