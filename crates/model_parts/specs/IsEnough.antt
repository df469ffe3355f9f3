-- When rows are enough for a call, though they may lack what it touches.
use Rattle.std.specs.{Prelude.◌≡◌, Prelude.◌&&◌, Prelude.ℕ, Prelude.max, Prelude.Bool, Prelude.map, List.filter, List.list_any}
use Rattle.desk_model.specs.{Legal.is_processing_challenge, Order.is_processing, Tables.Tables, Touched.lists, Touched.only_meta, declared.call.Ask.Ask}
use Rattle.desk_model.specs.{declared.call.Call.Call, declared.rows.AuthorizationRow.AuthorizationRow}
use Rattle.desk_model.specs.declared.call.Ask.TheVariants as ask
use Rattle.desk_model.specs.declared.call.OfficeAsk.TheVariants as office
use Rattle.model_parts.specs.{AnswersAs.AnswersAs, MinimalPart.needed_rows}
use Rattle.model_parts.specs.Thinned.{Thinning, thinned, waiting_challenges, with_challenges, without_challenges}

-- the part is cut from the whole, of whose rows it may lack what belongs to them, and answers the call as the whole does
pub record IsEnoughFor (call : Call) (whole part : Tables) : Type 0 where
  pub kept : Thinning
  pub cut : part ≡ thinned kept whole
  pub answers : AnswersAs (max call.at whole.meta.counters.clock) call.ask whole part

-- ---- the rows that are enough for each call

-- one of its challenges waits for the validator, by what is stored
abbrev pub has_work : AuthorizationRow → Bool
has_work r = list_any (λ c. is_processing_challenge c.status) r.challenges

-- an order that waits for its certificate, by what is stored, lists it
abbrev pub is_worked_on : Tables → AuthorizationRow → Bool
is_worked_on T r = list_any (λ o. is_processing o.status && lists o r.number) T.orders

-- for the work of the validator: these authorizations, whose ends tell whether they are still pending, with the challenges that wait alone
abbrev pub challenge_work_rows : Tables → Tables
challenge_work_rows T = record (only_meta T) { authorizations = map (with_challenges waiting_challenges) (filter has_work T.authorizations) }

-- for the work of the issuer: these orders, and the authorizations that they list, whose ends let an order fall, without challenges
abbrev pub order_work_rows : Tables → Tables
order_work_rows T =
    record (only_meta T) {
      authorizations = map without_challenges (filter (is_worked_on T) T.authorizations);
      orders = filter (λ o. is_processing o.status) T.orders;
    }

-- the directory shows no row; for other calls: what they name, what falls, and what decides a status that may change
abbrev pub enough_at : Tables → ℕ → Ask → Tables
enough_at T m (ask.Office office.Directory) = only_meta T
enough_at T m (ask.Office office.ChallengeWork) = challenge_work_rows T
enough_at T m (ask.Office office.OrderWork) = order_work_rows T
enough_at T m a = needed_rows T m a

-- at the moment at which the call acts
abbrev pub enough : Tables → Call → Tables
enough T call = enough_at T (max call.at T.meta.counters.clock) call.ask
