-- That parts are enough for calls.
use Rattle.std.specs.Prelude.{ℕ, max, ◌≡◌, ◌≤◌}
use Rattle.desk_model.specs.Tables.{Tables, picture}
use Rattle.desk_model.specs.{Effect.swept, Entry.History, History.clock, Legal.EachFollows, Touched.touched, declared.call.Call.Call}
use Rattle.model_laws.specs.Ordered.{IsOrdered}
use Rattle.model_parts.specs.{AnswersAs.AnswersAs, IsPart.IsPartFor, Loaded.loaded, MinimalPart.IsStated, MinimalPart.IsStatedFor, IsEnough.IsEnoughFor}
use Rattle.model_parts.specs.{IsEnough.enough}

-- a part of the tables that holds the rows which a call touches answers it as the whole does
pub record TouchedRowsAreEnough : Type 0 where
  -- what the look-ups find is what the call touches
  pub loaded : (T : Tables) (call : Call) → IsOrdered T → loaded T call ≡ touched T call
  -- the rows that a call touches are a part for it
  pub touched : (T : Tables) (call : Call) → IsOrdered T → IsPartFor call T (touched T call)
  -- so are all rows
  pub whole : (T : Tables) (call : Call) → IsPartFor call T T
  -- a part of tables that stand by number stands by number
  pub ordered : (T P : Tables) (call : Call) → IsOrdered T → IsPartFor call T P → IsOrdered P
  -- a part for a call answers it as the whole
  pub answer : (T P : Tables) (call : Call) → IsOrdered T → IsPartFor call T P → AnswersAs (max call.at T.meta.counters.clock) call.ask T P
  -- so it is enough for it
  pub parts : (T P : Tables) (call : Call) → IsOrdered T → IsPartFor call T P → IsEnoughFor call T P
  -- and so are fewer rows: what is named, listed or falls, and what decides a status that may change or is shown
  pub minimal : (T : Tables) (call : Call) → IsOrdered T → IsStatedFor call.ask (max call.at T.meta.counters.clock) T → IsEnoughFor call T (enough T call)
  -- the statuses of a picture are at each later moment those that the rows give
  pub stated : (F : History) (m : ℕ) → EachFollows F → clock F ≤ m → IsStated m (swept m (picture F))
  -- rows that are enough for a call, of tables that stand by number, stand by number
  pub enough : (T P : Tables) (call : Call) → IsOrdered T → IsEnoughFor call T P → IsOrdered P
