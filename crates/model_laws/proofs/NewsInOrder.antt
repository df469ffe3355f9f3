-- Change after change, what is put differs from what stands there by then.
use Rattle.std.proofs.Common.{◌≤◌, ℕ, List, ◌∷◌}
use Rattle.desk_model.specs.{Change.recorded_changes, Entry.History, Legal.EachFollows, Tables.picture, declared.entry.Entry.Entry, History.clock}
use Rattle.desk_model.specs.{History.record_all}
use Rattle.model_laws.specs.News.{AreNews}
use Rattle.model_laws.proofs.{InTurn.in_turn, PutsDiffer.is_news, Recorded.record_leads}

-- what a call records puts news alone
pub records_put_news : (F : History) (e : Entry) (es : List Entry) (m : ℕ) → clock F ≤ m → EachFollows (record_all m (e ∷ es) F) →
    AreNews (picture F) (recorded_changes m (picture F) (e ∷ es))
records_put_news F e es m le h = in_turn _ _ is_news _ _ (record_leads F e es m le h).0
