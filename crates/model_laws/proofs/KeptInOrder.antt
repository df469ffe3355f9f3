-- Change after change, what is put has the children of what stands there by then.
use Rattle.std.proofs.Common.{◌≤◌, ℕ, List, ◌∷◌}
use Rattle.desk_model.specs.{Change.recorded_changes, Entry.History, Legal.EachFollows, Tables.picture, declared.entry.Entry.Entry, History.clock}
use Rattle.desk_model.specs.{History.record_all}
use Rattle.model_laws.specs.News.{AreKept}
use Rattle.model_laws.proofs.{InTurn.in_turn, PutsDiffer.keeps_children, Recorded.record_leads}

-- what a call records keeps all children
pub records_keep : (F : History) (e : Entry) (es : List Entry) (m : ℕ) → clock F ≤ m → EachFollows (record_all m (e ∷ es) F) →
    AreKept (picture F) (recorded_changes m (picture F) (e ∷ es))
records_keep F e es m le h = in_turn _ _ keeps_children _ _ (record_leads F e es m le h).0
