-- What a decision promises, against the history of whose picture the book is a part.
use Rattle.std.specs.Prelude.{◌≡◌, Some, None, List, []}
use Rattle.desk_model.specs.{Entry.History, History.moment_of, Legal.Legal, Tables.picture, Run.fault, Change.applied, Change.recorded_changes, Decide.decide}
use Rattle.desk_model.specs.{Decide.after, declared.call.Call.Call, declared.reply.Reply.Reply, declared.rows.Change.Change}
use Rattle.model_laws.specs.News.{AreKept, AreNewChildren, AreNews}
use Rattle.core_rules.specs.declared.fault.CoreFault.{CoreFault}
use Rattle.core_rules.specs.declared.fault.CoreFault.TheVariants as core

-- the call has no fault, and the reply is the model's; the changes are those of the recorded entries, none where nothing is
-- recorded: they put news alone, keep children, bring new ones that stand nowhere yet, and make the picture of the longer
-- history, which is legal
pub record IsDecision (F : History) (call : Call) (changes : List Change) (reply : Reply) : Type 0 where
  pub faultless : fault F call ≡ None
  pub replies : reply ≡ (decide F call).reply
  pub recorded : changes ≡ recorded_changes (moment_of call.at F) (picture F) (decide F call).entries
  pub quiet : (decide F call).entries ≡ [] → changes ≡ []
  pub news : AreNews (picture F) changes
  pub kept : AreKept (picture F) changes
  pub fresh : AreNewChildren (picture F) changes
  pub makes : applied changes (picture F) ≡ picture (after F call)
  pub stays_legal : Legal (after F call)

-- the fault is the model's; out of memory is the code's own
abbrev pub IsFaultOf : History → Call → CoreFault → Type 0
IsFaultOf F call core.Memory = Unit {0}
IsFaultOf F call core.Full = fault F call ≡ Some 26
IsFaultOf F call core.ShortRandom = fault F call ≡ Some 25
