use Rattle.std.proofs.Common.{◌≡◌, length, take, false}
use Rattle.desk.specs.Runs.{AnswersAll}
use Rattle.desk.proofs.desk.Desk.answer_all.Given as goal

abbrev pub invariant-loop-call : goal.invariant-loop-call
invariant-loop-call g l = record {
  counted : length l.replies.items ≡ l.call-index;
  opened : l.self.is_closed ≡ false;
  policy : l.self.policy ≡ l.initial.self.policy;
  answered : AnswersAll g.K.Kept.sight l.initial.self.store (take l.call-index l.calls) l.replies.items l.self.store;
}
