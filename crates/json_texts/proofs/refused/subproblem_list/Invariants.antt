use Rattle.std.proofs.Common.{◌≡◌, map, take}
use Rattle.serde_json.specs.View.{view}
use Rattle.desk_model.specs.Refusals.{subproblem_document}
use Rattle.json_texts.proofs.refused.subproblem_list.Given as goal

abbrev pub invariant-loop-subproblem : goal.invariant-loop-subproblem
invariant-loop-subproblem l = map view l.documents.items ≡ map subproblem_document (take l.subproblem-index l.subproblems)
