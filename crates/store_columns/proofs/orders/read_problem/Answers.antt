use Rattle.std.proofs.Common.{◌≡◌, ◌↔◌, ℕ, Bool, List, Some, IsTrue, true, false, refl, arith}
use Rattle.std.specs.Bool.{then_some}
use Rattle.desk_model.specs.declared.call.OrderProblem.{OrderProblem}
use Rattle.json_texts.specs.Problems.{order_problem}
use Rattle.store_columns.specs.{Limits.IsProblem, Reading.IsRead, Spelling.problem_text}
use Rattle.store_columns.proofs.ProblemTexts.{same_problem}
use Rattle.store_columns.proofs.orders.read_problem.Goals as goal

-- what was found is read where the text spells it, and nothing where it does not
kept_where : (text : List ℕ) (found : OrderProblem) (spells : Bool) → order_problem text ≡ Some found
    → IsTrue spells ↔ IsProblem found × (text ≡ problem_text found) → IsRead problem_text IsProblem text (then_some spells found)
kept_where text found true there h = h.0 refl
kept_where text found false there h = grind (arith, same_problem)

pub returns : goal.returns
returns c = grind (arith, kept_where)
