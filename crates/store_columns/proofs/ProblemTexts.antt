-- Which problem a text spells.
use Rattle.std.proofs.Common.{◌≡◌, ◌≢◌, List, ℕ, Some, None, refl, sym, ◌∙◌}
use Rattle.desk_model.specs.declared.call.OrderProblem.{OrderProblem}
use Rattle.json_texts.specs.Problems.{order_problem, order_problem_in}
use Rattle.store_columns.specs.Spelling.{problem_document, problem_text}
use Rattle.store_columns.proofs.JsonTexts.{read-problem_text}

-- the object of a problem has its members
members_of : (problem : OrderProblem) → order_problem_in (problem_document problem) ≡ Some problem
members_of problem = refl

-- the text of a problem spells it
pub spelled : (text : List ℕ) (problem : OrderProblem) → text ≡ problem_text problem → order_problem text ≡ Some problem
spelled text problem same = rw (same, read-problem_text problem) (members_of problem)

-- what spells no problem is the text of none
pub none_of_none : (text : List ℕ) → order_problem text ≡ None → (problem : OrderProblem) → text ≢ problem_text problem
none_of_none text none problem same = cc (none, spelled text problem same)

-- and what spells one is that of no other
pub same_problem : (text : List ℕ) (found problem : OrderProblem) → order_problem text ≡ Some found → text ≡ problem_text problem → problem ≡ found
same_problem text found problem there same = cc (sym (spelled text problem same) ∙ there)
