-- The documents of refusals: their shapes, and that they are plain.
use Rattle.std.proofs.Common.{◌≡◌, List, [], ◌∷◌, ◌++◌, map, codes, true, refl, arith}
use Rattle.std.proofs.lemmas.Bool.Decides.{nat_tests}
use Rattle.serde_json.specs.{Data.Members, Data.put, Data.string, Data.unsigned, View.items_of}
use Rattle.serde_json.specs.Data as json
use Rattle.desk_model.specs.Refusals.{refusal_of, error_type, problem_document, subproblem_document, subproblem_members}
use Rattle.desk_model.specs.{declared.refusal.Refusal.Refusal, declared.reply.Problem.Problem, declared.reply.Subproblem.Subproblem, Json.document, Json.list}
use Rattle.desk_model.specs.{Plain.is_document, Plain.items_are_plain}
use Rattle.json_texts.specs.Refused.{with_subproblems}

-- a document of a refusal by its why and its subproblems
abbrev shaped : Refusal → List Subproblem → json.Data
shaped why subproblems =
    document (
    (codes "detail", string (refusal_of why).detail)
    ∷ (codes "status", json.number (unsigned (refusal_of why).status))
    ∷ (subproblem_members subproblems
    ++ (codes "type", string (error_type (refusal_of why).error_type))
    ∷ [])
    )

-- where there are some, they are put
pub some_put : (subproblems : List Subproblem) (others : Members) → (subproblems ≡ [] → ⊥) →
    put (codes "subproblems") (list (map subproblem_document subproblems)) others ≡ with_subproblems subproblems others
some_put subproblems others h = grind (arith, nat_tests)

-- the documents of refused identifiers are plain
subproblems_plain : (subproblems : List Subproblem) → items_are_plain 6 (items_of (map subproblem_document subproblems)) ≡ true
subproblems_plain [] = refl
subproblems_plain (s ∷ rest) = subproblems_plain rest

-- so is the document of a refusal
plain : (why : Refusal) (subproblems : List Subproblem) → is_document (shaped why subproblems) ≡ true
plain why subproblems = grind (arith, nat_tests, subproblems_plain)

-- the document of a problem is plain
pub problem_plain : (p : Problem) → is_document (problem_document p) ≡ true
problem_plain p = plain p.refusal p.subproblems
