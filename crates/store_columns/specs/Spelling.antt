-- The texts of columns. Statuses and kinds are written as RFC 8555 spells them (`Document` of desk_model), ends and
-- outcomes as `Facts` of desk_model says.
use Rattle.std.specs.Prelude.{ℕ, List, [], ◌∷◌, map, codes}
use Rattle.serde_json.specs.{Data.Data, Data.string, Written.compact_text}
use Rattle.desk_model.specs.{Json.document, Json.list, declared.call.OrderProblem.OrderProblem}

-- contacts as a JSON list of strings
abbrev pub contacts_text : List (List ℕ) → List ℕ
contacts_text contacts = compact_text (list (map string contacts))

-- a problem as a JSON object of its detail and its type
abbrev pub problem_document : OrderProblem → Data
problem_document p = document ((codes "detail", string p.detail) ∷ (codes "type", string p.kind) ∷ [])

-- the text of that object
abbrev pub problem_text : OrderProblem → List ℕ
problem_text p = compact_text (problem_document p)
