-- Parts of the documents of refusals.
use Rattle.std.specs.Prelude.{ℕ, List, [], ◌∷◌, map, codes}
use Rattle.serde_json.specs.Data.{Data, Members, string, put}
use Rattle.desk_model.specs.Refusals.{refusal_of, error_type, subproblem_document}
use Rattle.desk_model.specs.{declared.refusal.Refusal.Refusal, declared.reply.Subproblem.Subproblem, Json.document, Json.list}

-- the members that refusals and refused identifiers share
abbrev pub refusal_members : Refusal → List (List ℕ × Data)
refusal_members why =
    (codes "detail", string (refusal_of why).detail)
    ∷ (codes "type", string (error_type (refusal_of why).error_type))
    ∷ []

-- the refused identifiers, where there are any, put among members
abbrev pub with_subproblems : List Subproblem → Members → Members
with_subproblems [] others = others
with_subproblems (s ∷ rest) others = put (codes "subproblems") (list (map subproblem_document (s ∷ rest))) others

-- an identifier by its type and its value
abbrev pub identifier : List ℕ → List ℕ → Data
identifier kind value = document ((codes "type", string kind) ∷ (codes "value", string value) ∷ [])
