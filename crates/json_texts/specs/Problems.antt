-- The problem of an order, by its text.
use Rattle.std.specs.Prelude.{ℕ, List, codes, Option, option_and_then, option_map}
use Rattle.serde_json.specs.{Data.Data, Read.read}
use Rattle.desk_model.specs.{Keys.text_members, declared.call.OrderProblem.OrderProblem}

-- the problem of the members `type` and `detail` of a value, both of them strings
abbrev pub order_problem_in : Data → Option OrderProblem
order_problem_in d = option_map (λ p. record { kind = p.0; detail = p.1 }) (text_members (codes "type") (codes "detail") d)

-- why an order failed, by the text of a JSON object
abbrev pub order_problem : List ℕ → Option OrderProblem
order_problem text = option_and_then order_problem_in (read text)
