-- The names of a new order with what serves them, and what the order makes for them.
use Rattle.std.specs.Prelude.{ℕ, List, [], ◌∷◌, Option, Some, None, drop, length, option_map, ◌*◌}
use Rattle.desk_model.specs.{Authorization.kinds_of, Name.Name, Questions.serving_on, Rules.pieces, Tables.Tables, declared.entry.Wanted.Wanted}
use Rattle.desk_model.specs.declared.entry.Wanted.TheVariants.{New as new, Reused as reused}
use Rattle.core_rules.specs.declared.new_orders.ServedName.{ServedName}

-- a name with the authorization that serves it in an order of the account
abbrev pub served_name : Tables → (account : ℕ) → Name → ServedName
served_name T account name = record { name = name; authorization = option_map (λ r. r.number) (serving_on T account name) }

-- an authorization is made, where none serves
abbrev pub made_by : Option ℕ → ℕ
made_by None = 1
made_by (Some n) = 0

abbrev pub made_for : ServedName → ℕ
made_for s = made_by s.authorization

-- and its challenges
abbrev pub drawn_by : Option ℕ → Name → ℕ
drawn_by None name = length (kinds_of name)
drawn_by (Some n) name = 0

abbrev pub drawn_for : ServedName → ℕ
drawn_for s = drawn_by s.authorization s.name

-- the authorization that a name gets, its tokens taken from the front of the random bytes
abbrev pub gets : Option ℕ → Name → List ℕ → Wanted
gets None name random = new name (pieces (length (kinds_of name)) random)
gets (Some n) name random = reused name n

-- the random bytes that it leaves
abbrev pub leaves : Option ℕ → Name → List ℕ → List ℕ
leaves None name random = drop (16 * length (kinds_of name)) random
leaves (Some n) name random = random

-- each name with the authorization that it gets, the tokens taken in turn
abbrev pub wanted_for : List ServedName → List ℕ → List Wanted
wanted_for [] random = []
wanted_for (s ∷ ss) random = gets s.authorization s.name random ∷ wanted_for ss (leaves s.authorization s.name random)
