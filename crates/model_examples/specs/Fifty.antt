-- An order of fifty names, which is too large for its decision to be computed at once: each of its steps (RFC 8555, 7.4).
use Rattle.std.specs.Prelude.{◌≡◌, ℕ, zero, suc, ◌+◌, List, [], ◌∷◌, ◌++◌, map, decimal, Some, true, codes}
use Rattle.desk_model.specs.{Names.name_of, Payload.new_order, Legal.may_follow, Tables.Tables, Run.count_pieces}
use Rattle.desk_model.specs.declared.{verdict.Verdict.TheVariants.Orders as orders, payload.Identifier.Identifier}
use Rattle.desk_model.specs.Rules.{subproblems, names_in, kept, wanted, target_verdict}
use Rattle.desk_model.specs.declared.call.Target.TheVariants as to
use Rattle.model_examples.specs.{Entries.issued, Entries.spent, Entries.ordered, Calls.zeros, Calls.account_desk, Calls.simple, Calls.wants}

-- so many names, numbered from here
abbrev pub names_from : ℕ → ℕ → List (List ℕ)
names_from start zero = []
names_from start (suc n) = (decimal start ++ codes ".a") ∷ names_from (start + 1) n

-- so many names
abbrev pub names : ℕ → List (List ℕ)
names count = names_from 1 count

-- the text of an identifier
abbrev pub identifier_text : List ℕ → List ℕ
identifier_text name = codes "{\"type\":\"dns\",\"value\":\"" ++ (name ++ codes "\"}")

-- the texts of further identifiers, to the end of the payload
abbrev pub and_identifiers : List (List ℕ) → List ℕ
and_identifiers [] = codes "]}"
and_identifiers (name ∷ rest) = codes "," ++ (identifier_text name ++ and_identifiers rest)

-- the payload of an order of these names
abbrev pub order_text : List (List ℕ) → List ℕ
order_text [] = codes "{\"identifiers\":[]}"
order_text (name ∷ rest) = codes "{\"identifiers\":[" ++ (identifier_text name ++ and_identifiers rest)

-- the identifier of a name
abbrev pub identifier : List ℕ → Identifier
identifier name = record { kind = codes "dns"; value = name }

-- the payload says fifty identifiers
abbrev pub FiftyIdentifiers : Type 0
FiftyIdentifiers = new_order (order_text (names 50)) ≡ Some (map identifier (names 50))

-- each text is a name without a wildcard, in its own spelling
abbrev pub AreNames : List (List ℕ) → Type 0
AreNames [] = Unit {0}
AreNames (n ∷ ns) = (name_of n ≡ Some (simple n)) × AreNames ns

-- each is a name
abbrev pub FiftyNames : Type 0
FiftyNames = AreNames (names 50)

-- so none is faulty
abbrev pub FiftyFaultless : Type 0
FiftyFaultless = subproblems (map identifier (names 50)) ≡ []

-- and all are taken, in their order
abbrev pub FiftyTaken : Type 0
FiftyTaken = names_in (map identifier (names 50)) ≡ map simple (names 50)

-- they are different, and all are kept
abbrev pub FiftyKept : Type 0
FiftyKept = kept (map simple (names 50)) ≡ map simple (names 50)

-- a desk without authorizations
abbrev pub bare : Tables → Tables
bare T = record T { authorizations = [] }

-- each takes a token for each of its two challenges, from 1600 random bytes
abbrev pub FiftyWanted : Type 0
FiftyWanted = (T : Tables) → wanted (bare T) 1 (map simple (names 50)) (zeros 1600) ≡ map wants (names 50)

-- so the order is recorded, whatever else the desk holds
abbrev pub FiftyOrdered : Type 0
FiftyOrdered = (T : Tables) → target_verdict (bare T) (zeros 1600) 1 (order_text (names 50)) to.NewOrder ≡ orders 1 (map wants (names 50))

-- which takes 1600 random bytes, beside the 16 of the nonce
abbrev pub FiftyPieces : Type 0
FiftyPieces = count_pieces (spent 1 ∷ issued (zeros 16) ∷ ordered 1 (map wants (names 50)) ∷ []) ≡ 101

-- and may follow
abbrev pub FiftyFollow : Type 0
FiftyFollow = may_follow account_desk (ordered 1 (map wants (names 50))) 0 ≡ true
