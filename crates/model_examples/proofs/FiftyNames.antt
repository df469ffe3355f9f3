-- An order of fifty names, which is too large for its decision to be computed at once: each of its steps (RFC 8555, 7.4).
use Rattle.std.specs.Prelude.{◌≡◌, refl, ℕ, Bool, true, not, ◌&&◌, ◌==◌, List, [], ◌∷◌, map, Option, Some}
use Rattle.std.specs.{Cmp.Lexicographic.bytes_decides, List.list_all, List.list_any}
use Rattle.std.proofs.{Common.ap, Common.◌∙◌, Common.bytes_eq, lemmas.Bool.and_parts, lemmas.Bool.not-true}
use Rattle.desk_model.specs.Rules.{subproblems, names_in, kept, wanted, order_of, new_order_verdict}
use Rattle.desk_model.specs.{BaseName.is_base_name, Names.name_of, Name.Name, Tables.Tables, Verdict.check, Verdict.given, declared.reply.Subproblem.Subproblem}
use Rattle.desk_model.specs.{declared.verdict.Verdict.TheVariants.Orders as orders, declared.entry.Wanted.Wanted, declared.payload.Identifier.Identifier}
use Rattle.model_examples.proofs.{Computing.computing, PlainNames.is_marked, PlainNames.is_plain, PlainNames.lowered, PlainNames.plain_name}
use Rattle.model_examples.specs.{Calls.simple, Calls.zeros, Fifty.bare, Fifty.names, Fifty.identifier, Fifty.AreNames, Fifty.FiftyIdentifiers, Fifty.FiftyNames}
use Rattle.model_examples.specs.{Fifty.FiftyFaultless, Fifty.FiftyTaken, Fifty.FiftyKept, Fifty.FiftyWanted, Fifty.FiftyOrdered}
use Rattle.desk_model.specs.declared.refusal.Refusal.TheVariants as refusal

-- the text is plain, and a name in its own spelling
abbrev is_simple : List ℕ → Bool
is_simple text = is_plain text && (not (is_marked text) && (not (list_any (λ c. c == 42) text) && (bytes_eq (lowered text) text && is_base_name text)))

-- such a text is the name's base
simple_name : (text : List ℕ) → is_simple text ≡ true → name_of text ≡ Some (simple text)
simple_name text h =
    let plain = and_parts (is_plain text) _ h in
    let unmarked' = and_parts (not (is_marked text)) _ plain.1 in
    let unstarred = and_parts (not (list_any (λ c. c == 42) text)) _ unmarked'.1 in
    let lower = and_parts (bytes_eq (lowered text) text) _ unstarred.1 in
    let same : lowered text ≡ text = (bytes_decides _ _).0 lower.0 in
    let none = not-true (is_marked text) unmarked'.0 in
    plain_name text (rw none plain.0) ∙ rw (none, not-true _ unstarred.0, same, lower.1) refl

-- such texts are names
are_names : (xs : List (List ℕ)) → list_all is_simple xs ≡ true → AreNames xs
are_names [] h = tt
are_names (x ∷ xs) h = let parts = and_parts (is_simple x) _ h in (simple_name x parts.0, are_names xs parts.1)

-- identifiers of names are not faulty
no_subproblems : (xs : List (List ℕ)) → AreNames xs → subproblems (map identifier xs) ≡ []
no_subproblems [] h = refl
no_subproblems (x ∷ xs) h = rw (h.0, no_subproblems xs h.1) refl

-- and give these names
names_taken : (xs : List (List ℕ)) → AreNames xs → names_in (map identifier xs) ≡ map simple xs
names_taken [] h = refl
names_taken (x ∷ xs) h = rw (h.0, names_taken xs h.1) refl

-- fifty identifiers are not too many
in_number : (T : Tables) → given (Some (map identifier (names 50))) refusal.Malformed (new_order_verdict T (zeros 1600) 1)
    ≡ order_of T (zeros 1600) 1 (map identifier (names 50)) (subproblems (map identifier (names 50)))
unfolding check given
in_number T = refl

-- the steps of the decision, one after the other
fifty_steps : FiftyIdentifiers → FiftyFaultless → FiftyTaken → FiftyKept → FiftyWanted → FiftyOrdered
fifty_steps read faultless taken all_kept all_wanted T =
    let ids : List Identifier = map identifier (names 50) in
    ap (λ (o : Option (List Identifier)). given o refusal.Malformed (new_order_verdict (bare T) (zeros 1600) 1)) read
    ∙ in_number (bare T)
    ∙ ap (λ (s : List Subproblem). order_of (bare T) (zeros 1600) 1 ids s) faultless
    ∙ ap (λ (ns : List Name). orders 1 (wanted (bare T) 1 (kept ns) (zeros 1600))) taken
    ∙ ap (λ (ns : List Name). orders 1 (wanted (bare T) 1 ns (zeros 1600))) all_kept
    ∙ ap (λ (ws : List Wanted). orders 1 ws) (all_wanted T)

-- each of the fifty is a name
pub fifty_names : FiftyNames
unfolding computing
fifty_names = are_names (names 50) refl

-- so none is faulty
pub fifty_faultless : FiftyFaultless
fifty_faultless = no_subproblems (names 50) fifty_names

-- and all are taken, in their order
pub fifty_taken : FiftyTaken
fifty_taken = names_taken (names 50) fifty_names

-- so the order is recorded, whatever else the desk holds: the other steps are computed
pub fifty_ordered : FiftyOrdered
unfolding computing
fifty_ordered = fifty_steps refl fifty_faultless fifty_taken refl (λ T. refl)
