-- The JSON texts of columns are read back as what they write.
use Rattle.std.proofs.Common.{◌≡◌, ◌≤◌, ℕ, List, [], ◌∷◌, map, Option, Some, option_and_then, refl, sym, ap, ◌∙◌, arith, append-nil}
use Rattle.json.specs.{Token.Token, Lex.tokens, Print.ArePrintable}
use Rattle.json.specs.Json as json
use Rattle.json.specs.Tree as tree
use Rattle.json.proofs.Printed.{Tokens.tokens-print, Trees.value-json_tokens}
use Rattle.serde_json.specs.Read.{read, of_json, of_items, max_depth}
use Rattle.serde_json.specs.{Data.Data, Data.string, Data.Items, Written.compact_text, Written.outline, Written.items_outline, View.items_of}
use Rattle.serde_json.proofs.Texts.{print-outline}
use Rattle.desk_model.specs.{Json.list, declared.call.OrderProblem.OrderProblem}
use Rattle.store_columns.specs.Spelling.{contacts_text, problem_document, problem_text}

-- what the tokens of a value are read as
abbrev whole : Option (json.Json × List Token) → Option Data
whole o = option_and_then of_json (option_and_then (λ p. json.if_last p.0 p.1) o)

-- the compact text of a value is read as it, where its outline can be written and is not too deep
read-compact_text : (d : Data) → ArePrintable (tree.json_tokens (outline d)) → tree.depth (outline d) ≤ max_depth → of_json (outline d) ≡ Some d
    → read (compact_text d) ≡ Some d
read-compact_text d printable shallow same =
    let ts : List Token = tree.json_tokens (outline d) in
    let back : tokens (compact_text d) ≡ ts = ap tokens (sym (print-outline d)) ∙ tokens-print ts printable in
    ap whole (ap (json.value max_depth) (back ∙ sym (append-nil ts)) ∙ value-json_tokens (outline d) max_depth [] shallow) ∙ same

-- ---- a list of strings

-- the items of a list of strings
abbrev strings : List (List ℕ) → Items
strings cs = items_of (map string cs)

printable : (cs : List (List ℕ)) → ArePrintable (tree.items_tokens (items_outline (strings cs)))
unfolding ArePrintable
printable [] = (tt, tt)
printable (c ∷ cs) = (tt, printable cs)

same_items : (cs : List (List ℕ)) → of_items (items_outline (strings cs)) ≡ Some (strings cs)
same_items [] = refl
same_items (c ∷ cs) = rw (same_items cs)

flat_outline : (cs : List (List ℕ)) → tree.items_depth (items_outline (strings cs)) ≤ 0
flat_outline [] = omega arith
flat_outline (c ∷ cs) = omega (arith, flat_outline cs)

-- the text of contacts is read as their list
pub read-contacts_text : (cs : List (List ℕ)) → read (contacts_text cs) ≡ Some (list (map string cs))
unfolding ArePrintable
read-contacts_text cs =
    let flat : tree.items_depth (items_outline (strings cs)) ≤ 0 = flat_outline cs in
    read-compact_text (list (map string cs)) (tt, printable cs) (omega arith) (rw (same_items cs))

-- ---- a problem

-- the text of a problem is read as its object
pub read-problem_text : (p : OrderProblem) → read (problem_text p) ≡ Some (problem_document p)
unfolding ArePrintable
read-problem_text p = read-compact_text (problem_document p) (tt, (tt, (tt, (tt, (tt, (tt, tt)))))) (omega arith) refl
