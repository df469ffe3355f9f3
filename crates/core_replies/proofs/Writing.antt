-- What is written of documents, one part behind the other, and that it is read as they are.
use Rattle.std.proofs.Common.{◌≡◌, ◌≤◌, ◌<◌, ◌^◌, ◌∙◌, ℕ, suc, max, true, List, [], ◌∷◌, ◌++◌, Option, Some, option_map, option_and_then, refl, sym, ap, subst}
use Rattle.std.proofs.Common.{append-nil, append_assoc, arith, rules}
use Rattle.std.proofs.lemmas.Grind.{flat_map-append}
use Rattle.std.specs.List.{flat_map}
use Rattle.json.specs.Json as json
use Rattle.json.specs.{Lex.tokens, Print.print, Token.Token, Token.begin_array, Token.begin_object, Token.end_array, Token.end_object, Token.key}
use Rattle.json.specs.Tree as tree
use Rattle.json.proofs.Printed.Trees.{value-json_tokens}
use Rattle.serde_json.specs.Data.{Data, Items, Members, array, depth, items_depth, item, member, members_depth, no_items, no_members, number, object, put}
use Rattle.serde_json.specs.Data.{string, unsigned}
use Rattle.serde_json.specs.Read.{max_depth, of_items, of_json, of_members, read}
use Rattle.serde_json.specs.{View.items_of, Written.compact_text, Written.items_outline, Written.members_outline, Written.outline}
use Rattle.serde_json.proofs.{Numbers.number_of-decimal, Texts.print-outline}
use Rattle.desk_model.proofs.PlainData.{document_fits}
use Rattle.desk_model.specs.{Json.document, Json.list, Json.members, Kept.EachOf, Plain.is_document}
use Rattle.model_laws.proofs.Basics.{each-append}
use Rattle.core_replies.specs.Shown.{with_members}
use Rattle.core_replies.specs.Texts.{AreInOrder, HasMembers, HasValues, IsText, ReadsBack, member_tokens, tokens_of}

-- ---- members and values, one behind the other

more : {X : Type 0} (f : X → List Token) (xs ys : List X) (a b c : List Token) → b ≡ a ++ flat_map f xs → c ≡ b ++ flat_map f ys
    → c ≡ a ++ flat_map f (xs ++ ys)
more f xs ys a b c p q = search (rules, append_assoc, flat_map-append)

-- what was written alone is the text of its document
pub written_text : (before after : List Token) (d : Data) → before ≡ [] → is_document d ≡ true → HasValues before after (d ∷ []) → IsText after d
written_text before after d none plain has = record { values = subst (λ b. HasValues b after (d ∷ [])) none has; plain = plain }

pub members_then : {a b c : List Token} {ms ns : List (List ℕ × Data)} → HasMembers a b ms → HasMembers b c ns → HasMembers a c (ms ++ ns)
members_then {a} {b} {c} {ms} {ns} p q = search (rules, more, each-append)

pub values_then : {a b c : List Token} {ds es : List Data} → HasValues a b ds → HasValues b c es → HasValues a c (ds ++ es)
values_then {a} {b} {c} {ds} {es} p q = record { text = more tokens_of ds es a b c p.text q.text; back = each-append ReadsBack ds es p.back q.back }

-- ---- one value

-- one token more
pub one_value : {a b : List Token} (d : Data) → b ≡ a ++ tokens_of d → ReadsBack d → HasValues a b (d ∷ [])
one_value {a} {b} d p back = record { text = p ∙ ap (λ ts. a ++ ts) (sym (append-nil (tokens_of d))); back = (back, tt) }

-- a name and its value
pub one_member : {a b c : List Token} (name : List ℕ) (d : Data) → b ≡ a ++ key name ∷ [] → c ≡ b ++ tokens_of d → ReadsBack d
    → HasMembers a c ((name, d) ∷ [])
one_member {a} {b} {c} name d named p back = search (rules, append_assoc)

-- a number of 64 bits is read as it is
pub number_back : (n : ℕ) → n < 2 ^ 64 → ReadsBack (number (unsigned n))
number_back n low = ap (option_map number) (number_of-decimal n low)

-- ---- objects and lists

members-tokens : (ms : List (List ℕ × Data)) → tree.members_tokens (members_outline (members ms)) ≡ flat_map member_tokens ms ++ end_object ∷ []
members-tokens [] = refl
members-tokens (m ∷ ms) = grind (arith, append_assoc, (members-tokens ms))

items-tokens : (ds : List Data) → tree.items_tokens (items_outline (items_of ds)) ≡ flat_map tokens_of ds ++ end_array ∷ []
items-tokens [] = refl
items-tokens (d ∷ ds) = grind (arith, append_assoc, (items-tokens ds))

items-back : (ds : List Data) → EachOf ReadsBack ds → of_items (items_outline (items_of ds)) ≡ Some (items_of ds)
items-back [] back = refl
items-back (d ∷ ds) back = grind (arith, (items-back ds back.1))

-- a list is read as it is, where each of its values is
pub list_back : (ds : List Data) → EachOf ReadsBack ds → ReadsBack (list ds)
list_back ds back = ap (option_map array) (items-back ds back)

members-back : (ms : List (List ℕ × Data)) (found : Members) → EachOf (λ m. ReadsBack m.1) ms
    → of_members (members_outline (members ms)) found ≡ Some (with_members ms found)
members-back [] found back = refl
members-back (m ∷ ms) found back =
    ap (option_and_then (λ d. of_members (members_outline (members ms)) (put m.0 d found))) back.0 ∙ members-back ms (put m.0 m.1 found) back.1

-- an object is, where its members stand in order
pub document_back : (ms : List (List ℕ × Data)) → EachOf (λ m. ReadsBack m.1) ms → AreInOrder ms → ReadsBack (document ms)
document_back ms back ordered = ap (option_map object) (members-back ms no_members back ∙ ap Some ordered)

between : (a b c d first last middle : List Token) → b ≡ a ++ first → c ≡ b ++ middle → d ≡ c ++ last → d ≡ a ++ (first ++ (middle ++ last))
between a b c d first last middle p q r = search (rules, append_assoc)

-- an object with these members is one value
pub object_value : {a b c d : List Token} (ms : List (List ℕ × Data)) → b ≡ a ++ begin_object ∷ [] → HasMembers b c ms → AreInOrder ms
    → d ≡ c ++ end_object ∷ [] → HasValues a d (document ms ∷ [])
object_value {a} {b} {c} {d} ms begun has ordered ended =
    one_value (document ms)
    (between a b c d (begin_object ∷ []) (end_object ∷ []) (flat_map member_tokens ms) begun has.text ended
    ∙ ap (λ ts. a ++ begin_object ∷ ts) (sym (members-tokens ms)))
    (document_back ms has.back ordered)

-- a member that is a list of these values
pub list_member : {a b c d e : List Token} (name : List ℕ) (ds : List Data) → b ≡ a ++ key name ∷ [] → c ≡ b ++ begin_array ∷ []
    → HasValues c d ds → e ≡ d ++ end_array ∷ [] → HasMembers a e ((name, list ds) ∷ [])
list_member {a} {b} {c} {d} {e} name ds named begun has ended =
    one_member name (list ds) named
    (between b c d e (begin_array ∷ []) (end_array ∷ []) (flat_map tokens_of ds) begun has.text ended
    ∙ ap (λ ts. b ++ begin_array ∷ ts) (sym (items-tokens ds)))
    (list_back ds has.back)

-- ---- the text of a document

mutual
  depth-outline : (d : Data) → tree.depth (outline d) ≡ depth d
  depth-outline (array ds) = ap suc (items_depth-outline ds)
  depth-outline (object ms) = ap suc (members_depth-outline ms)
  depth-outline _ = refl

  items_depth-outline : (ds : Items) → tree.items_depth (items_outline ds) ≡ items_depth ds
  items_depth-outline no_items = refl
  items_depth-outline (item d ds) = ap (λ n. max n (tree.items_depth (items_outline ds))) (depth-outline d) ∙ ap (max (depth d)) (items_depth-outline ds)

  members_depth-outline : (ms : Members) → tree.members_depth (members_outline ms) ≡ members_depth ms
  members_depth-outline no_members = refl
  members_depth-outline (member k d ms) =
      ap (λ n. max n (tree.members_depth (members_outline ms))) (depth-outline d) ∙ ap (max (depth d)) (members_depth-outline ms)

-- what the tokens of a value are read as
abbrev whole : Option (json.Json × List Token) → Option Data
whole o = option_and_then of_json (option_and_then (λ p. json.if_last p.0 p.1) o)

-- a document is read in the text of its tokens
pub document_reads : (d : Data) (ts : List Token) (text : List ℕ) → is_document d ≡ true → HasValues [] ts (d ∷ []) → text ≡ print ts
    → tokens (print ts) ≡ ts → (read text ≡ Some d) × (text ≡ compact_text d)
document_reads d ts text plain has written reads =
    let are : ts ≡ tokens_of d = has.text ∙ append-nil (tokens_of d) in
    let shallow : tree.depth (outline d) ≤ max_depth = subst (λ n. n ≤ max_depth) (sym (depth-outline d)) (document_fits d plain) in (
      ap read written ∙ ap (λ l. whole (json.value max_depth l)) (reads ∙ are ∙ sym (append-nil (tokens_of d)))
          ∙ ap whole (value-json_tokens (outline d) max_depth [] shallow) ∙ has.back.0,
      written ∙ ap print are ∙ print-outline d,
    )

-- ---- clauses, by what a member or a value is

-- a member that is another text
pub member_is : {a b : List Token} {name s t : List ℕ} → s ≡ t → HasMembers a b ((name, string s) ∷ []) → HasMembers a b ((name, string t) ∷ [])
member_is {a} {b} {name} same = subst (λ u. HasMembers a b ((name, string u) ∷ [])) same

-- a list of other values
pub list_is : {a b : List Token} {name : List ℕ} {ds es : List Data} → ds ≡ es → HasMembers a b ((name, list ds) ∷ [])
    → HasMembers a b ((name, list es) ∷ [])
list_is {a} {b} {name} same = subst (λ vs. HasMembers a b ((name, list vs) ∷ [])) same

-- a name, and then its value
pub named_value : {a b c : List Token} (name : List ℕ) (d : Data) → b ≡ a ++ key name ∷ [] → HasValues b c (d ∷ []) → HasMembers a c ((name, d) ∷ [])
named_value {b = b} name d named has = one_member name d named (has.text ∙ ap (λ ts. b ++ ts) (append-nil (tokens_of d))) has.back.0
