-- Values that are read without a map are those that `serde_json` reads.
use Rattle.std.proofs.Common.{◌≡◌, ℕ, List, [], ◌∷◌, Bor, Vec, rules, Bool, true, Option, Some, None, option_map, refl, sym, ap, ◌∙◌, arith}
use Rattle.std.proofs.{lemmas.Slice.Eq.bytes_eq-Decides, lemmas.Bool.Decides.nat_tests}
use Rattle.std.specs.{Prelude.◌&&◌, Prelude.option_and_then, List.list_all}
use Rattle.json.specs.declared.value.Value.{Value as TextValue, Object, the_lemmas}
use Rattle.json.specs.{Lex.tokens, Value.members_view, Value.value_view}
use Rattle.serde_json.specs.{Data.Data, Data.Members, Data.put, Find.get, Find.get_member, Read.max_depth, Read.of_json, Read.of_members, Read.read}
use Rattle.serde_json.proofs.Views.{get_member-put, get_member-put_other}
use Rattle.json_texts.specs.Objects.{are_shallow, are_texts, is_shallow, is_text, is_text_or_texts, plain_members, plain_value}
use Rattle.json.specs.Json as json
use Rattle.json.specs.Find as json_find

-- ---- what is read

-- a string
text_read : (j : json.Json) → is_text j ≡ true → of_json j ≡ Some (plain_value j)
text_read j h = grind (arith, nat_tests)

-- both of two tests
both : (a b : Bool) → (a && b) ≡ true → (a ≡ true) × (b ≡ true)
both a b h = grind (arith, nat_tests)

-- strings
texts_read : (ms : json.Members) (found : Members) → are_texts ms ≡ true → of_members ms found ≡ Some (plain_members ms found)
texts_read json.no_members found are = refl
texts_read (json.member k j ms) found are =
    let split = both (is_text j) (are_texts ms) are in
    ap (λ o. option_and_then (λ d. of_members ms (put k d found)) o) (text_read j split.0) ∙ texts_read ms (put k (plain_value j) found) split.1

-- a string, or an object of strings
member_read : (j : json.Json) → is_text_or_texts j ≡ true → of_json j ≡ Some (plain_value j)
member_read j h = grind (arith, nat_tests, texts_read)

-- members
shallow_members_read : (ms : json.Members) (found : Members) → are_shallow ms ≡ true → of_members ms found ≡ Some (plain_members ms found)
shallow_members_read json.no_members found are = refl
shallow_members_read (json.member k j ms) found are =
    let split = both (is_text_or_texts j) (are_shallow ms) are in
    ap (λ o. option_and_then (λ d. of_members ms (put k d found)) o) (member_read j split.0) ∙ shallow_members_read ms (put k (plain_value j) found) split.1

-- an object of them
pub shallow_read : (j : json.Json) → is_shallow j ≡ true → of_json j ≡ Some (plain_value j)
shallow_read j h = grind (arith, nat_tests, shallow_members_read)

-- ---- members

-- what a value has beside what was there before
abbrev or_before : Option json.Json → Option Data → Option Data
or_before None before = before
or_before (Some j) before = Some (plain_value j)

-- the last member of a name stands
found_member : (name : List ℕ) (ms : json.Members) (found : Members)
    → get_member name (plain_members ms found) ≡ or_before (json_find.get_member name ms) (get_member name found)
found_member name json.no_members found = refl
found_member name (json.member k j ms) found = found_member name ms (put k (plain_value j) found) ∙ grind (
  arith,
  nat_tests,
  bytes_eq-Decides,
  get_member-put,
  get_member-put_other,
)

-- so it is found in the value as in what was read
pub plain_get : (name : List ℕ) (j : json.Json) → get name (plain_value j) ≡ option_map plain_value (json_find.get name j)
plain_get name j = grind (arith, nat_tests, found_member)

-- as what is looked up there shows it
pub member_found : {X : Type 0} (f : X → json.Json) (found : Option X) (name : List ℕ) (j : json.Json) → option_map f found ≡ json_find.get name j
    → option_map (λ x. plain_value (f x)) found ≡ get name (plain_value j)
member_found {X} f found name j is = grind (arith, nat_tests, plain_get)

-- ---- what the code looks at

-- an object
object_viewed : {A : Type 0} (v : Vec (Bor (List ℕ) × TextValue A) A) → value_view (Object v) ≡ json.object (members_view v.items)
object_viewed v = search (rules, the_lemmas)

-- all members are texts where their views are
all_texts : {A : Type 0} (ms : List (Bor (List ℕ) × TextValue A)) → list_all (λ m. is_text (value_view m.1)) ms ≡ are_texts (members_view ms)
all_texts [] = refl
all_texts (m ∷ ms) = ap (λ b. is_text (value_view m.1) && b) (all_texts ms)

-- whose members are all strings
pub texts_told : {A : Type 0} (v : Vec (Bor (List ℕ) × TextValue A) A)
    → list_all (λ m. is_text (value_view m.1)) v.items ≡ is_text_or_texts (value_view (Object v))
texts_told v = all_texts v.items ∙ sym (ap is_text_or_texts (object_viewed v))

-- all are shallow where their views are
all_shallow : {A : Type 0} (ms : List (Bor (List ℕ) × TextValue A)) → list_all (λ m. is_text_or_texts (value_view m.1)) ms ≡ are_shallow (members_view ms)
all_shallow [] = refl
all_shallow (m ∷ ms) = ap (λ b. is_text_or_texts (value_view m.1) && b) (all_shallow ms)

-- or objects of strings
pub shallow_told : {A : Type 0} (v : Vec (Bor (List ℕ) × TextValue A) A)
    → list_all (λ m. is_text_or_texts (value_view m.1)) v.items ≡ is_shallow (value_view (Object v))
shallow_told v = all_shallow v.items ∙ sym (ap is_shallow (object_viewed v))

-- a text of nothing else
pub whole_read : (text : List ℕ) (j : json.Json) → json.value max_depth (tokens text) ≡ Some (j, []) → is_shallow j ≡ true → read text ≡ Some (plain_value j)
whole_read text j is shallow = ap (λ o. option_and_then of_json (option_and_then (λ p. json.if_last p.0 p.1) o)) is ∙ shallow_read j shallow
