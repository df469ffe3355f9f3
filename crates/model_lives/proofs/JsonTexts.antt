-- The strings of a value that is read in a UTF-8 text are UTF-8.
use Rattle.std.proofs.Common.{ℕ, zero, suc, List, length, Option, Some, None, option_map, option_and_then, IsUtf8, IfSome, arith}
use Rattle.desk_model.specs.Kept.{EachOf}
use Rattle.json.specs.Json.{Parse, parse_map, after_end_array, read_key, items_step, members_step, value_with}
use Rattle.json.specs.{Token.Token, Lex.tokens}
use Rattle.serde_json.specs.Data.{Data, number, string, array, object, Items, no_items, item, Members, no_members, member, put}
use Rattle.serde_json.specs.Read.{max_depth, number_of, of_items, of_json, of_members, read}
use Rattle.model_lives.proofs.{JsonTokens.IsTextToken, JsonTokens.tokens_texts, JsonContent.then_holds}
use Rattle.json.specs.Json as json

-- ---- options

-- what holds of a value under a function
pub map_holds : {A B : Type 0} (P : A → Type 0) (Q : B → Type 0) (f : A → B) → ((a : A) → P a → Q (f a)) → (o : Option A) → IfSome o P →
    IfSome (option_map f o) Q
map_holds P Q f h o k = grind arith

-- nothing is asked of a value
any : {A : Type 0} (o : Option A) → IfSome o (λ a. Unit {0})
any o = grind arith

-- ---- trees

-- each string of a tree is a text
abbrev mutual
  IsTextTree : json.Json → Type 0
  IsTextTree (json.string s) = IsUtf8 s
  IsTextTree (json.array js) = AreTextTrees js
  IsTextTree (json.object ms) = HoldTextTrees ms
  IsTextTree _ = Unit {0}

  AreTextTrees : json.Items → Type 0
  AreTextTrees json.no_items = Unit {0}
  AreTextTrees (json.item j js) = IsTextTree j × AreTextTrees js

  HoldTextTrees : json.Members → Type 0
  HoldTextTrees json.no_members = Unit {0}
  HoldTextTrees (json.member k j ms) = IsUtf8 k × IsTextTree j × HoldTextTrees ms

-- what a parser gives holds this, and so do the tokens that it leaves
abbrev Gives : {A : Type 0} → (A → Type 0) → Option (A × List Token) → Type 0
Gives P o = IfSome o (λ p. P p.0 × EachOf IsTextToken p.1)

-- a parser gives this of tokens that hold texts
abbrev Parses : {A : Type 0} → (A → Type 0) → Parse A → Type 0
Parses P parse = (ts : List Token) → EachOf IsTextToken ts → Gives P (parse ts)

-- a tree, and what is parsed behind it
and_more : {B : Type 0} (Q : B → Type 0) (f : json.Json → B → B) → ((j : json.Json) (b : B) → IsTextTree j → Q b → Q (f j b)) → (more : Parse B) →
    Parses Q more → (o : Option (json.Json × List Token)) → Gives IsTextTree o → Gives Q (option_and_then (λ q. parse_map (f q.0) (more q.1)) o)
and_more Q f h more k o l = grind arith

-- the tokens behind an array
array_end : (ts : List Token) → EachOf IsTextToken ts → IfSome (after_end_array ts) (EachOf IsTextToken)
array_end ts h = grind arith

-- a key, if there is one more
key_texts : Parses (λ k. IfSome k IsUtf8) read_key
key_texts h l = grind arith

module _ (parse : Parse json.Json) (parses : Parses IsTextTree parse) where
  -- an item of an array
  item_turn : (more : Parse json.Items) → Parses AreTextTrees more → (ts : List Token) → EachOf IsTextToken ts → (o : Option (List Token)) →
      IfSome o (EachOf IsTextToken) → Gives AreTextTrees (items_step parse more ts o)
  item_turn more again ts h (Some rest) k = (tt, k)
  item_turn more again ts h None k = and_more AreTextTrees json.item (λ j js p q. (p, q)) more again (parse ts) (parses ts h)

  -- the items of an array
  items_texts : (n : ℕ) → Parses AreTextTrees (json.items parse n)
  unfolding json.items
  items_texts zero ts h = tt
  items_texts (suc n) ts h = item_turn (json.items parse n) (items_texts n) ts h (after_end_array ts) (array_end ts h)

  -- a member of an object
  member_turn : (more : Parse json.Members) → Parses HoldTextTrees more → (o : Option (Option (List ℕ) × List Token)) → Gives (λ k. IfSome k IsUtf8) o →
      Gives HoldTextTrees (option_and_then (λ q. members_step parse more q.0 q.1) o)
  member_turn more again None h = tt
  member_turn more again (Some (None, ts)) h = (tt, h.1)
  member_turn more again (Some (Some k, ts)) h = and_more HoldTextTrees (json.member k) (λ j ms p q. (h.0, p, q)) more again (parse ts) (parses ts h.1)

  -- the members of an object
  members_texts : (n : ℕ) → Parses HoldTextTrees (json.members parse n)
  unfolding json.members
  members_texts zero ts h = tt
  members_texts (suc n) ts h = member_turn (json.members parse n) (members_texts n) (read_key ts) (key_texts ts h)

-- one level of a tree
level_texts : (a : Parse json.Items) (o : Parse json.Members) → Parses AreTextTrees a → Parses HoldTextTrees o → Parses IsTextTree (value_with a o)
level_texts a o h k l g = grind arith

-- the tree of some tokens
tree_texts : (depth : ℕ) → Parses IsTextTree (json.value depth)
unfolding json.value
tree_texts zero = level_texts (λ ts. None) (λ ts. None) (λ ts h. tt) (λ ts h. tt)
tree_texts (suc depth) =
    level_texts (λ ts. json.items (json.value depth) (length ts) ts) (λ ts. json.members (json.value depth) (length ts) ts)
    (λ ts. items_texts (json.value depth) (tree_texts depth) (length ts) ts) (λ ts. members_texts (json.value depth) (tree_texts depth) (length ts) ts)

-- ---- values

-- each string of a value is a text
abbrev mutual
  pub HoldsStrings : Data → Type 0
  HoldsStrings (string s) = IsUtf8 s
  HoldsStrings (array ds) = HoldItemStrings ds
  HoldsStrings (object ms) = HoldMemberStrings ms
  HoldsStrings _ = Unit {0}

  pub HoldItemStrings : Items → Type 0
  HoldItemStrings no_items = Unit {0}
  HoldItemStrings (item d ds) = HoldsStrings d × HoldItemStrings ds

  pub HoldMemberStrings : Members → Type 0
  HoldMemberStrings no_members = Unit {0}
  HoldMemberStrings (member k d ms) = IsUtf8 k × HoldsStrings d × HoldMemberStrings ms

-- the members with one more
put_strings : (k : List ℕ) (d : Data) (ms : Members) → IsUtf8 k → HoldsStrings d → HoldMemberStrings ms → HoldMemberStrings (put k d ms)
put_strings k d no_members p q h = (p, q, tt)
put_strings k d (member l e ms) p q h = grind (arith, (put_strings k d ms p q h.2))

mutual
  -- the value of a tree
  tree_strings : (j : json.Json) → IsTextTree j → IfSome (of_json j) HoldsStrings
  tree_strings json.null h = tt
  tree_strings (json.boolean b) h = tt
  tree_strings (json.number s) h = map_holds (λ n. Unit {0}) HoldsStrings number (λ n k. tt) (number_of s) (any (number_of s))
  tree_strings (json.string s) h = h
  tree_strings (json.array js) h = map_holds HoldItemStrings HoldsStrings array (λ ds k. k) (of_items js) (items_strings js h)
  tree_strings (json.object ms) h = map_holds HoldMemberStrings HoldsStrings object (λ ns k. k) (of_members ms no_members) (members_strings ms no_members h tt)

  items_strings : (js : json.Items) → AreTextTrees js → IfSome (of_items js) HoldItemStrings
  items_strings json.no_items h = tt
  items_strings (json.item j js) h =
      then_holds HoldsStrings HoldItemStrings _
      (λ d p. map_holds HoldItemStrings HoldItemStrings (item d) (λ ds q. (p, q)) (of_items js) (items_strings js h.1)) (of_json j) (tree_strings j h.0)

  members_strings : (ms : json.Members) (found : Members) → HoldTextTrees ms → HoldMemberStrings found → IfSome (of_members ms found) HoldMemberStrings
  members_strings json.no_members found h k = k
  members_strings (json.member name j ms) found h k =
      then_holds HoldsStrings HoldMemberStrings _ (λ d p. members_strings ms (put name d found) h.2 (put_strings name d found h.0 p k)) (of_json j)
      (tree_strings j h.1)

-- a tree with nothing behind it
last_tree : (o : Option (json.Json × List Token)) → Gives IsTextTree o → IfSome (option_and_then (λ p. json.if_last p.0 p.1) o) IsTextTree
last_tree o h = grind arith

-- the value that a text is
pub read_strings : (text : List ℕ) → IsUtf8 text → IfSome (read text) HoldsStrings
read_strings text h =
    then_holds IsTextTree HoldsStrings of_json tree_strings _
    (last_tree (json.value max_depth (tokens text)) (tree_texts max_depth (tokens text) (tokens_texts text h)))
