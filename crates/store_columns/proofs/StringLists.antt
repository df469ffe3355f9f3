-- The texts of a list of strings, and the list that they are.
use Rattle.std.proofs.Common.{◌≡◌, ℕ, List, [], ◌∷◌, map, Option, Some, refl, ap, arith}
use Rattle.std.proofs.lemmas.Bool.Decides.{nat_tests}
use Rattle.serde_json.specs.{Data.Data, Data.string, Data.array, Data.Items, Data.no_items, Data.item, Find.as_str, View.items_of}
use Rattle.desk_model.specs.{Json.list, Payload.and_each, Payload.each_in, Payload.texts_in}
use Rattle.store_columns.specs.Reading.{IsRead, Unlimited}

-- a value with a string is that string
as_str-some : (d : Data) (s : List ℕ) → as_str d ≡ Some s → d ≡ string s
as_str-some d s h = grind (arith, nat_tests)

-- items with these strings are these strings
items-some : (ds : Items) (ss : List (List ℕ)) → each_in as_str ds ≡ Some ss → ds ≡ items_of (map string ss)
items-some no_items ss e = let same : [] ≡ ss = cc e in ap (λ l. items_of (map string l)) same
items-some (item d ds) ss e = grind (arith, nat_tests, as_str-some, (items-some ds))

-- and strings have themselves
each_in-strings : (ss : List (List ℕ)) → each_in as_str (items_of (map string ss)) ≡ Some ss
each_in-strings [] = refl
each_in-strings (s ∷ ss) = ap (and_each (Some s)) (each_in-strings ss)

-- a value with texts is the list of these
list-some : (d : Data) (ss : List (List ℕ)) → texts_in d ≡ Some ss → d ≡ list (map string ss)
list-some (array ds) ss e = ap array (items-some ds ss e)
list-some _ ss e = absurd (cc e)

-- the texts in a value are read: it is their list, or that of no texts
pub texts_are_read : (d : Data) (found : Option (List (List ℕ))) → found ≡ texts_in d → IsRead (λ ss. list (map string ss)) Unlimited d found
texts_are_read d found h = grind (arith, nat_tests, each_in-strings, list-some)
