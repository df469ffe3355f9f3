-- Which contacts a text spells, by the value that it is read as.
use Rattle.std.proofs.Common.{◌≡◌, ◌≢◌, ◌↔◌, ℕ, List, map, Bool, true, false, Option, Some, None, ap, ◌∙◌, arith}
use Rattle.std.proofs.lemmas.Bool.Decides.{nat_tests}
use Rattle.std.specs.Prelude.{IsTrue}
use Rattle.serde_json.specs.{Data.Data, Data.string, Read.read, Written.compact_text, Written.has_float}
use Rattle.desk_model.specs.Json.{list}
use Rattle.json_texts.proofs.PlainLists.{no_float_in}
use Rattle.store_columns.specs.{Reading.IsRead, Reading.Unlimited, Spelling.contacts_text}
use Rattle.store_columns.proofs.JsonTexts.{read-contacts_text}

-- the list of these contacts
abbrev pub contacts_list : List (List ℕ) → Data
contacts_list contacts = list (map string contacts)

-- what is no JSON spells none
pub none_of_no_value : (text : List ℕ) → read text ≡ None → (contacts : List (List ℕ)) → text ≢ contacts_text contacts
none_of_no_value text unread contacts same = grind (arith, nat_tests, read-contacts_text)

-- a text of contacts is read as their list
list_of : (text : List ℕ) (d : Data) → read text ≡ Some d → (contacts : List (List ℕ)) → text ≡ contacts_text contacts → d ≡ contacts_list contacts
list_of text d there contacts same = let back : read text ≡ Some (contacts_list contacts) = ap read same ∙ read-contacts_text contacts in cc (there, back)

-- a value that is no list of strings is spelled by none
none_of_other_value : (text : List ℕ) (d : Data) → read text ≡ Some d → ((contacts : List (List ℕ)) → d ≢ contacts_list contacts)
    → (contacts : List (List ℕ)) → text ≢ contacts_text contacts
none_of_other_value text d there other contacts same = other contacts (list_of text d there contacts same)

-- nor is a text that is not compact
pub none_of_loose_text : (text : List ℕ) (d : Data) (compact : Bool) → read text ≡ Some d
    → (has_float d ≡ false → IsTrue compact ↔ (text ≡ compact_text d)) → compact ≡ false
    → (contacts : List (List ℕ)) → text ≢ contacts_text contacts
none_of_loose_text text d compact there tells loose contacts same = grind (arith, nat_tests, list_of, no_float_in)

-- a compact list of strings is spelled by these
of_compact_text : (text : List ℕ) (d : Data) (compact : Bool) (contacts : List (List ℕ)) → d ≡ contacts_list contacts
    → (has_float d ≡ false → IsTrue compact ↔ (text ≡ compact_text d)) → compact ≡ true
    → text ≡ contacts_text contacts
of_compact_text text d compact contacts is tells tight = (tells (no_float_in contacts d is)).0 tight ∙ ap compact_text is

-- a compact text spells the strings that its value lists, if it lists strings
pub of_value : (text : List ℕ) (d : Data) (compact : Bool) (found : Option (List (List ℕ))) → read text ≡ Some d
    → (has_float d ≡ false → IsTrue compact ↔ (text ≡ compact_text d)) → compact ≡ true
    → IsRead contacts_list Unlimited d found → IsRead contacts_text Unlimited text found
of_value text d compact None there tells tight other = λ contacts _ same. none_of_other_value text d there (λ row is. other row tt is) contacts same
of_value text d compact (Some contacts) there tells tight listed = (tt, of_compact_text text d compact contacts listed.1 tells tight)
