-- The contacts that a UTF-8 payload names are UTF-8.
use Rattle.std.proofs.Common.{ℕ, List, [], ◌∷◌, Option, Some, IsUtf8, IfSome, Bool, true, false, cond, arith}
use Rattle.std.specs.Prelude.{codes, option_map, unwrap_or}
use Rattle.serde_json.specs.Data.{Data, Items, no_items, item, Members, no_members, member}
use Rattle.serde_json.specs.Find.{as_array, as_bool, as_str, get, get_member}
use Rattle.desk_model.specs.Payload.{account_change, account_change_in, each_in, new_account, new_account_by, new_account_in, object_in, optional}
use Rattle.desk_model.specs.Payload.{says_deactivated, texts_in}
use Rattle.desk_model.specs.{Texts.AreTexts, declared.payload.AccountChange.AccountChange, declared.payload.NewAccount.NewAccount}
use Rattle.desk_model.specs.declared.payload.AccountChange.TheVariants as change
use Rattle.model_lives.proofs.{JsonContent.then_holds, JsonTexts.HoldsStrings, JsonTexts.HoldItemStrings, JsonTexts.HoldMemberStrings, JsonTexts.map_holds}
use Rattle.model_lives.proofs.JsonTexts.{read_strings}

-- ---- values

-- the object that a text holds
object_strings : (text : List ℕ) → IsUtf8 text → IfSome (object_in text) HoldsStrings
unfolding object_in
object_strings text h = grind (arith, read_strings)

-- a member of an object
member_strings : (k : List ℕ) (ms : Members) → HoldMemberStrings ms → IfSome (get_member k ms) HoldsStrings
member_strings k no_members h = tt
member_strings k (member l d ms) h = grind (arith, (member_strings k ms h.2))

-- a member of a value
get_strings : (k : List ℕ) (d : Data) → HoldsStrings d → IfSome (get k d) HoldsStrings
get_strings k d h = grind (arith, member_strings)

-- the items of the array that a value is
array_strings : (d : Data) → HoldsStrings d → IfSome (as_array d) HoldItemStrings
array_strings d h = grind arith

-- items that are strings
items_are_texts : (ds : Items) → HoldItemStrings ds → IfSome (each_in as_str ds) AreTexts
items_are_texts no_items h = tt
items_are_texts (item d ds) h = grind (arith, (items_are_texts ds h.1))

-- a list of texts
list_texts : (d : Data) → HoldsStrings d → IfSome (texts_in d) AreTexts
list_texts d h = then_holds HoldItemStrings AreTexts (each_in as_str) items_are_texts (as_array d) (array_strings d h)

-- a list that may be left out
optional_texts : (o : Option Data) → IfSome o HoldsStrings → IfSome (optional texts_in o) (λ x. IfSome x AreTexts)
optional_texts o h = grind (arith, list_texts)

-- ---- payloads

-- a new account is asked for with texts
abbrev pub AsksWithTexts : NewAccount → Type 0
AsksWithTexts p = AreTexts p.contacts

-- the contacts of a newAccount
pub new_account_texts : (payload : List ℕ) → IsUtf8 payload → IfSome (new_account payload) AsksWithTexts
new_account_texts payload h =
    then_holds HoldsStrings AsksWithTexts new_account_in
    (λ d k. by (optional texts_in (get (codes "contact") d)) (optional as_bool (get (codes "onlyReturnExisting") d))
    (optional_texts (get (codes "contact") d) (get_strings (codes "contact") d k))) (object_in payload) (object_strings payload h)
  where
    given : (o : Option (List (List ℕ))) → IfSome o AreTexts → AreTexts (unwrap_or o [])
    given o l = grind arith

    by : (contacts : Option (Option (List (List ℕ)))) (only : Option (Option Bool)) → IfSome contacts (λ x. IfSome x AreTexts) →
        IfSome (new_account_by contacts only) AsksWithTexts
    by contacts only g = grind arith

-- an account is changed to texts
abbrev pub ChangesToTexts : AccountChange → Type 0
ChangesToTexts (change.Update contacts) = IfSome contacts AreTexts
ChangesToTexts _ = Unit {0}

-- the contacts of a request to an account
pub account_change_texts : (payload : List ℕ) → IsUtf8 payload → IfSome (account_change payload) ChangesToTexts
account_change_texts [] h = tt
account_change_texts (b ∷ bs) h =
    then_holds HoldsStrings ChangesToTexts account_change_in
    (λ d k. by d (says_deactivated d) (optional_texts (get (codes "contact") d) (get_strings (codes "contact") d k))) (object_in (b ∷ bs))
    (object_strings (b ∷ bs) h)
  where
    by : (d : Data) (ends : Bool) → IfSome (optional texts_in (get (codes "contact") d)) (λ x. IfSome x AreTexts) →
        IfSome (cond {A = Option AccountChange} ends (Some change.Deactivate) (option_map change.Update (optional texts_in (get (codes "contact") d))))
        ChangesToTexts
    by d true k = tt
    by d false k = map_holds (λ x. IfSome x AreTexts) ChangesToTexts change.Update (λ x q. q) (optional texts_in (get (codes "contact") d)) k
