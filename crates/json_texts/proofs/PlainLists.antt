-- Lists that hold no float.
use Rattle.std.proofs.Common.{◌≡◌, ℕ, List, [], ◌∷◌, map, false, refl, ap, ◌∙◌}
use Rattle.std.specs.Prelude.{◌||◌}
use Rattle.serde_json.specs.{Data.Data, Data.string, View.items_of, Written.has_float, Written.items_have_float}
use Rattle.desk_model.specs.Json.{list}

-- a list whose items are made of others has no float where each of them has none
pub each_plain : {X : Type 0} (f : X → Data) → ((x : X) → has_float (f x) ≡ false) → (xs : List X) → items_have_float (items_of (map f xs)) ≡ false
each_plain f plain [] = refl
each_plain f plain (x ∷ xs) = ap (λ b. b || items_have_float (items_of (map f xs))) (plain x) ∙ each_plain f plain xs

-- nor does a list of strings
pub no_float_in : (texts : List (List ℕ)) (d : Data) → d ≡ list (map string texts) → has_float d ≡ false
no_float_in texts d is = ap has_float is ∙ each_plain string (λ _. refl) texts
