-- Items of a list that are read one by one.
use Rattle.std.proofs.Common.{◌≡◌, ℕ, zero, suc, ◌+◌, ◌<◌, List, [], ◌∷◌, ◌++◌, length, take, get_or, Option, Some, None, refl, sym, ap, ◌∙◌, arith, add-one}
use Rattle.std.proofs.{Math.Seq.take-suc, lemmas.Option.same_Some, lemmas.Bool.Decides.nat_tests}
use Rattle.serde_json.specs.{Data.Data, View.view, View.items_view, declared.value.Value.Value}
use Rattle.desk_model.specs.Payload.{and_each, each_in}

none_stays : {X : Type 0} (o : Option X) → and_each o None ≡ None
none_stays o = grind (arith, nat_tests)

-- an item in another form spoils the list
pub each_in-none : {X : Type 0} (form : Data → Option X) (vs : List Value) (i : ℕ) (v : Value) → i < length vs → v ≡ get_or vs i v → form (view v) ≡ None →
    each_in form (items_view vs) ≡ None
each_in-none form [] i v lt is none = absurd (omega arith)
each_in-none form (w ∷ ws) zero v lt is none = ap (λ o. and_each o (each_in form (items_view ws))) (ap (λ x. form (view x)) (sym is) ∙ none)
each_in-none form (w ∷ ws) (suc i) v lt is none = grind (arith, nat_tests, none_stays, (each_in-none form ws i v (omega arith) is none))

last_form : {X : Type 0} (form : Data → Option X) (vs : List Value) (v : Value) (xs : List X) (x : X)
    → each_in form (items_view vs) ≡ Some xs → form (view v) ≡ Some x →
    each_in form (items_view (vs ++ v ∷ [])) ≡ Some (xs ++ x ∷ [])
last_form {X} form [] v xs x read there = ap (λ o. and_each o (Some [])) there ∙ ap (λ (l : List X). Some (l ++ x ∷ [])) (same_Some [] xs read)
last_form {X} form (w ∷ ws) v xs x read there =
    by (form (view w)) (each_in form (items_view ws)) refl (λ ys q. last_form form ws v ys x q there) read
  where
    by : (o : Option X) (p : Option (List X)) → each_in form (items_view ws) ≡ p
        → ((ys : List X) → each_in form (items_view ws) ≡ Some ys → each_in form (items_view (ws ++ v ∷ [])) ≡ Some (ys ++ x ∷ []))
        → and_each o p ≡ Some xs
        → and_each o (each_in form (items_view (ws ++ v ∷ []))) ≡ Some (xs ++ x ∷ [])
    by g p h k e = grind (arith, nat_tests, same_Some)

-- one more item in the form
pub each_in-last : {X : Type 0} (form : Data → Option X) (vs : List Value) (i : ℕ) (v : Value) (xs : List X) (x : X) → i < length vs → v ≡ get_or vs i v →
    each_in form (items_view (take i vs)) ≡ Some xs → form (view v) ≡ Some x → each_in form (items_view (take (i + 1) vs)) ≡ Some (xs ++ x ∷ [])
each_in-last form vs i v xs x lt is read there =
    ap (λ l. each_in form (items_view l)) (ap (λ n. take n vs) (add-one i) ∙ take-suc vs i v lt ∙ ap (λ w. take i vs ++ w ∷ []) (sym is))
    ∙ last_form form (take i vs) v xs x read there
