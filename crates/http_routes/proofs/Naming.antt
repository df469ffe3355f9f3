-- The status that a text names, and the names of members.
use Rattle.std.proofs.Common.{◌≡◌, ◌≢◌, ℕ, List, [], ◌∷◌, Bool, false, cond, map, Option, Some, None, refl, sym, ap, ◌∙◌, subst, arith}
use Rattle.std.proofs.lemmas.Slice.Eq.{bytes_eq-Decides}
use Rattle.std.specs.{Prelude.◌&&◌, Prelude.String, Prelude.bytes_eq, Prelude.find, Prelude.string_bytes, List.list_all, declared.alloc.Global.Global}
use Rattle.serde_json.specs.{View.members_view, declared.value.Value.Value}
use Rattle.desk_model.specs.{Document.order_status_text, Lookup.IsValueOf, declared.status.OrderStatus.OrderStatus}
use Rattle.desk_model.specs.declared.status.OrderStatus.TheVariants as order
use Rattle.http_routes.specs.Looked.{names, status_named, statuses}

-- texts that are not the same are told apart
told_apart : (a b : List ℕ) (r : Bool) → bytes_eq a b ≡ r → a ≢ b → bytes_eq a b ≡ false
told_apart a b r same other = grind (arith, bytes_eq-Decides)

-- nothing is found where nothing passes
nothing_found : {X : Type 0} (test : X → Bool) (xs : List X) → ((x : X) → test x ≡ false) → find test xs ≡ None
nothing_found test [] fails = refl
nothing_found test (x ∷ xs) fails = ap (λ b. cond b (Some x) (find test xs)) (fails x) ∙ nothing_found test xs fails

-- the status whose text this is, is the one that is found
pub status_found : (text : List ℕ) (o : Option OrderStatus) → IsValueOf order_status_text text o → o ≡ status_named text
status_found text None none =
    let fails : (s : OrderStatus) → bytes_eq text (order_status_text s) ≡ false
    = λ s. told_apart text (order_status_text s) (bytes_eq text (order_status_text s)) refl (none s) in
    sym (nothing_found (λ s. bytes_eq text (order_status_text s)) statuses fails)
status_found text (Some order.Pending) is = subst (λ (t : List ℕ). Some order.Pending ≡ status_named t) (sym is) refl
status_found text (Some order.Ready) is = subst (λ (t : List ℕ). Some order.Ready ≡ status_named t) (sym is) refl
status_found text (Some order.Processing) is = subst (λ (t : List ℕ). Some order.Processing ≡ status_named t) (sym is) refl
status_found text (Some order.Valid) is = subst (λ (t : List ℕ). Some order.Valid ≡ status_named t) (sym is) refl
status_found text (Some order.Invalid) is = subst (λ (t : List ℕ). Some order.Invalid ≡ status_named t) (sym is) refl

-- the names of members pass where the keys do
pub names_pass : (test : List ℕ → Bool) (members : List (String Global × Value))
    → list_all (λ key. test (string_bytes key)) (map (λ m. m.0) members) ≡ list_all test (names (members_view members))
names_pass test [] = refl
names_pass test (m ∷ members) = ap (λ b. test (string_bytes m.0) && b) (names_pass test members)
