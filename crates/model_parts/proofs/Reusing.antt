-- A part that keeps the authorizations which a new order may use again lets it use the same.
use Rattle.std.proofs.Common.{◌≡◌, ℕ, List, [], ◌∷◌, Option, Some, None, refl, ap, true, false, Bool, cond, arith}
use Rattle.std.specs.{Prelude.◌==◌, List.list_any}
use Rattle.desk_model.specs.Rules.{kept, left_by, names_asked, names_in, names_of, new_order_verdict, order_of, subproblems, wanted, wanted_by}
use Rattle.desk_model.specs.{Legal.has_length, Limits.most_names, Lookup.holds, Tables.Tables, Verdict.check, Kept.EachOf, Kept.Kept, Kept.restricted}
use Rattle.desk_model.specs.{Name.Name, Name.same_name, Questions.order_end, Questions.serves, Questions.serving_on, declared.payload.Identifier.Identifier}
use Rattle.desk_model.specs.{declared.reply.Subproblem.Subproblem, declared.rows.AuthorizationRow.AuthorizationRow}
use Rattle.desk_model.specs.{declared.verdict.Verdict.TheVariants.Orders as orders, declared.entry.Entry.TheVariants.Ordered as ordered}
use Rattle.desk_model.specs.declared.refusal.Refusal.TheVariants as refusal
use Rattle.model_laws.proofs.{Basics.each, Local.find_part, Finds.each_found, Finds.found_passes}
use Rattle.model_laws.specs.Parts.{ReusedKept}
use Rattle.model_parts.proofs.Lists.{each_member}

-- the account's authorizations for these names are kept
abbrev pub KeepsAsked : Kept → List AuthorizationRow → (account : ℕ) → Option (List Name) → Type 0
KeepsAsked k rows account names =
    EachOf (λ r. holds (list_any (same_name r.name)) names ≡ true → (r.account == account) ≡ true → k.authorizations r.number ≡ true) rows

-- what each of the names passes, one passes
abbrev IsAmong : List Name → Name → Type 0
IsAmong names name = (p : Name → Bool) → p name ≡ true → list_any p names ≡ true

-- so each that serves is kept
serving_kept : (k : Kept) (S : Tables) (n : ℕ) (names : List Name) (name : Name) → KeepsAsked k S.authorizations n (Some names) → IsAmong names name →
    EachOf (λ r. serves n name (order_end S) r ≡ true → k.authorizations r.number ≡ true) S.authorizations
serving_kept k S n names name asked among = grind (arith, each)

-- and the part finds the same
serving_same : (k : Kept) (S : Tables) (n : ℕ) (names : List Name) (name : Name) → KeepsAsked k S.authorizations n (Some names) → IsAmong names name →
    serving_on (restricted k S) n name ≡ serving_on S n name
serving_same k S n names name asked among = grind (arith, find_part, (serving_kept k S n names name asked among))

-- each of some names gets the same
wanted_same : (k : Kept) (S : Tables) (n : ℕ) (names some : List Name) (random : List ℕ) → KeepsAsked k S.authorizations n (Some names) →
    EachOf (IsAmong names) some → wanted (restricted k S) n some random ≡ wanted S n some random
wanted_same k S n names [] random asked among = refl
wanted_same k S n names (name ∷ some) random asked among = grind (
  arith,
  (wanted_same k S n names some (left_by (serving_on S n name) name random) asked among.1),
  (serving_same k S n names name asked among.0),
)

-- and what it uses again is kept
pub wanted_kept : (k : Kept) (S : Tables) (n : ℕ) (names some : List Name) (random : List ℕ) → KeepsAsked k S.authorizations n (Some names) →
    EachOf (IsAmong names) some → ReusedKept k (ordered n (wanted S n some random))
wanted_kept k S n names [] random asked among = tt
wanted_kept k S n names (name ∷ some) random asked among =
    by (serving_on S n name) refl (λ rest. wanted_kept k S n names some rest asked among.1)
  where
    by : (o : Option AuthorizationRow) → serving_on S n name ≡ o → ((rest : List ℕ) → ReusedKept k (ordered n (wanted S n some rest))) →
        ReusedKept k (ordered n (wanted_by o name random ∷ wanted S n some (left_by o name random)))
    by None e others = (tt, others _)
    by (Some row) e others = (
      each_found _ (serves n name (order_end S)) S.authorizations row (serving_kept k S n names name asked among.0) e
          (found_passes (serves n name (order_end S)) S.authorizations row e),
      others _,
    )

-- the verdict on a new order is the same
pub new_order_same : (k : Kept) (S : Tables) (random : List ℕ) (n : ℕ) (ids : List Identifier) → KeepsAsked k S.authorizations n (names_asked ids) →
    new_order_verdict (restricted k S) random n ids ≡ new_order_verdict S random n ids
unfolding check
new_order_same k S random n ids asked = by (has_length 1 most_names ids) (subproblems ids) asked
  where
    by : (b : Bool) (ss : List Subproblem) → KeepsAsked k S.authorizations n (cond b (names_of ids ss) None) →
        check b refusal.Malformed (order_of (restricted k S) random n ids ss) ≡ check b refusal.Malformed (order_of S random n ids ss)
    by true [] h = ap (orders n) (wanted_same k S n (kept (names_in ids)) (kept (names_in ids)) random h (each_member (kept (names_in ids))))
    by true (s ∷ ss) h = refl
    by false ss h = refl
