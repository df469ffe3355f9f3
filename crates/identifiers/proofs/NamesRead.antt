-- What the identifiers of an order stand for, by one more of them.
use Rattle.std.proofs.Common.{◌≡◌, ◌<◌, ◌+◌, ℕ, List, [], ◌∷◌, ◌++◌, Option, Some, None, length, take, drop, get_or, refl, sym, ap, ◌∙◌, append_assoc, arith}
use Rattle.std.proofs.{lemmas.List.at_drop_more, lemmas.List.take_more, lemmas.Bool.Decides.nat_tests}
use Rattle.desk_model.specs.{Name.Name, Names.name_of, Rules.and_subproblem, Rules.fault_of, Rules.kept, Rules.names_in, Rules.subproblems}
use Rattle.desk_model.specs.{declared.payload.Identifier.Identifier, declared.refusal.Refusal.Refusal, declared.reply.Subproblem.Subproblem}

-- the subproblems and the different names that were found in the first of some identifiers
pub record AreFound (ids : List Identifier) (index : ℕ) (faulty : List Subproblem) (names : List Name) : Type 0 where
  pub refused : faulty ++ subproblems (drop index ids) ≡ subproblems ids
  pub named : faulty ≡ [] → names ≡ kept (names_in (take index ids))

-- what is left begins with the next one
subproblems-next : (ids : List Identifier) (index : ℕ) (id : Identifier) (why : Option Refusal) → index < length ids
    → id ≡ get_or ids index id → fault_of id ≡ why →
    subproblems (drop index ids) ≡ and_subproblem why id (subproblems (drop (index + 1) ids))
subproblems-next ids index id why more is known = grind (arith, nat_tests, at_drop_more, (at_drop_more subproblems ids index id more))

names_in-append : (is js : List Identifier) → names_in (is ++ js) ≡ names_in is ++ names_in js
names_in-append [] js = refl
names_in-append (i ∷ is) js = grind (arith, nat_tests, (names_in-append is js))

-- the names of the first ones end with that of the last of these
names_in-last : (ids : List Identifier) (index : ℕ) (id : Identifier) (name : Name) → index < length ids → id ≡ get_or ids index id
    → name_of id.value ≡ Some name →
    names_in (take (index + 1) ids) ≡ names_in (take index ids) ++ name ∷ []
names_in-last ids index id name more is stands = grind (arith, nat_tests, take_more, names_in-append, (names_in-append (take index ids) (id ∷ [])))

-- one more that stands for a name
pub named-next : (ids : List Identifier) (index : ℕ) (id : Identifier) (name : Name) (faulty faulty_then : List Subproblem) (names names_then : List Name) →
    index < length ids → id ≡ get_or ids index id → fault_of id ≡ None → name_of id.value ≡ Some name → faulty_then ≡ faulty
    → ((before : List Name) → names ≡ kept before → names_then ≡ kept (before ++ name ∷ [])) →
    AreFound ids index faulty names → AreFound ids (index + 1) faulty_then names_then
named-next ids index id name faulty faulty_then names names_then more is sound stands same keeps known = grind (
  arith,
  nat_tests,
  subproblems-next,
  names_in-last,
  (subproblems-next ids index id None more is sound),
  (names_in-last ids index id name more is stands),
)

not_empty : {X : Type 0} {A : Type 0} (xs : List X) (x : X) → xs ++ x ∷ [] ≡ [] → A
not_empty [] x none = cc
not_empty (y ∷ ys) x none = cc

-- one more that is faulty
pub faulty-next : (ids : List Identifier) (index : ℕ) (id : Identifier) (why : Refusal) (found : Subproblem)
    (faulty faulty_then : List Subproblem) (names names_then : List Name) →
    index < length ids → id ≡ get_or ids index id → fault_of id ≡ Some why
    → found ≡ record { refusal = why; kind = id.kind; value = id.value } → faulty_then ≡ faulty ++ found ∷ [] →
    AreFound ids index faulty names → AreFound ids (index + 1) faulty_then names_then
faulty-next ids index id why found faulty faulty_then names names_then more is refused shown pushed known =
    record {
      refused =
          ap (λ l. l ++ subproblems (drop (index + 1) ids)) (pushed ∙ ap (λ s. faulty ++ s ∷ []) shown)
          ∙ append_assoc faulty _ (subproblems (drop (index + 1) ids))
          ∙ ap (λ l. faulty ++ l) (sym (subproblems-next ids index id (Some why) more is refused))
          ∙ known.refused;
      named = λ none. not_empty faulty found (sym pushed ∙ none);
    }
