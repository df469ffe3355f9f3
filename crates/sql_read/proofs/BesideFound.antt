-- What the look-up of an authorization by one of its challenges finds: all its challenges, each beside it.
use Rattle.std.proofs.Common.{◌≡◌, ◌≢◌, ◌==◌, ℕ, pos, Bool, true, List, [], ◌∷◌, cond, map, filter, flat_map, inl, inr, refl, subst, sym, ap, ◌∙◌, append-nil}
use Rattle.std.proofs.Common.{arith}
use Rattle.std.proofs.lemmas.{Bool.eq-eqb, List.Sorted.IsPermutation-refl, Simd.map-map}
use Rattle.sqlite.specs.{Held.Held, Held.state, Store.Ghosts, declared.types.Value.TheVariants.Int}
use Rattle.store_columns.specs.{Flat.answer_key, Flat.bare, Flat.challenge_rows, Flat.without_challenges, declared.columns.JoinedChallenge.JoinedChallenge}
use Rattle.store_columns.specs.declared.columns.Owned.{Owned}
use Rattle.model_laws.proofs.{Basics.each, Basics.each_all, Basics.map-each, Keeps.each-filter}
use Rattle.model_parts.specs.LookUps.{authorizations_numbered, owners_of}
use Rattle.desk_model.specs.{Kept.EachOf, Tables.Tables, declared.rows.AuthorizationRow.AuthorizationRow, declared.rows.ChallengeRow.ChallengeRow}
use Rattle.store_book.specs.IsBook.{IsStoredBook}
use Rattle.sql_schema.specs.declared.challenges.TheConstants as chall
use Rattle.sql_tables.specs.{Holds.Holds, Layouts.challenge_layout}
use Rattle.sql_tables.proofs.Sorting.{each_sorted, filter_ascending, filter_number, sorted_rises}
use Rattle.sql_read.specs.{Joined.gathered, Joined.joined_row, Queries.number, Under.HasItsChallenges, declared.formats.Format.TheVariants.Second}
use Rattle.sql_read.proofs.Beside.{IsOwned, joined_facts, owners_there, parts}
use Rattle.sql_read.proofs.BesideRows.{IsAsked, companions, companions_match, companions_rise, each_companion, one_asked}
use Rattle.sql_read.proofs.KeyedFound.{all_challenges, all_keys, challenges_there, keyed_stored, keyed_texts}
use Rattle.sql_read.proofs.{Answered.strictly, FoundRows.FindsIn, FoundRows.are_kept, FoundRows.finds_matched, JoinFound.waiting_of}
use Rattle.sql_read.proofs.{KeptRows.authorizations_kept, LookUpReadings.beside_reading, TableFacts.authorization_facts, TableFacts.cells}
use Rattle.sql_read.proofs.{UnderLemmas.authorizations_have, UnderLemmas.own_ascend, UnderLemmas.owners_are, WaitingChallenges.filter_turned}

-- the challenges of the authorization that has the one of a number, each beside it
abbrev pub beside_rows : Tables → ℕ → List JoinedChallenge
beside_rows T n = map waiting_of (companions (all_challenges T) T.authorizations n)

-- gathered, they are the authorization with its challenges
gathered_one : (a : AuthorizationRow) (cs : List (Owned ChallengeRow)) → cs ≢ []
    → gathered (map waiting_of (map (λ c. (c, a)) cs)) ≡ record a { challenges = map (λ c. c.row) cs } ∷ []
gathered_one a [] some = absurd (some refl)
gathered_one a (c ∷ cs) some = grind (arith, map-map)

-- one item that passes another test is left by it
some_left : {X : Type 0} (p q : X → Bool) (xs : List X) (x : X) → filter p xs ≡ x ∷ [] → q x ≡ true → filter q xs ≢ []
some_left p q xs x alone passes none =
    let left : filter p (filter q xs) ≡ x ∷ [] =
    filter_turned p q xs ∙ ap (filter q) alone ∙ ap (λ b. cond b (x ∷ []) []) passes in
    let nothing : filter p (filter q xs) ≡ [] = ap (filter p) none in
    absurd (let e = sym nothing ∙ left in cc)

module _ {S : Type 0} (g : Ghosts S) (old : Held S) (T : Tables) (has : Holds (state g old).now T) (book : IsStoredBook T) (n : ℕ) where
  -- each challenge has one authorization
  all_owned : EachOf (IsOwned T.authorizations) (all_challenges T)
  all_owned =
      each_sorted challenge_layout.key (IsOwned T.authorizations) (challenge_rows T.authorizations) (owners_there 0 T.authorizations has.rising.authorizations)

  -- the parts show them
  beside_parts : map joined_row (beside_rows T n) ≡ map parts (companions (all_challenges T) T.authorizations n)
  beside_parts =
      let xs = companions (all_challenges T) T.authorizations n in
      map-map joined_row waiting_of xs
      ∙ map-each (λ x. joined_row (waiting_of x)) parts xs
      (each _ _ xs (λ x it i. ((record { owner = sym it.1 i; row = bare x.0.row }, without_challenges x.1), answer_key x.0.row))
      (each_companion (all_challenges T) T.authorizations (λ _. Unit {0}) (λ _. Unit {0}) n (each_all _ (all_challenges T) (λ _. tt))
      (each_all _ T.authorizations (λ _. tt))))

  -- they are found
  pub beside_find : FindsIn joined_facts g (chall.SELECT_BESIDE.now, number n) old (map joined_row (beside_rows T n))
  beside_find =
      let cs = all_challenges T in
      let xs = companions cs T.authorizations n in
      let kept = are_kept authorization_facts (authorizations_kept _ T Second has) book in
      subst (FindsIn joined_facts g (chall.SELECT_BESIDE.now, number n) old) (sym beside_parts)
      (finds_matched joined_facts g (beside_reading n) refl old has.schema
      (companions_match _ cs (all_keys T) (challenges_there g old T has book) T.authorizations has.authorizations n) (λ x. Int (pos x.0.row.number) ∷ []) xs (
        each _ _ xs (λ x p. ((p.0.0.0, p.0.1), p.0.0.1)) (each_companion cs T.authorizations _ _ n (keyed_stored g old T has book) kept.0),
        each _ _ xs (λ x p. p.0) (each_companion cs T.authorizations _ _ n (keyed_texts g old T has book) kept.1),
      ) (IsPermutation-refl _)
      (strictly (λ x. x.0.row.number) (cells joined_facts) 0 xs
      (companions_rise cs T.authorizations n (sorted_rises challenge_layout.key (challenge_rows T.authorizations)) all_owned)))

  -- the authorization of the one that has the number
  owner_found : (b : Owned ChallengeRow) (a : AuthorizationRow) → IsAsked (all_challenges T) T.authorizations n b a
      → gathered (beside_rows T n) ≡ flat_map (authorizations_numbered T) (map (λ c. c.owner) (b ∷ []))
  owner_found b a is =
      let cs = all_challenges T in
      let own = filter (λ (c : Owned ChallengeRow). c.owner == a.number) cs in
      let all = challenge_rows T.authorizations in
      let its : HasItsChallenges T.authorizations a =
      (subst (EachOf (HasItsChallenges T.authorizations)) is.owner
      (each-filter _ (λ r. r.number == b.owner) T.authorizations (authorizations_have 0 T.authorizations has.rising.authorizations))).0 in
      ap (λ xs. gathered (map waiting_of xs)) is.all
      ∙ gathered_one a own
      (some_left (λ c. c.row.number == n) (λ c. c.owner == a.number) cs b is.asked (eq-eqb b.owner a.number (sym is.same)))
      ∙ (λ i. record a {
        challenges = (ap (map (λ (c : Owned ChallengeRow). c.row))
            (filter_ascending challenge_layout.key (λ c. c.owner == a.number) 1 all has.rising.challenges
            (own_ascend a.number 0 T.authorizations has.rising.authorizations book.book.in_order.challenges)) ∙ its) i;
      } ∷ [])
      ∙ sym (append-nil (authorizations_numbered T b.owner) ∙ is.owner)

  -- that of the model
  pub owner_is : gathered (beside_rows T n) ≡ flat_map (authorizations_numbered T) (owners_of T n)
  owner_is =
      let cs = all_challenges T in
      elim (one_asked cs T.authorizations n (sorted_rises challenge_layout.key (challenge_rows T.authorizations)) all_owned) [
        | inl none ↦ ap (λ xs. gathered (map waiting_of xs)) none.1 ∙ ap (λ bs. flat_map (authorizations_numbered T) (map (λ c. c.owner) bs)) (sym none.0)
        | inr one ↦
            owner_found one.0 one.1 one.2 ∙ ap (λ bs. flat_map (authorizations_numbered T) (map (λ c. c.owner) bs)) (sym one.2.asked)
      ]
      ∙ ap (λ bs. flat_map (authorizations_numbered T) (map (λ c. c.owner) bs))
      (filter_number challenge_layout.key n (challenge_rows T.authorizations) has.rising.challenges)
      ∙ ap (flat_map (authorizations_numbered T)) (owners_are T n)
