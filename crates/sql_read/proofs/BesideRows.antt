-- What the join shows that begins with one challenge: all challenges of its authorization, each beside it, and beside the key of its answer.
use Rattle.std.proofs.Common.{◌≡◌, ◌&&◌, ◌==◌, ◌⊎◌, ℕ, pos, true, cond, List, [], ◌∷◌, map, filter, flat_map, inl, inr, refl, sym, ap, subst, ◌∙◌, append-nil}
use Rattle.std.proofs.Common.{arith, rules}
use Rattle.std.proofs.{lemmas.Bool.eqb-true, lemmas.List.Concat.flat_map_single, lemmas.Simd.map-map}
use Rattle.std.specs.{List.list_all, Ordering.is_eq}
use Rattle.sqlite.specs.declared.types.Value.TheVariants.{Int}
use Rattle.sqlite_value.specs.Order.{Row}
use Rattle.sqlite_trees.specs.Tree.{Trees}
use Rattle.sqlite_trees.proofs.ListLemmas.{flat_map_same_on, map-flat_map}
use Rattle.sqlite_sql.specs.{Query.Output, Query.Query, Query.end, Query.inner, Query.left, Query.matches, Query.output, Term.Env, Term.holds}
use Rattle.store_columns.specs.{Flat.answer_key, declared.columns.AnswerKey.AnswerKey, declared.columns.Owned.Owned}
use Rattle.model_laws.specs.Ordered.{Ascends}
use Rattle.model_laws.proofs.{Basics.each, Basics.each-map, Basics.each_all, Basics.each_both, Keeps.each-filter, RowLists.ascends_filter, RowLists.ascends_map}
use Rattle.desk_model.specs.{Kept.EachOf, declared.rows.AuthorizationRow.AuthorizationRow, declared.rows.ChallengeRow.ChallengeRow}
use Rattle.sql_tables.specs.{Images.authorization_image, Images.challenge_image, Layouts.challenge_layout}
use Rattle.sql_tables.proofs.Keyed.{one_or_none, three}
use Rattle.sql_read.specs.{Bounded.bounded, Queries.number}
use Rattle.sql_read.proofs.JoinParts.{beside_from, beside_project, beside_tests, by_other, on_key}
use Rattle.sql_read.proofs.{Answered.all_rows, Answered.picked_from, Beside.IsOwned, Beside.Pair, Beside.joined_facts, KeyedRows.HasChallenges}
use Rattle.sql_read.proofs.{KeyedRows.HasOwnKey, KeyedRows.key_cells, KeyedRows.with_key, Lists.each_flat, Lists.each_passing, SideBySide.spread}
use Rattle.sql_read.proofs.{SideBySide.tests_first, TableFacts.cells, Tests.eq_as, Tests.is_number, Tests.number_test, Tests.same_bounded}

-- ---- the challenges of the authorization that has the one of a number

module _ (cs : List (Owned ChallengeRow)) (rows : List AuthorizationRow) where
  -- what is made of those of an authorization, each beside it
  abbrev pub of_one : {Z : Type 0} → (Pair → Z) → AuthorizationRow → List Z
  of_one f a = map (λ c. f (c, a)) (filter (λ c. c.owner == a.number) cs)

  -- of those of a challenge's authorization
  abbrev pub of_owner : {Z : Type 0} → (Pair → Z) → Owned ChallengeRow → List Z
  of_owner f b = flat_map (of_one f) (filter (λ a. a.number == b.owner) rows)

  -- of those of the authorization of the challenge of a number
  abbrev pub of_asked : {Z : Type 0} → ℕ → (Pair → Z) → List Z
  of_asked n f = flat_map (of_owner f) (filter (λ b. b.row.number == n) cs)

  -- the pairs themselves
  abbrev pub companions : ℕ → List Pair
  companions n = of_asked n (λ x. x)

  -- what is made of them
  map-companions : {Z : Type 0} (n : ℕ) (f : Pair → Z) → map f (companions n) ≡ of_asked n f
  map-companions n f =
      map-flat_map f (of_owner (λ x. x)) (filter (λ b. b.row.number == n) cs)
      ∙ flat_map_same_on _ _ owner (filter (λ b. b.row.number == n) cs)
    where
      owner : (b : Owned ChallengeRow) → map f (of_owner (λ x. x) b) ≡ of_owner f b
      owner b =
          map-flat_map f (of_one (λ x. x)) (filter (λ a. a.number == b.owner) rows)
          ∙ flat_map_same_on _ _ (λ a. map-map f (λ c. (c, a)) (filter (λ c. c.owner == a.number) cs)) (filter (λ a. a.number == b.owner) rows)

  -- there is none of the number, or there are those of the authorization of the one
  pub record IsAsked (n : ℕ) (b : Owned ChallengeRow) (a : AuthorizationRow) : Type 0 where
    pub asked : filter (λ c. c.row.number == n) cs ≡ b ∷ []
    pub owner : filter (λ r. r.number == b.owner) rows ≡ a ∷ []
    pub same : a.number ≡ b.owner
    pub all : companions n ≡ of_one (λ x. x) a

  -- which of the two
  pub one_asked : (n : ℕ) → Ascends challenge_layout.key 0 cs → EachOf (IsOwned rows) cs
      → ((filter (λ c. c.row.number == n) cs ≡ []) × (companions n ≡ [])) ⊎ ((b : Owned ChallengeRow) × (a : AuthorizationRow) × IsAsked n b a)
  one_asked n up owned = elim (one_or_none challenge_layout.key n 0 cs up) [
    | inl none ↦ inl (numbered ∙ none, ap (flat_map (of_owner (λ x. x))) (numbered ∙ none))
    | inr one ↦
        let alone = numbered ∙ one.2 in
        let has = (subst (EachOf (IsOwned rows)) alone (each-filter (IsOwned rows) (λ c. c.row.number == n) cs owned)).0 in
        inr (
          one.0,
          has.0,
          record {
            asked = alone;
            owner = has.1.0;
            same = has.1.1;
            all = ap (flat_map (of_owner (λ x. x))) alone
                ∙ append-nil (of_owner (λ x. x) one.0)
                ∙ ap (flat_map (of_one (λ x. x))) has.1.0
                ∙ append-nil (of_one (λ x. x) has.0);
          },
        )
  ]
    where
      numbered : filter (λ c. c.row.number == n) cs ≡ filter (λ c. is_eq (three c.row.number n)) cs
      numbered = λ i. filter (λ c. sym (eq_as c.row.number n) i) cs

  -- they come by number
  pub companions_rise : (n : ℕ) → Ascends challenge_layout.key 0 cs → EachOf (IsOwned rows) cs → Ascends (λ x. x.0.row.number) 0 (companions n)
  companions_rise n up owned = elim (one_asked n up owned) [
    | inl none ↦ subst (Ascends (λ x. x.0.row.number) 0) (sym none.1) tt
    | inr one ↦
        subst (Ascends (λ x. x.0.row.number) 0) (sym one.2.all)
        (ascends_map challenge_layout.key (λ x. x.0.row.number) (λ c. (c, one.1)) (λ c. refl) 0 (filter (λ c. c.owner == one.1.number) cs)
        (ascends_filter challenge_layout.key (λ c. c.owner == one.1.number) 0 cs up))
  ]

  -- what is so of each challenge and of each authorization
  pub each_companion : (P : Owned ChallengeRow → Type 0) (Q : AuthorizationRow → Type 0) (n : ℕ) → EachOf P cs → EachOf Q rows
      → EachOf (λ x. (P x.0 × Q x.1) × (x.0.owner ≡ x.1.number)) (companions n)
  each_companion P Q n h k =
      let Is : Pair → Type 0 = λ x. (P x.0 × Q x.1) × (x.0.owner ≡ x.1.number) in
      each_flat Is (of_owner (λ x. x)) (filter (λ b. b.row.number == n) cs)
      (each_all _ (filter (λ b. b.row.number == n) cs) (λ b.
      each_flat Is (of_one (λ x. x)) (filter (λ a. a.number == b.owner) rows)
      (each Q _ (filter (λ a. a.number == b.owner) rows) of_each (each-filter Q (λ a. a.number == b.owner) rows k))))
    where
      of_each : (a : AuthorizationRow) → Q a → EachOf (λ x. (P x.0 × Q x.1) × (x.0.owner ≡ x.1.number)) (of_one (λ x. x) a)
      of_each a q =
          let own = filter (λ (c : Owned ChallengeRow). c.owner == a.number) cs in
          each-map (λ x. (P x.0 × Q x.1) × (x.0.owner ≡ x.1.number)) (λ c. (c, a)) own
          (each _ _ own (λ c both. ((both.0, q), eqb-true c.owner a.number both.1))
          (each_both P _ own (each-filter P (λ c. c.owner == a.number) cs h) (each_passing (λ c. c.owner == a.number) cs)))

-- ---- what the join shows

-- the statement
abbrev pub beside_query : Query
beside_query = picked_from all_rows beside_from beside_tests beside_project by_other

-- a pair beside the number that it is ordered by
abbrev shown : Pair → Output
shown x = (Int (pos x.0.row.number) ∷ [], cells joined_facts x)

-- the rows of a pair, behind that of the challenge that was asked for, and of the key
abbrev filled : Row → Owned ChallengeRow → Pair → Env
filled params b x = params ∷ challenge_image b ∷ authorization_image x.1 ∷ challenge_image x.0 ∷ key_cells (answer_key x.0.row) ∷ []

-- SQL's tests are the model's
passes_as : (n : ℕ) (b : Owned ChallengeRow) (x : Pair) → (b.row.number == bounded n) ≡ (b.row.number == n) → (key : Row)
    → list_all (holds (number n ∷ challenge_image b ∷ authorization_image x.1 ∷ challenge_image x.0 ∷ key ∷ [])) beside_tests
    ≡ ((x.1.number == b.owner) && ((x.0.owner == x.1.number) && (b.row.number == n)))
passes_as n b x same key = search (rules, is_number)

-- the statement shows a pair so
shows : (n : ℕ) (b : Owned ChallengeRow) (x : Pair) → output beside_query (filled (number n) b x) ≡ shown x
shows n b x = grind arith

module _ (db : Trees) (cs : List (Owned ChallengeRow)) (keys : List AnswerKey) (there : HasChallenges db cs keys) (rows : List AuthorizationRow)
    (rows_are : db 5 ≡ map authorization_image rows) (n : ℕ) where
  -- of all challenges those of the authorization
  with_all : (b : Owned ChallengeRow) → (b.row.number == bounded n) ≡ (b.row.number == n) → (a : AuthorizationRow)
      → map (output beside_query) (matches db beside_tests (inner 8 (left 17 (on_key 4 3) end)) (number n ∷ challenge_image b ∷ authorization_image a ∷ []))
      ≡ cond ((a.number == b.owner) && (b.row.number == n)) (of_one cs rows shown a) []
  with_all b same a =
      let env = number n ∷ challenge_image b ∷ authorization_image a ∷ [] in
      let test = λ (c : Owned ChallengeRow). (a.number == b.owner) && ((c.owner == a.number) && (b.row.number == n)) in
      spread beside_query db beside_tests (left 17 (on_key 4 3) end) env challenge_image 8 test (λ c. shown (c, a) ∷ []) cs there.challenges
      (HasOwnKey keys) there.own (λ c own.
      with_key beside_query db keys there.keys_are (number n ∷ challenge_image b ∷ authorization_image a ∷ challenge_image c ∷ []) beside_tests
      (on_key 4 3) c (test c) (shown (c, a)) (λ k. number_test k.challenge c.row.number) (passes_as n b (c, a) same) own (shows n b (c, a)))
      ∙ tests_first (λ c. shown (c, a) ∷ []) (λ c. c.owner == a.number) (a.number == b.owner) (b.row.number == n) cs
      ∙ ap (λ os. cond ((a.number == b.owner) && (b.row.number == n)) os []) (flat_map_single (λ c. shown (c, a)) (filter (λ c. c.owner == a.number) cs))

  -- of all authorizations that of the challenge, where it has the number
  with_owner : (b : Owned ChallengeRow) → (b.row.number == bounded n) ≡ (b.row.number == n)
      → map (output beside_query) (matches db beside_tests (inner 5 (inner 8 (left 17 (on_key 4 3) end))) (number n ∷ challenge_image b ∷ []))
      ≡ cond (b.row.number == n) (of_owner cs rows shown b) []
  with_owner b same =
      spread beside_query db beside_tests (inner 8 (left 17 (on_key 4 3) end)) (number n ∷ challenge_image b ∷ []) authorization_image 5
      (λ a. (a.number == b.owner) && (b.row.number == n)) (of_one cs rows shown) rows rows_are (λ _. Unit {0}) (each_all _ rows (λ _. tt))
      (λ a _. with_all b same a)
      ∙ tests_first (of_one cs rows shown) (λ a. a.number == b.owner) true (b.row.number == n) rows

  -- of all challenges the one of the number
  pub companions_match : map (output beside_query) (matches db beside_tests beside_from (number n ∷ [])) ≡ map shown (companions cs rows n)
  companions_match =
      spread beside_query db beside_tests (inner 5 (inner 8 (left 17 (on_key 4 3) end))) (number n ∷ []) challenge_image 8 (λ b. b.row.number == n)
      (of_owner cs rows shown) cs there.challenges (λ b. (b.row.number == bounded n) ≡ (b.row.number == n))
      (each _ _ cs (λ b k. same_bounded b.row.number n k.number.1) there.stored) with_owner
      ∙ sym (map-companions cs rows n shown)
