-- The children of a row that is new stand nowhere yet: later changes keep all children, and after the last one no two are the
-- same.
use Rattle.std.proofs.Common.{◌≡◌, ◌≢◌, ◌≤◌, ◌⊎◌, inl, inr, ℕ, List, [], ◌∷◌, ◌++◌, map, Option, Some, None, refl, sym, ap, subst, ◌∙◌, true, false, Bool, cond}
use Rattle.std.proofs.Common.{arith}
use Rattle.std.proofs.{lemmas.Bool.ne_eqb, lemmas.List.append_assoc, lemmas.List.map-append}
use Rattle.std.specs.{Prelude.IfSome, Prelude.find, Prelude.nat_lt, Prelude.◌==◌, Prelude.◌||◌, List.flat_map, List.list_any}
use Rattle.desk_model.specs.Change.{put, applied, applied_one, recorded_changes}
use Rattle.desk_model.specs.{Entry.History, Legal.EachFollows, Effect.has_row, Kept.EachOf, Questions.authorization_on, History.clock, History.record_all}
use Rattle.desk_model.specs.{Tables.Tables, Tables.tables_at, Tables.picture, declared.entry.Entry.Entry, declared.rows.AuthorizationRow.AuthorizationRow}
use Rattle.desk_model.specs.{declared.rows.Change.Change, declared.rows.ChallengeRow.ChallengeRow, declared.rows.Change.TheVariants.PutAuthorization}
use Rattle.model_laws.specs.{Distinct.Distinct, News.AreKept, News.AreNewChildren, News.BringsNewChildren, News.KeepsChildren}
use Rattle.model_laws.proofs.{Basics.each, Basics.each_of_map, Basics.each_parts, Basics.eq_turn, Distinctness.ascends_distinct, Distinctness.between}
use Rattle.model_laws.proofs.{Distinctness.distinct-map, Distinctness.map-distinct, KeptInOrder.records_keep, Recorded.challenges_ordered, Recorded.recorded}

-- ---- one table

-- the children of a row that is put lie between others: all those of before, or with them the same ones, where a row was found
record LiesBetween {X : Type 0} (found : Option X) (children old new : List ℕ) : Type 0 where
  before : List ℕ
  behind : List ℕ
  put_there : new ≡ before ++ (children ++ behind)
  others : (old ≡ before ++ behind) ⊎ ((found ≢ None) × (old ≡ before ++ (children ++ behind)))

module _ {X : Type 0} (number : X → ℕ) (children : X → List ℕ) where
  -- where the children are of a row that keeps those of the row in its place
  put_between : (x : X) (rows : List X) → IfSome (find (λ y. number y == number x) rows) (λ y. children y ≡ children x) →
      LiesBetween (find (λ y. number y == number x) rows) (children x) (flat_map children rows) (flat_map children (put number x rows))
  put_between x [] kept = record { before = []; behind = []; put_there = refl; others = inl refl }
  put_between x (y ∷ ys) kept =
      by (number x == number y) (number y == number x) (nat_lt (number x) (number y)) (eq_turn (number x) (number y)) kept (put_between x ys)
    where
      more : (xs zs : List ℕ) {l : List ℕ} → l ≡ xs ++ zs → children y ++ l ≡ (children y ++ xs) ++ zs
      more xs zs e = ap (λ l. children y ++ l) e ∙ sym (append_assoc (children y) xs zs)

      further : {found : Option X} {old new : List ℕ} → LiesBetween found (children x) old new →
          LiesBetween found (children x) (children y ++ old) (children y ++ new)
      further p =
          record {
            before = children y ++ p.before;
            behind = p.behind;
            put_there = more p.before (children x ++ p.behind) p.put_there;
            others = elim p.others [
              | inl e ↦ inl (more p.before p.behind e)
              | inr q ↦ inr (q.0, more p.before (children x ++ p.behind) q.1)
            ];
          }

      by : (same other less : Bool) → same ≡ other →
          IfSome (cond other (Some y) (find (λ z. number z == number x) ys)) (λ z. children z ≡ children x) →
          (IfSome (find (λ z. number z == number x) ys) (λ z. children z ≡ children x) →
          LiesBetween (find (λ z. number z == number x) ys) (children x) (flat_map children ys) (flat_map children (put number x ys))) →
          LiesBetween (cond other (Some y) (find (λ z. number z == number x) ys)) (children x) (flat_map children (y ∷ ys))
          (flat_map children (cond same (x ∷ ys) (cond less (x ∷ y ∷ ys) (y ∷ put number x ys))))
      by true true less e k ih =
          record { before = []; behind = flat_map children ys; put_there = refl; others = inr ((λ none. cc), ap (λ l. l ++ flat_map children ys) k) }
      by true false less e k ih = cc
      by false true less e k ih = cc
      by false false true e k ih = record { before = []; behind = flat_map children (y ∷ ys); put_there = refl; others = inl refl }
      by false false false e k ih = further (ih k)

  -- children that differ after a put differed before it, those of the row do, and where it is new they are no other row's
  put_apart : (x : X) (rows : List X) → IfSome (find (λ y. number y == number x) rows) (λ y. children y ≡ children x) →
      Distinct (λ n. n) (flat_map children (put number x rows)) →
      Distinct (λ n. n) (flat_map children rows) × Distinct (λ n. n) (children x)
      × (find (λ y. number y == number x) rows ≡ None → EachOf (λ n. EachOf (λ k. n ≢ k) (flat_map children rows)) (children x))
  put_apart x rows kept h =
      let p = put_between x rows kept in
      let now : Distinct (λ n. n) (p.before ++ (children x ++ p.behind)) = subst (Distinct (λ n. n)) p.put_there h in
      let parts = between (λ n. n) p.before (children x) p.behind now in
      elim p.others [
        | inl e ↦ (
          subst (Distinct (λ n. n)) (sym e) parts.0,
          parts.1,
          λ none. subst (λ l. EachOf (λ n. EachOf (λ k. n ≢ k) l) (children x)) (sym e) parts.2,
        )
        | inr q ↦ (subst (Distinct (λ n. n)) (sym q.1) now, parts.1, λ none. absurd (q.0 none))
      ]

-- ---- challenges

-- the numbers of the challenges of an authorization
abbrev challenges_in : AuthorizationRow → List ℕ
challenges_in a = map (λ c. c.number) a.challenges

-- no two challenges have the same number, through all authorizations
abbrev pub ChallengesDiffer : Tables → Type 0
ChallengesDiffer T = Distinct (λ n. n) (flat_map challenges_in T.authorizations)

-- a number that differs from those of the challenges is none of theirs
not_in : (n : ℕ) (cs : List ChallengeRow) → EachOf (λ k. n ≢ k) (map (λ c. c.number) cs) → list_any (λ c. n == c.number) cs ≡ false
not_in n [] h = refl
not_in n (c ∷ cs) h = λ i. ne_eqb n c.number h.0 i || not_in n cs h.1 i

-- nor has it an owner
no_owner : (n : ℕ) (rows : List AuthorizationRow) → EachOf (λ k. n ≢ k) (flat_map challenges_in rows) → find (has_row n) rows ≡ None
no_owner n [] h = refl
no_owner n (a ∷ rows) h =
    let parts = each_parts (λ k. n ≢ k) (challenges_in a) (flat_map challenges_in rows) h in
    (λ i. cond (not_in n a.challenges parts.0 i) (Some a) (find (has_row n) rows)) ∙ no_owner n rows parts.1

-- the numbers, listed through all authorizations
numbers_flat : (rows : List AuthorizationRow) → map (λ c. c.number) (flat_map (λ (a : AuthorizationRow). a.challenges) rows) ≡ flat_map challenges_in rows
numbers_flat [] = refl
numbers_flat (a ∷ rows) = grind (arith, map-append, (numbers_flat rows))

-- in the tables of a history no two challenges have the same number
pub challenges_differ : (F : History) (t : ℕ) → ChallengesDiffer (tables_at F t)
challenges_differ F t = grind (arith, distinct-map, ascends_distinct, (numbers_flat (tables_at F t).authorizations), (challenges_ordered F t))

-- ---- changes

-- an authorization that keeps its challenges keeps their numbers
pub numbers_kept : (T : Tables) (x : AuthorizationRow) → KeepsChildren T (PutAuthorization x)
    → IfSome (find (λ a. a.number == x.number) T.authorizations) (λ a. challenges_in a ≡ challenges_in x)
numbers_kept T x kept = grind arith

-- a change that keeps children and leaves challenges differing found them so, and brings new children
one_brings : (T : Tables) (c : Change) → KeepsChildren T c → ChallengesDiffer (applied_one c T) → ChallengesDiffer T × BringsNewChildren T c
one_brings T (PutAuthorization x) kept h =
    let parts = put_apart (λ a. a.number) challenges_in x T.authorizations (numbers_kept T x kept) h in
    let new = λ (none : authorization_on T x.number ≡ None).
    each _ _ x.challenges (λ c. no_owner c.number T.authorizations)
    (each_of_map (λ n. EachOf (λ k. n ≢ k) (flat_map challenges_in T.authorizations)) (λ c. c.number) x.challenges (parts.2 none)) in
    (parts.0, (map-distinct (λ c. c.number) x.challenges parts.1, new))
one_brings T _ kept h = (h, tt)

-- and so do changes, one after the other
pub kept_bring_new : (cs : List Change) (T : Tables) → AreKept T cs → ChallengesDiffer (applied cs T) → ChallengesDiffer T × AreNewChildren T cs
kept_bring_new [] T kept h = (h, tt)
kept_bring_new (c ∷ cs) T kept h =
    let later = kept_bring_new cs (applied_one c T) kept.1 h in
    let here = one_brings T c kept.0 later.0 in
    (here.0, (here.1, later.1))

-- what a call records brings with each new row children that stand nowhere yet
pub records_bring_new_children : (F : History) (e : Entry) (es : List Entry) (m : ℕ) → clock F ≤ m → EachFollows (record_all m (e ∷ es) F) →
    AreNewChildren (picture F) (recorded_changes m (picture F) (e ∷ es))
records_bring_new_children F e es m le h = grind (arith, kept_bring_new, records_keep, recorded, challenges_differ)
