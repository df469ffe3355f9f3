-- The challenges of a known authorization, and the keys of their answers, stand in their tables.
use Rattle.std.specs.Prelude.{option_and_then, option_map, IfSome}
use Rattle.std.proofs.Common.{◌≡◌, inl, inr, ℕ, List, [], ◌∷◌, Option, Some, None, refl, subst, ◌∙◌, arith}
use Rattle.sqlite_rules.specs.Lists.{Has}
use Rattle.store_columns.specs.Flat.{answer_key, challenge_rows, key_rows, owned_by}
use Rattle.store_columns.specs.declared.columns.{AnswerKey.AnswerKey, Owned.Owned}
use Rattle.model_laws.proofs.Basics.{each-map, each_all}
use Rattle.model_laws.specs.Distinct.{Distinct}
use Rattle.desk_model.specs.Kept.{EachOf}
use Rattle.desk_model.specs.declared.{objects.Answer.Answer, rows.AuthorizationRow.AuthorizationRow, rows.ChallengeRow.ChallengeRow}
use Rattle.sql_write.specs.{Makes.AreFoundUnder, Makes.challenge_under, Makes.key_under, Stored.stored_challenge}
use Rattle.sql_write.proofs.{Over.has_sorted, StoredRows.found_has, PlacedRows.each_at, PlacedRows.has_flat}
use Rattle.sql_tables.specs.{Layouts.challenge_layout, Layouts.key_layout, Sorted.sorted_by}
use Rattle.sql_tables.proofs.{AnswerKeys.keys_apart, Upsert.has_map}

-- the row of this number stands among these, with these challenges and maybe more
abbrev pub IsThere : List AuthorizationRow → ℕ → AuthorizationRow → Type 0
IsThere rows n a = (b : AuthorizationRow) × Has rows b × (b.number ≡ n) × EachOf (λ c. Has b.challenges c) a.challenges

-- a challenge under its authorization
abbrev under : ℕ → ChallengeRow → Owned ChallengeRow
under n c = record { owner = n; row = c }

-- the key of a challenge's answer is among those of all
key_among : (cs : List (Owned ChallengeRow)) (c : Owned ChallengeRow) (k : AnswerKey) → Has cs c → answer_key c.row ≡ Some k → Has (key_rows cs) k
key_among [] c k h is = absurd h
key_among (d ∷ ds) c k (inl here) is = grind arith
key_among (d ∷ ds) c k (inr there) is = grind (arith, (key_among ds c k there is))

-- a challenge that is known
stored_is : (n : ℕ) (rows : List AuthorizationRow) (stored : Option AuthorizationRow) → IfSome stored (IsThere rows n) → (k : ℕ) (c : ChallengeRow)
    → stored_challenge stored k ≡ Some c → Has (challenge_rows rows) (under n c) × (c.number ≡ k)
stored_is n rows None there k c is = absurd (cc is)
stored_is n rows (Some a) there k c is =
    let found = found_has (λ (r : ChallengeRow). r.number) k a.challenges c is in
    let own = each_at (λ d. Has there.0.challenges d) a.challenges c there.3 found.0 in
    let among = has_flat (λ b. owned_by b.number b.challenges) rows there.0 (under there.0.number c) there.1 (has_map (under there.0.number) _ c own) in
    (subst (λ m. Has (challenge_rows rows) (under m c)) there.2 among, found.1)

-- what is known of the challenges stands in their table
pub challenges_stand : (stored : Option AuthorizationRow) (n : ℕ) (cs : List ChallengeRow) (rows : List AuthorizationRow)
    → Distinct challenge_layout.key (challenge_rows rows) → IfSome stored (IsThere rows n)
    → AreFoundUnder challenge_layout (challenge_under stored) (sorted_by challenge_layout.key (challenge_rows rows)) (owned_by n cs)
challenges_stand stored n cs rows apart there = each-map _ (under n) cs (each_all _ cs one)
  where
    sorted : List (Owned ChallengeRow)
    sorted = sorted_by challenge_layout.key (challenge_rows rows)

    one : (c : ChallengeRow) → IfSome (challenge_under stored (under n c)) (λ y. Has sorted y × (challenge_layout.key y ≡ challenge_layout.key (under n c)))
    one c = grind (arith, stored_is, has_sorted)

-- and what is known of the keys of their answers
pub keys_stand : (stored : Option AuthorizationRow) (n : ℕ) (cs : List ChallengeRow) (rows : List AuthorizationRow)
    → Distinct challenge_layout.key (challenge_rows rows) → IfSome stored (IsThere rows n)
    → AreFoundUnder key_layout (key_under stored) (sorted_by key_layout.key (key_rows (challenge_rows rows))) (key_rows (owned_by n cs))
keys_stand stored n cs rows apart there = each_all _ (key_rows (owned_by n cs)) one
  where
    keys : List AnswerKey
    keys = key_rows (challenge_rows rows)

    one : (k : AnswerKey) → IfSome (key_under stored k) (λ y. Has (sorted_by key_layout.key keys) y × (key_layout.key y ≡ key_layout.key k))
    one k = go (stored_challenge stored k.challenge) refl
      where
        go : (o : Option ChallengeRow) → stored_challenge stored k.challenge ≡ o
            → IfSome (option_and_then answer_key o) (λ y. Has (sorted_by key_layout.key keys) y × (key_layout.key y ≡ key_layout.key k))
        go None is = tt
        go (Some d) is = by (answer_key d) refl (number_of d.answered)
          where
            number_of : (a : Option Answer) → IfSome (option_map (λ (w : Answer). record { challenge = d.number; thumb = w.thumb }) a)
                (λ (y : AnswerKey). y.challenge ≡ d.number)
            number_of None = tt
            number_of (Some w) = refl

            by : (o : Option AnswerKey) → answer_key d ≡ o → IfSome o (λ (y : AnswerKey). y.challenge ≡ d.number)
                → IfSome o (λ y. Has (sorted_by key_layout.key keys) y × (key_layout.key y ≡ key_layout.key k))
            by None e same = tt
            by (Some y) e same =
                let it = stored_is n rows stored there k.challenge d is in (
                  has_sorted key_layout.key keys y (keys_apart (challenge_rows rows) apart) (key_among (challenge_rows rows) (under n d) y it.0 e),
                  same ∙ it.1,
                )
