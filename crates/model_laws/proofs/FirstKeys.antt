-- Where no account got another key, each answer was under the key that its account has now.
use Rattle.std.proofs.Common.{◌≡◌, ℕ, List, [], ◌∷◌, ◌++◌, map, Option, None, sym, ap, subst, Bool, arith}
use Rattle.std.specs.Prelude.{IfSome, IsSome, find}
use Rattle.desk_model.specs.{Authorization.answer, Authorization.challenges_from, declared.objects.Challenge.Challenge, declared.rows.ChallengeRow.ChallengeRow}
use Rattle.desk_model.specs.{Authorization.authorizations, Authorization.kinds_of, Effect.fresh_challenge, Tables.authorization_row, declared.entry.Dated.Dated}
use Rattle.desk_model.specs.{Account.account_key, Entry.History, Keys.thumbprint, Kept.EachOf, Legal.EachFollows, Tables.challenge_row, Tables.tables_at}
use Rattle.desk_model.specs.{declared.objects.Answer.Answer, declared.objects.Authorization.Authorization, declared.entry.Entry.TheVariants.Ordered as ordered}
use Rattle.model_laws.specs.FirstLaws.{AreUnderKeysNow, IsNoKeyChange, IsUnder, KeepsKeys}
use Rattle.model_laws.proofs.{Basics.each, Basics.each-map, Fresh.challenges_fresh, RowFacts.key_row, References.stays, References.HasAccount}
use Rattle.model_laws.proofs.{References.orders_for, Numbers.challenges_numbered, NewOrders.each_authorization}

-- ---- the key of an account stays

-- what is found in a list is what is found in a longer one
found_first : {X : Type 0} (p : X → Bool) (xs ys : List X) → IsSome (find p xs) → find p (xs ++ ys) ≡ find p xs
found_first p [] ys h = cc
found_first p (x ∷ xs) ys h = grind (arith, (found_first p xs ys))

-- ---- answers

-- an answer is under this key
abbrev IsUnderKey : List ℕ → Option Answer → Type 0
IsUnderKey key o = IfSome o (λ a. a.thumb ≡ thumbprint key)

-- each answer to a challenge of the authorization is under the key of its account
abbrev AreUnder : History → Authorization → Type 0
AreUnder F a = EachOf (λ c. IsUnderKey (account_key a.account F) (answer a.account c.number F)) a.challenges

-- they stay so
under_still : (e : Dated) (F : History) (a : Authorization) → IsNoKeyChange e.entry → HasAccount F a.account → AreUnder F a → AreUnder (e ∷ F) a
under_still e F a none has under = grind (arith, found_first, each)

-- a new challenge has no answer
new_unanswered : (F : History) (account n : ℕ) (cs : List Challenge) → EachOf (λ c. challenge_row F account c ≡ fresh_challenge c) cs
    → EachOf (λ c. answer account c.number F ≡ None) cs
new_unanswered F account n cs fresh = each _ _ cs (λ c same. ap (λ (r : ChallengeRow). r.answered) same) fresh

-- in each history in which no account got another key
pub all_under : (F : History) → EachFollows F → KeepsKeys F → EachOf (AreUnder F) (authorizations F)
all_under F h keeps =
    each _ _ (authorizations F) (λ a p. (p keeps).1)
    (each_authorization (λ G a. KeepsKeys G → HasAccount G a.account × AreUnder G a)
    (λ e G a p all. let before = p all.1 in (stays e G a.account before.0, under_still e G a all.0 before.0 before.1))
    (λ G account m ws h name tokens n c few is all. (
      orders_for G account m ws h.0.allowed,
      each _ _ (challenges_from c (kinds_of name) tokens)
          (λ x none. subst (IsUnderKey (account_key account (record { date = m; entry = ordered account ws } ∷ G))) (sym none) tt)
          (new_unanswered G account c _ (challenges_fresh G account c _ h.1 few (challenges_numbered c (kinds_of name) tokens))),
    )) F h)

-- and in its tables
pub rows_under : (F : History) → EachFollows F → KeepsKeys F → (t : ℕ) → AreUnderKeysNow (tables_at F t)
rows_under F h keeps t =
    each-map _ (authorization_row F t) (authorizations F)
    (each _ _ (authorizations F)
    (λ a under. subst (λ key. EachOf (IsUnder key) (map (challenge_row F a.account) a.challenges)) (sym (key_row a.account F))
    (each-map (IsUnder (account_key a.account F)) (challenge_row F a.account) a.challenges under))
    (all_under F h keeps))
