-- An entry that may follow leaves a row that has ended as it is.
use Rattle.std.proofs.Common.{◌≡◌, ℕ, List, Some, refl, sym, ap, ◌∙◌, Bool, true, false, cond, arith}
use Rattle.std.proofs.lemmas.Bool.{and_parts}
use Rattle.std.specs.{Prelude.find, Prelude.◌&&◌, Prelude.◌||◌, Prelude.◌==◌, List.flat_map}
use Rattle.desk_model.specs.Effect.{has_row, moved_account, moved_authorization, noted_authorization, noted_challenge}
use Rattle.desk_model.specs.{Lookup.holds, Account.is_valid as is_valid_account, Tables.Tables, Kept.EachOf, Authorization.is_over, Authorization.is_pending}
use Rattle.desk_model.specs.{Authorization.is_valid, Legal.is_pending_challenge, Legal.is_processing_challenge, Allowed.challenge_passes, Allowed.may_on}
use Rattle.desk_model.specs.{Questions.account_on, Questions.authorization_on, Questions.owner_on, Questions.challenge_of, Derived.derived_authorization}
use Rattle.desk_model.specs.{Derived.derived_order, Derived.restated_authorization, Life.is_final_account, Life.is_final_challenge}
use Rattle.desk_model.specs.declared.{entry.Entry.Entry, rows.AccountRow.AccountRow, rows.ChallengeRow.ChallengeRow, rows.AuthorizationRow.AuthorizationRow}
use Rattle.desk_model.specs.declared.{status.AccountStatus.AccountStatus, status.AuthzStatus.AuthzStatus, status.ChallengeStatus.ChallengeStatus}
use Rattle.desk_model.specs.declared.{entry.Entry.TheVariants.AccountEnded as account_ended, entry.Entry.TheVariants.Answered as answered}
use Rattle.desk_model.specs.declared.{entry.Entry.TheVariants.Reported as reported, entry.Entry.TheVariants.AuthorizationEnded as authorization_ended}
use Rattle.model_laws.specs.Ordered.{Ascends}
use Rattle.model_laws.proofs.{Basics.each_all, RowFacts.kept_challenges, Finds.each_found, Finds.found_passes}
use Rattle.model_lives.proofs.Owners.{owner_found}

-- each stored status is the one that its row's columns give at m, and challenges stand by number
pub record IsStated (m : ℕ) (T : Tables) : Type 0 where
  pub authorizations : EachOf (λ a. a.status ≡ derived_authorization m a) T.authorizations
  pub orders : EachOf (λ o. o.status ≡ derived_order m T.authorizations o) T.orders
  pub challenges : Ascends (λ c. c.number) 1 (flat_map (λ (a : AuthorizationRow). a.challenges) T.authorizations)

-- a test that never passes
pub never : (b : Bool) → (b ≡ true → ⊥) → b ≡ false
never b h = grind arith

-- what passes a test that a row of this number has failed is another row
pub shut : {X : Type 0} (number : X → ℕ) (test final : X → Bool) → ((x : X) → test x ≡ true → final x ≡ true → ⊥) → (rows : List X) (k n : ℕ) (row : X) →
    find (λ x. number x == n) rows ≡ Some row → final row ≡ true → holds test (find (λ x. number x == k) rows) ≡ true →
    (k == number row) ≡ false
shut number test final differ rows k n row found ended may = grind (arith, found_passes)

-- ---- accounts

-- an account that is valid has not ended
valid_lasts : (s : AccountStatus) → is_valid_account s ≡ true → is_final_account s ≡ true → ⊥
valid_lasts s h k = grind arith

-- what names a valid account leaves one that has ended
account_shut : (T : Tables) (k n : ℕ) (row changed : AccountRow) → account_on T n ≡ Some row → is_final_account row.status ≡ true →
    holds (λ a. is_valid_account a.status) (account_on T k) ≡ true → cond (k == row.number) changed row ≡ row
account_shut T k n row changed found ended may =
    ap (λ b. cond b changed row)
    (shut (λ (a : AccountRow). a.number) (λ a. is_valid_account a.status) (λ a. is_final_account a.status) (λ a. valid_lasts a.status)
    T.accounts k n row found ended may)

-- an account that has ended keeps its row
pub account_stays : (T : Tables) (e : Entry) (m n : ℕ) (row : AccountRow) → may_on T e ≡ true → account_on T n ≡ Some row →
    is_final_account row.status ≡ true →
    moved_account e m row ≡ row
account_stays T e m n row h k l = grind (arith, account_shut)

-- ---- authorizations

-- one that is pending or valid is not over
live_lasts : (s : AuthzStatus) → (is_pending s || is_valid s) ≡ true → is_over s ≡ true → ⊥
live_lasts s h k = grind arith

-- one that is pending is not over
pending_lasts : (s : AuthzStatus) → is_pending s ≡ true → is_over s ≡ true → ⊥
pending_lasts s p o = grind arith

-- a challenge that may change stands in an authorization that is not over
unpassed : (T : Tables) (test : ChallengeStatus → Bool) (k n : ℕ) (row changed : AuthorizationRow) (m : ℕ) → IsStated m T → authorization_on T n ≡ Some row →
    is_over row.status ≡ true → challenge_passes test T k ≡ true → cond (has_row k row) changed row ≡ row
unpassed T test k n row changed m stated found ended may =
    ap (λ b. cond b changed row) (never (has_row k row) (λ named.
    let owner : owner_on T k ≡ Some row = owner_found (λ a. a.number == n) k 1 T.authorizations row stated.challenges found named in
    let passes : (is_pending row.status && holds (λ c. test c.status) (challenge_of k row)) ≡ true =
    sym (ap (holds (λ a. is_pending a.status && holds (λ c. test c.status) (challenge_of k a))) owner) ∙ may in
    pending_lasts row.status (and_parts _ _ passes).0 ended))

-- an authorization that is over keeps its row
pub authorization_stays : (T : Tables) (e : Entry) (m n : ℕ) (row : AuthorizationRow) → IsStated m T → may_on T e ≡ true → authorization_on T n ≡ Some row →
    is_over row.status ≡ true →
    moved_authorization e m T.accounts row ≡ row
authorization_stays T (answered k) m n row stated may found ended = unpassed T is_pending_challenge k n row _ m stated found ended may
authorization_stays T (reported k o) m n row stated may found ended = unpassed T is_processing_challenge k n row _ m stated found ended may
authorization_stays T (authorization_ended k s) m n row stated may found ended =
    ap (λ b. cond b (restated_authorization m (noted_authorization (authorization_ended k s) m T.accounts row)) row)
    (shut (λ (a : AuthorizationRow). a.number) (λ a. is_pending a.status || is_valid a.status) (λ a. is_over a.status) (λ a. live_lasts a.status)
    T.authorizations k n row found ended may)
authorization_stays T (account_ended k s) m n row stated may found ended = grind (arith, each_found, kept_challenges, each_all)
authorization_stays T _ m n row stated may found ended = refl

-- ---- challenges

-- an entry that may change a challenge leaves one that has ended
challenge_shut : (T : Tables) (test : ChallengeStatus → Bool) → ((s : ChallengeStatus) → test s ≡ true → is_final_challenge s ≡ true → ⊥) → (k n : ℕ)
    (a : AuthorizationRow) (c changed : ChallengeRow) → owner_on T n ≡ Some a → challenge_of n a ≡ Some c → is_final_challenge c.status ≡ true →
    challenge_passes test T k ≡ true → cond (k == c.number) changed c ≡ c
challenge_shut T test differ k n a c changed owner found ended may = grind (arith, found_passes)

-- a challenge that has ended keeps its row
pub challenge_stays : (T : Tables) (e : Entry) (m n : ℕ) (key : List ℕ) (a : AuthorizationRow) (c : ChallengeRow) → may_on T e ≡ true → owner_on T n ≡ Some a →
    challenge_of n a ≡ Some c → is_final_challenge c.status ≡ true →
    noted_challenge e m key c ≡ c
challenge_stays T e m n key a c h k l g = grind (arith, challenge_shut)
