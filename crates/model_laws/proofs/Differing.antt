-- A row that does not differ afterwards is the row itself, and one that differs is another.
use Rattle.std.proofs.Common.{◌≡◌, ℕ, List, [], ◌∷◌, map, refl, ap, ◌∙◌, false, not, arith}
use Rattle.std.proofs.{lemmas.Bool.eq-eqb, lemmas.Bool.or_parts, lemmas.Slice.Eq.bytes_eq-Decides, lemmas.Slice.Eq.slice_eq-Decides}
use Rattle.std.specs.{Prelude.◌==◌, Prelude.◌||◌, List.list_any, List.zip}
use Rattle.desk_model.specs.Derived.{chall_code, authz_code, order_code, restated_authorization, restated_order}
use Rattle.desk_model.specs.Effect.{key_numbered, noted_account, noted_challenge, noted_authorization, noted_order}
use Rattle.desk_model.specs.Change.{is_gained, account_differs, challenge_differs, authorization_differs, order_differs}
use Rattle.desk_model.specs.{Kept.EachOf, declared.entry.Entry.Entry, declared.rows.AccountRow.AccountRow, declared.status.AuthzStatus.AuthzStatus}
use Rattle.desk_model.specs.{declared.rows.ChallengeRow.ChallengeRow, declared.rows.AuthorizationRow.AuthorizationRow, declared.rows.OrderRow.OrderRow}
use Rattle.model_laws.proofs.{OrderDates.order_dates_kept, OrderDates.order_status_differs, RowFacts.kept_challenges, StatedFacts.earlier_stays}
use Rattle.model_laws.proofs.{StatedFacts.none_gained}

-- ---- statuses by their codes

-- equal codes of authorizations are of equal statuses
same_status : (a b : AuthzStatus) → not (authz_code a == authz_code b) ≡ false → b ≡ a
same_status a b h = grind arith

-- a value's code is its own
own_code : (n : ℕ) → not (n == n) ≡ false
own_code n = ap not (eq-eqb n n refl)

-- ---- accounts

-- an account's row that does not differ is the same
pub account_unmoved : (e : Entry) (m : ℕ) (row : AccountRow) → account_differs row (noted_account e m row) ≡ false → noted_account e m row ≡ row
account_unmoved e m row h = grind (arith, bytes_eq-Decides, slice_eq-Decides, earlier_stays)

-- no account's row differs from itself
pub account_differs_not : (row : AccountRow) → account_differs row row ≡ false
account_differs_not row = grind (arith, slice_eq-Decides)

-- ---- challenges

-- a challenge's row that does not differ is the same
pub challenge_unmoved : (e : Entry) (m : ℕ) (key : List ℕ) (row : ChallengeRow) → challenge_differs row (noted_challenge e m key row) ≡ false →
    noted_challenge e m key row ≡ row
challenge_unmoved e m key row h = grind arith

-- no challenge's row differs from itself
challenge_differs_not : (row : ChallengeRow) → challenge_differs row row ≡ false
challenge_differs_not row = λ i. none_gained row.answered i || (none_gained row.reported i || own_code (chall_code row.status) i)

-- ---- authorizations

-- challenges that do not differ are the same
challenges_unmoved : (e : Entry) (m : ℕ) (key : List ℕ) (cs : List ChallengeRow) →
    list_any (λ p. challenge_differs p.0 p.1) (zip cs (map (noted_challenge e m key) cs)) ≡ false →
    EachOf (λ c. noted_challenge e m key c ≡ c) cs
challenges_unmoved e m key [] h = tt
challenges_unmoved e m key (c ∷ cs) h =
    let p = or_parts (challenge_differs c (noted_challenge e m key c)) _ h in
    (challenge_unmoved e m key c p.0, challenges_unmoved e m key cs p.1)

-- an authorization's row that does not differ is the same
pub authorization_unmoved : (e : Entry) (m : ℕ) (accounts : List AccountRow) (row : AuthorizationRow) →
    authorization_differs row (restated_authorization m (noted_authorization e m accounts row)) ≡ false →
    restated_authorization m (noted_authorization e m accounts row) ≡ row
authorization_unmoved e m accounts row h =
    let key : List ℕ = key_numbered row.account accounts in
    let after : AuthorizationRow = restated_authorization m (noted_authorization e m accounts row) in
    let p = or_parts (is_gained row.ended after.ended) _ h in
    let q = or_parts (not (authz_code row.status == authz_code after.status)) _ p.1 in
    let ended : after.ended ≡ row.ended = earlier_stays row.ended _ p.0 in
    let status : after.status ≡ row.status = same_status row.status after.status q.0 in
    let challenges : after.challenges ≡ row.challenges =
    kept_challenges (noted_challenge e m key) row.challenges (challenges_unmoved e m key row.challenges q.1) in
    λ i. record row { ended = ended i; status = status i; challenges = challenges i }

-- no challenge of an authorization differs from itself
none_differs : (cs : List ChallengeRow) → list_any (λ p. challenge_differs p.0 p.1) (zip cs cs) ≡ false
none_differs [] = refl
none_differs (c ∷ cs) = λ i. challenge_differs_not c i || none_differs cs i

-- no authorization's row differs from itself
pub authorization_differs_not : (row : AuthorizationRow) → authorization_differs row row ≡ false
authorization_differs_not row = λ i. none_gained row.ended i || (own_code (authz_code row.status) i || none_differs row.challenges i)

-- ---- orders

-- an order's row that does not differ is the same
pub order_unmoved : (e : Entry) (m : ℕ) (rows : List AuthorizationRow) (row : OrderRow) →
    order_differs row (restated_order m rows (noted_order e m row)) ≡ false → restated_order m rows (noted_order e m row) ≡ row
order_unmoved e m rows row h = grind (arith, order_dates_kept)

-- no order's row differs from itself
pub order_differs_not : (row : OrderRow) → order_differs row row ≡ false
order_differs_not row = order_status_differs row row.status ∙ own_code (order_code row.status)
