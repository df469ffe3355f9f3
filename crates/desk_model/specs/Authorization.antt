-- Authorizations and their challenges (RFC 8555, 7.1.4, 7.1.5, 7.1.6, 7.5).
use Rattle.std.specs.Prelude.{ℕ, ◌+◌, List, [], ◌∷◌, ◌++◌, length, Bool, false, true, not, ◌||◌, ◌==◌, nat_lt, nat_le, Option, Some, None, find, if◌then◌else◌}
use Rattle.std.specs.Prelude.{is_some}
use Rattle.std.specs.List.{list_any}
use Rattle.desk_model.specs.Entry.{Entry, ordered, answered, reported, authorization_ended, account_ended, Wanted, new, reused, Ending, deactivated, revoked}
use Rattle.desk_model.specs.Entry.{Outcome, good, History}
use Rattle.desk_model.specs.{Name.Name, Account.account_key, Keys.thumbprint, History.first, History.earlier, History.terms}
use Rattle.desk_model.specs.{declared.status.AuthzStatus.AuthzStatus, declared.status.ChallengeStatus.ChallengeStatus}
use Rattle.desk_model.specs.declared.status.EndKind.TheVariants as kind
use Rattle.desk_model.specs.declared.status.AuthzStatus.TheVariants as authz
use Rattle.desk_model.specs.declared.status.ChallengeStatus.TheVariants as chall
pub use Rattle.desk_model.specs.declared.status.Kind.{Kind}
pub use Rattle.desk_model.specs.declared.status.Kind.TheVariants.{Http01 as http_01, Dns01 as dns_01}
pub use Rattle.desk_model.specs.declared.objects.Challenge.{Challenge}
pub use Rattle.desk_model.specs.declared.objects.Authorization.{Authorization}
pub use Rattle.desk_model.specs.declared.objects.Answer.{Answer}
pub use Rattle.desk_model.specs.declared.objects.Report.{Report}
pub use Rattle.desk_model.specs.declared.objects.AuthorizationEnd.{AuthorizationEnd}
pub use Rattle.desk_model.specs.declared.status.EndKind.{EndKind}

-- the challenges that a name gets
abbrev pub kinds_of : Name → List Kind
kinds_of name = if name.wildcard then dns_01 ∷ [] else http_01 ∷ dns_01 ∷ []

-- challenges of these kinds with these tokens, numbered from here
abbrev pub challenges_from : ℕ → List Kind → List (List ℕ) → List Challenge
challenges_from number [] tokens = []
challenges_from number (kind ∷ kinds) [] = []
challenges_from number (kind ∷ kinds) (token ∷ tokens) =
    (record { number = number; kind = kind; token = token }) ∷ challenges_from (number + 1) kinds tokens

-- how many challenges these authorizations have
abbrev pub count_challenges : List Authorization → ℕ
count_challenges [] = 0
count_challenges (a ∷ rest) = length a.challenges + count_challenges rest

-- an authorization for each name that gets a new one, and their challenges, numbered from here
abbrev pub made_for : (account date expires : ℕ) → List Wanted → (number first_challenge : ℕ) → List Authorization
made_for account date expires [] n c = []
made_for account date expires (new name tokens ∷ rest) n c =
    (record { number = n; account = account; name = name; made = date; expires = expires; challenges = challenges_from c (kinds_of name) tokens })
    ∷ made_for account date expires rest (n + 1) (c + length (challenges_from c (kinds_of name) tokens))
made_for account date expires (reused name k ∷ rest) n c = made_for account date expires rest n c

-- the authorizations that the entry makes
abbrev pub made_by : Entry → (date life : ℕ) → (number first_challenge : ℕ) → List Authorization
made_by (ordered account wanted) date life n c = made_for account date (date + life) wanted n c
made_by _ date life n c = []

-- the authorizations that were made, by number
abbrev pub authorizations : History → List Authorization
authorizations [] = []
authorizations (e ∷ before) =
    authorizations before
    ++ made_by e.entry e.date (terms before).authz_life (length (authorizations before) + 1) (count_challenges (authorizations before) + 1)

abbrev pub authorization : ℕ → History → Option Authorization
authorization number F = find (λ a. a.number == number) (authorizations F)

abbrev pub has_challenge : ℕ → Authorization → Bool
has_challenge number a = list_any (λ c. number == c.number) a.challenges

-- the authorization that a challenge is of
abbrev pub authorization_of : ℕ → History → Option Authorization
authorization_of challenge F = find (has_challenge challenge) (authorizations F)

abbrev pub challenge : ℕ → Authorization → Option Challenge
challenge number a = find (λ c. c.number == number) a.challenges

-- ---- challenges

abbrev pub answering : ℕ → Entry → ℕ → Option ℕ
answering number (answered challenge) date = if challenge == number then Some date else None
answering number _ date = None

abbrev pub reporting : ℕ → Entry → ℕ → Option Report
reporting number (reported challenge outcome) date = if challenge == number then Some (record { date = date; outcome = outcome }) else None
reporting number _ date = None

abbrev pub when_answered : ℕ → History → Option ℕ
when_answered number F = first (λ e. answering number e.entry e.date) F

-- an answer at this date under the key, if there is one
abbrev pub answer_by : List ℕ → Option ℕ → Option Answer
answer_by key None = None
answer_by key (Some date) = Some (record { date = date; thumb = thumbprint key })

-- when a challenge of this account was answered, and the thumbprint of the key that the account had then (8.1)
abbrev pub answer : (account number : ℕ) → History → Option Answer
answer account number [] = None
answer account number (e ∷ before) =
    earlier (answer account number before) (answer_by (account_key account before) (answering number e.entry e.date))

abbrev pub report : ℕ → History → Option Report
report number F = first (λ e. reporting number e.entry e.date) F

abbrev pub is_good : Outcome → Bool
is_good good = true
is_good _ = false

abbrev pub challenge_status_by : Option Report → (was_answered : Bool) → ChallengeStatus
challenge_status_by (Some r) a = if is_good r.outcome then chall.Valid else chall.Invalid
challenge_status_by None true = chall.Processing
challenge_status_by None false = chall.Pending

abbrev pub challenge_status : ℕ → History → ChallengeStatus
challenge_status number F = challenge_status_by (report number F) (is_some (when_answered number F))

-- ---- authorizations

-- the kind of an end by its client, its account or the operator
abbrev pub kind_of : Ending → EndKind
kind_of deactivated = kind.Deactivated
kind_of revoked = kind.Revoked

-- the status that an end gives
abbrev pub status_of : EndKind → AuthzStatus
status_of kind.Invalid = authz.Invalid
status_of kind.Deactivated = authz.Deactivated
status_of kind.Revoked = authz.Revoked

-- how the entry ends an authorization of this number and account, if it does; the test says which challenges it has
abbrev pub ends_by : ℕ → ℕ → (ℕ → Bool) → Entry → ℕ → Option AuthorizationEnd
ends_by number account has (reported n outcome) date =
    if is_good outcome then None else (if has n then Some (record { date = date; kind = kind.Invalid }) else None)
ends_by number account has (authorization_ended n ending) date = if n == number then Some (record { date = date; kind = kind_of ending }) else None
ends_by number account has (account_ended n ending) date = if n == account then Some (record { date = date; kind = kind_of ending }) else None
ends_by number account has _ date = None

-- how the entry ends the authorization, if it does
abbrev pub ends : Authorization → Entry → ℕ → Option AuthorizationEnd
ends a = ends_by a.number a.account (λ n. has_challenge n a)

abbrev pub in_time : ℕ → Option AuthorizationEnd → Option AuthorizationEnd
in_time expires None = None
in_time expires (Some e) = if nat_le e.date expires then Some e else None

-- the first entry that ends the authorization, if it is dated no later than `expires`
abbrev pub authorization_end : Authorization → History → Option AuthorizationEnd
authorization_end a F = in_time a.expires (first (λ e. ends a e.entry e.date) F)

abbrev pub proving : Authorization → Entry → ℕ → Option ℕ
proving a (reported challenge outcome) date = if is_good outcome then (if has_challenge challenge a then Some date else None) else None
proving a _ date = None

-- when a good report on one of its challenges came
abbrev pub when_proved : Authorization → History → Option ℕ
when_proved a F = first (λ e. proving a e.entry e.date) F

abbrev pub authorization_status_by : Option AuthorizationEnd → (past proved : Bool) → AuthzStatus
authorization_status_by (Some e) past proved = status_of e.kind
authorization_status_by None true proved = authz.Expired
authorization_status_by None false true = authz.Valid
authorization_status_by None false false = authz.Pending

abbrev pub authorization_status : Authorization → History → ℕ → AuthzStatus
authorization_status a F t = authorization_status_by (authorization_end a F) (nat_lt a.expires t) (is_some (when_proved a F))

abbrev pub is_pending : AuthzStatus → Bool
is_pending authz.Pending = true
is_pending _ = false

abbrev pub is_valid : AuthzStatus → Bool
is_valid authz.Valid = true
is_valid _ = false

-- it can still be ended, by its client, the operator or the passing of time
abbrev pub is_live : AuthzStatus → Bool
is_live s = is_pending s || is_valid s

-- it can prove nothing any more
abbrev pub is_over : AuthzStatus → Bool
is_over s = not (is_live s)
