-- Which entry may follow a history, and which histories are legal.
use Rattle.std.specs.Prelude.{ℕ, ◌+◌, ◌≤◌, List, [], ◌∷◌, length, Bool, false, true, not, ◌&&◌, ◌||◌, ◌==◌, nat_le, is_none, IsTrue, map, bytes_eq, codes}
use Rattle.std.specs.List.{list_any, list_all}
use Rattle.desk_model.specs.Entry.{Entry, made, issued, spent, opened, contacts_changed, key_changed, account_ended, ordered, answered, reported}
use Rattle.desk_model.specs.Entry.{authorization_ended, finalized, certified, failed, Wanted, new, OrderProblem, Dated, reused, History}
use Rattle.desk_model.specs.Limits.{last_moment, last_number, longest_certificate, longest_csr, longest_detail, most_names}
use Rattle.desk_model.specs.Nonce.{nonce, nonces, is_open}
use Rattle.desk_model.specs.Account.{accounts, account_by_number, account_by_key, account_status, is_valid as is_valid_account}
use Rattle.desk_model.specs.Authorization.{Authorization, authorizations, authorization, authorization_of, authorization_status, is_valid, challenge_status}
use Rattle.desk_model.specs.Authorization.{is_live, is_pending, kinds_of, count_challenges}
use Rattle.desk_model.specs.Order.{orders, order_by_number, order_status, is_ready, is_processing}
use Rattle.desk_model.specs.{Name.Name, Name.same_name, History.clock, History.terms, Lookup.holds, BaseName.is_base_name, Keys.IsKeyText, Terms.are_terms}
use Rattle.desk_model.specs.{Contact.contacts_pass, Texts.AreTexts, Texts.IsTextProblem, declared.status.ChallengeStatus.ChallengeStatus}
use Rattle.desk_model.specs.declared.status.ChallengeStatus.TheVariants as chall

abbrev pub is_pending_challenge : ChallengeStatus → Bool
is_pending_challenge status = elim status [ chall.Pending ↦ true | _ ↦ false ]

abbrev pub is_processing_challenge : ChallengeStatus → Bool
is_processing_challenge status = elim status [ chall.Processing ↦ true | _ ↦ false ]

abbrev pub has_length : {X : Type 0} → ℕ → ℕ → List X → Bool
has_length low high xs = nat_le low (length xs) && nat_le (length xs) high

-- a new authorization has a well-formed name, and a token for each challenge
abbrev pub is_wanted : Wanted → Bool
is_wanted (new name tokens) = is_base_name name.base && ((length tokens == length (kinds_of name)) && list_all (λ token. length token == 16) tokens)
is_wanted (reused name n) = true

abbrev pub wanted_name : Wanted → Name
wanted_name (new name tokens) = name
wanted_name (reused name n) = name

-- an order of the account that expires then may use the authorization for the name (RFC 8555, 7.4): it is the account's, of this
-- name, valid at m, and does not expire before the order
abbrev pub may_serve : History → (m account : ℕ) → Name → (expires : ℕ) → Authorization → Bool
may_serve F m account name expires a =
    is_valid (authorization_status a F m) && ((a.account == account) && (same_name a.name name && nat_le expires a.expires))

-- a new authorization always may be wanted, another where it may serve
abbrev pub may_want : History → (m account : ℕ) → Wanted → Bool
may_want F m account (new name tokens) = true
may_want F m account (reused name n) = holds (may_serve F m account name (m + (terms F).order_life)) (authorization n F)

abbrev pub all_different : List Name → Bool
all_different [] = true
all_different (n ∷ ns) = not (list_any (same_name n) ns) && all_different ns

-- an error type that the signing office may hand in
abbrev pub is_problem_kind : List ℕ → Bool
is_problem_kind kind = bytes_eq kind (codes "badCSR") || bytes_eq kind (codes "serverInternal")

-- such an error type, and a detail that is not empty and not too long
abbrev pub is_problem : OrderProblem → Bool
is_problem p = is_problem_kind p.kind && has_length 1 longest_detail p.detail

abbrev pub is_empty : History → Bool
is_empty [] = true
is_empty (e ∷ before) = false

-- the entry may follow the history at the moment m
abbrev pub may_follow : History → Entry → ℕ → Bool
may_follow F (made terms) m = is_empty F && are_terms terms
may_follow F (issued random) m = length random == 16
may_follow F (spent serial) m = holds (is_open F m) (nonce serial F)
may_follow F (opened key contacts) m = is_none (account_by_key key F) && contacts_pass contacts
may_follow F (contacts_changed account contacts) m =
    holds (λ a. is_valid_account (account_status a F)) (account_by_number account F) && contacts_pass contacts
may_follow F (key_changed account key) m =
    holds (λ a. is_valid_account (account_status a F)) (account_by_number account F) && is_none (account_by_key key F)
may_follow F (account_ended account ending) m = holds (λ a. is_valid_account (account_status a F)) (account_by_number account F)
may_follow F (ordered account wanted) m =
    holds (λ a. is_valid_account (account_status a F)) (account_by_number account F)
    && (has_length 1 most_names wanted
    && (all_different (map wanted_name wanted) && (list_all is_wanted wanted && list_all (may_want F m account) wanted)))
may_follow F (answered challenge) m =
    holds (λ a. is_pending (authorization_status a F m)) (authorization_of challenge F)
    && is_pending_challenge (challenge_status challenge F)
may_follow F (reported challenge outcome) m =
    holds (λ a. is_pending (authorization_status a F m)) (authorization_of challenge F)
    && is_processing_challenge (challenge_status challenge F)
may_follow F (authorization_ended number ending) m = holds (λ a. is_live (authorization_status a F m)) (authorization number F)
may_follow F (finalized order csr) m = holds (λ o. is_ready (order_status o F m)) (order_by_number order F) && has_length 1 longest_csr csr
may_follow F (certified order certificate) m =
    holds (λ o. is_processing (order_status o F m)) (order_by_number order F) && has_length 1 longest_certificate certificate
may_follow F (failed order problem) m = holds (λ o. is_processing (order_status o F m)) (order_by_number order F) && is_problem problem

-- no number above the greatest was given
abbrev pub numbers_fit : History → Bool
numbers_fit F =
    nat_le (length (nonces F)) last_number
    && (nat_le (length (accounts F)) last_number
    && (nat_le (length (orders F)) last_number
    && (nat_le (length (authorizations F)) last_number
    && nat_le (count_challenges (authorizations F)) last_number)))

-- a key that an account gets is one that the desk accepts, and what is recorded as text is UTF-8
abbrev pub IsFormed : Entry → Type 0
IsFormed (opened key contacts) = IsKeyText key × AreTexts contacts
IsFormed (contacts_changed account contacts) = AreTexts contacts
IsFormed (key_changed account key) = IsKeyText key
IsFormed (failed order problem) = IsTextProblem problem
IsFormed _ = Unit {0}

-- the entry may follow the history
pub record Follows (e : Dated) (before : History) : Type 0 where
  pub allowed : IsTrue (may_follow before e.entry e.date)
  pub formed : IsFormed e.entry
  pub in_order : clock before ≤ e.date
  pub in_time : e.date ≤ last_moment

-- each entry may follow those before it
abbrev pub EachFollows : History → Type 0
EachFollows [] = Unit {0}
EachFollows (e ∷ before) = Follows e before × EachFollows before

abbrev pub IsMade : Entry → Type 0
IsMade (made terms) = Unit {0}
IsMade _ = ⊥

-- the first entry is the making of the desk
abbrev pub BeginsMade : History → Type 0
BeginsMade [] = ⊥
BeginsMade (e ∷ []) = IsMade e.entry
BeginsMade (e ∷ f ∷ before) = BeginsMade (f ∷ before)

pub record Legal (F : History) : Type 0 where
  pub begins : BeginsMade F
  pub each : EachFollows F
  pub numbered : IsTrue (numbers_fit F)
