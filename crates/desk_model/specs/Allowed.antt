-- Which entry may follow, by the tables at its moment.
use Rattle.std.specs.Prelude.{ℕ, length, Bool, false, true, ◌&&◌, ◌==◌, is_some, is_none, find, bytes_eq, map}
use Rattle.std.specs.List.{list_all}
use Rattle.desk_model.specs.Entry.{Entry, made, issued, spent, opened, contacts_changed, key_changed, account_ended, ordered, answered, reported}
use Rattle.desk_model.specs.Entry.{authorization_ended, finalized, certified, failed, Wanted, new, reused}
use Rattle.desk_model.specs.Legal.{is_pending_challenge, is_processing_challenge, has_length, all_different, is_wanted, wanted_name, is_problem}
use Rattle.desk_model.specs.Limits.{longest_certificate, longest_csr, most_names}
use Rattle.desk_model.specs.Questions.{account_on, order_on, authorization_on, owner_on, challenge_of, order_end, serves}
use Rattle.desk_model.specs.{Lookup.holds, Contact.contacts_pass, Account.is_valid as is_valid_account, Tables.Tables, Authorization.is_live}
use Rattle.desk_model.specs.{Authorization.is_pending, Order.is_ready, Order.is_processing, declared.status.ChallengeStatus.ChallengeStatus}

-- the challenge stands, passes, and its authorization is pending
abbrev pub challenge_passes : (ChallengeStatus → Bool) → Tables → ℕ → Bool
challenge_passes test T n = holds (λ a. is_pending a.status && holds (λ c. test c.status) (challenge_of n a)) (owner_on T n)

-- a new authorization always may be wanted, another where it serves
abbrev pub may_want_on : Tables → (account : ℕ) → Wanted → Bool
may_want_on T n (new name tokens) = true
may_want_on T n (reused name k) = holds (serves n name (order_end T)) (authorization_on T k)

abbrev pub may_on : Tables → Entry → Bool
may_on T (made terms) = false
may_on T (issued random) = length random == 16
may_on T (spent serial) = is_some (find (λ n. n.serial == serial) T.nonces)
may_on T (opened key contacts) = is_none (find (λ a. bytes_eq a.key key) T.accounts) && contacts_pass contacts
may_on T (contacts_changed n contacts) = holds (λ a. is_valid_account a.status) (account_on T n) && contacts_pass contacts
may_on T (key_changed n key) =
    holds (λ a. is_valid_account a.status) (account_on T n) && is_none (find (λ a. bytes_eq a.key key) T.accounts)
may_on T (account_ended n ending) = holds (λ a. is_valid_account a.status) (account_on T n)
may_on T (ordered n wanted) = holds (λ a. is_valid_account a.status) (account_on T n)
    && (has_length 1 most_names wanted
    && (all_different (map wanted_name wanted) && (list_all is_wanted wanted && list_all (may_want_on T n) wanted)))
may_on T (answered n) = challenge_passes is_pending_challenge T n
may_on T (reported n outcome) = challenge_passes is_processing_challenge T n
may_on T (authorization_ended n ending) = holds (λ a. is_live a.status) (authorization_on T n)
may_on T (finalized n csr) = holds (λ o. is_ready o.status) (order_on T n) && has_length 1 longest_csr csr
may_on T (certified n certificate) = holds (λ o. is_processing o.status) (order_on T n) && has_length 1 longest_certificate certificate
may_on T (failed n problem) = holds (λ o. is_processing o.status) (order_on T n) && is_problem problem
