-- Which entries may follow a history: each kind where it may, and where each of its conditions fails.
use Rattle.std.specs.Prelude.{◌≡◌, ℕ, List, [], ◌∷◌, ◌++◌, map, replicate, true, false, codes}
use Rattle.desk_model.specs.Legal.{may_follow}
use Rattle.model_examples.specs.Entries.{Entry, made, issued, spent, opened, contacts_changed, account_ended, ordered, answered, reported, good}
use Rattle.model_examples.specs.Entries.{incorrect_response, connection, authorization_ended, finalized, certified, failed, new, deactivated, revoked, History}
use Rattle.model_examples.specs.Calls.{on, zeros, new_desk, account_desk, order_desk, default_terms, terms_of, first_key, second_key, simple, wants}
use Rattle.model_examples.specs.Fifty.{names}

-- the entry may follow at the moment
abbrev pub May : History → Entry → ℕ → Type 0
May F e m = may_follow F e m ≡ true

-- the entry may not follow at the moment
abbrev pub MayNot : History → Entry → ℕ → Type 0
MayNot F e m = may_follow F e m ≡ false

-- ---- the making of the desk, nonces

-- default lives, and this base
abbrev pub based_on : List ℕ → Entry
based_on base = made (record default_terms { base = base })

-- ---- accounts

-- a contact that passes
abbrev pub contact : List ℕ
contact = codes "mailto:a@b"

-- a desk whose account has ended
abbrev pub ended_desk : History
ended_desk = on 0 (account_ended 1 deactivated) ∷ account_desk

-- ---- orders

-- an order of these names
abbrev pub order_of : List (List ℕ) → Entry
order_of bases = ordered 1 (map wants bases)

-- ---- challenges; authorizations live 100 seconds

-- an order is pending, and lives 200 seconds
abbrev pub pending_desk : History
pending_desk = order_desk (terms_of 3600 200 100)

-- its first challenge was answered at 10
abbrev pub answered_desk : History
answered_desk = on 10 (answered 1) ∷ pending_desk

-- and proved at 20
abbrev pub proved_desk : History
proved_desk = on 20 (reported 1 good) ∷ answered_desk

-- ---- orders that are finalized; here they live 200 seconds and their authorizations longer

-- an order is ready, and lives 200 seconds
abbrev pub ready_desk : History
ready_desk = on 0 (reported 1 good) ∷ on 0 (answered 1) ∷ order_desk (terms_of 3600 200 300)

-- it was finalized
abbrev pub processing_desk : History
processing_desk = on 0 (finalized 1 (1 ∷ [])) ∷ ready_desk

-- the failure of the order
abbrev pub failure_by : (kind detail : List ℕ) → Entry
failure_by kind detail = failed 1 (record { kind = kind; detail = detail })

-- which entries may follow a history, and where each of their conditions fails
pub record EntriesFollow : Type 0 where
  -- ---- the making of the desk, nonces
  -- a desk is made where nothing is
  pub made_first : May [] (made default_terms) 0
  -- and not twice
  pub made_twice : MayNot new_desk (made default_terms) 0
  -- with lives of a second at least
  pub made_without_life : MayNot [] (made (terms_of 3600 0 100)) 0
  -- and ten years at most
  pub made_forever : MayNot [] (made (terms_of 3600 100 315360001)) 0
  -- over HTTP too
  pub made_over_http : May [] (based_on (codes "http://a")) 0
  -- but over nothing else
  pub made_over_ftp : MayNot [] (based_on (codes "ftp://ca.example")) 0
  -- with a base of eight bytes at least
  pub made_on_scheme : MayNot [] (based_on (codes "http://")) 0
  -- and 256 at most
  pub made_on_long_base : May [] (based_on (codes "http://" ++ replicate 249 97)) 0
  -- not one more
  pub made_on_too_long_base : MayNot [] (based_on (codes "http://" ++ replicate 250 97)) 0
  -- with no slash at its end
  pub made_on_slash : MayNot [] (based_on (codes "https://ca.example/")) 0
  -- nor a space in it
  pub made_on_space : MayNot [] (based_on (codes "https://ca example")) 0
  -- a nonce is issued at any time
  pub issues : May new_desk (issued (zeros 16)) 5
  -- of 16 bytes
  pub issues_too_short : MayNot new_desk (issued (zeros 15)) 5
  -- an open nonce is spent
  pub spends : May account_desk (spent 1) 3600
  -- to the end of its life
  pub spends_too_late : MayNot account_desk (spent 1) 3601
  -- once
  pub spends_twice : MayNot (on 0 (spent 1) ∷ account_desk) (spent 1) 0
  -- after it was issued
  pub spends_unknown : MayNot account_desk (spent 2) 0
  -- ---- accounts
  -- an account is opened
  pub opens : May account_desk (opened second_key (contact ∷ [])) 0
  -- by a key that has none
  pub opens_twice : MayNot account_desk (opened first_key []) 0
  -- with contacts that pass
  pub opens_with_bad_contact : MayNot account_desk (opened second_key (codes "tel:+1" ∷ [])) 0
  -- a valid account gets other contacts
  pub changes_contacts : May account_desk (contacts_changed 1 (contact ∷ [])) 0
  -- that pass
  pub changes_to_bad_contact : MayNot account_desk (contacts_changed 1 (codes "abc" ∷ [])) 0
  -- an account that ended does not
  pub changes_ended : MayNot ended_desk (contacts_changed 1 []) 0
  -- nor one that was never opened
  pub changes_unknown : MayNot account_desk (contacts_changed 2 []) 0
  -- a valid account ends
  pub ends_account : May account_desk (account_ended 1 revoked) 0
  -- once
  pub ends_account_twice : MayNot ended_desk (account_ended 1 revoked) 0
  -- an account that was never opened does not end
  pub ends_unknown_account : MayNot account_desk (account_ended 2 revoked) 0
  -- ---- orders
  -- an order of one name
  pub orders : May account_desk (order_of (names 1)) 0
  -- of fifty
  pub orders_fifty : May account_desk (order_of (names 50)) 0
  -- of one more
  pub orders_fifty_one : MayNot account_desk (order_of (names 51)) 0
  -- of no name
  pub orders_nothing : MayNot account_desk (order_of []) 0
  -- of one name twice
  pub orders_twice : MayNot account_desk (order_of (names 2 ++ names 1)) 0
  -- of a name and its wildcard
  pub orders_wildcard : May account_desk (ordered 1 (wants (codes "a.b") ∷ new (record { base = codes "a.b"; wildcard = true }) (zeros 16 ∷ []) ∷ [])) 0
  -- a token is missing
  pub orders_without_token : MayNot account_desk (ordered 1 (new (simple (codes "a.b")) (zeros 16 ∷ []) ∷ [])) 0
  -- a token is short
  pub orders_short_token : MayNot account_desk (ordered 1 (new (simple (codes "a.b")) (zeros 16 ∷ zeros 15 ∷ []) ∷ [])) 0
  -- a name is none
  pub orders_no_name : MayNot account_desk (order_of (codes "a..b" ∷ [])) 0
  -- the account has ended
  pub orders_for_ended : MayNot ended_desk (order_of (names 1)) 0
  -- there is no such account
  pub orders_for_unknown : MayNot new_desk (order_of (names 1)) 0
  -- ---- challenges; authorizations live 100 seconds
  -- a pending challenge of a pending authorization is answered
  pub answers_pending : May pending_desk (answered 1) 100
  -- in its time
  pub answers_too_late : MayNot pending_desk (answered 1) 101
  -- there is no such challenge
  pub answers_unknown : MayNot pending_desk (answered 3) 0
  -- it was answered
  pub answers_twice : MayNot answered_desk (answered 1) 10
  -- another challenge proved the authorization
  pub answers_proved : MayNot proved_desk (answered 2) 20
  -- a challenge that was answered is reported
  pub reports : May answered_desk (reported 1 connection) 100
  -- in its time
  pub reports_too_late : MayNot answered_desk (reported 1 good) 101
  -- it was not answered
  pub reports_unanswered : MayNot answered_desk (reported 2 good) 20
  -- it was reported
  pub reports_twice : MayNot proved_desk (reported 1 good) 20
  -- its authorization was deactivated
  pub reports_deactivated : MayNot (on 10 (authorization_ended 1 deactivated) ∷ answered_desk) (reported 1 good) 20
  -- ---- authorizations
  -- a pending authorization is ended
  pub ends_pending : May pending_desk (authorization_ended 1 deactivated) 100
  -- a valid one too
  pub ends_valid : May proved_desk (authorization_ended 1 revoked) 100
  -- in its time
  pub ends_too_late : MayNot proved_desk (authorization_ended 1 revoked) 101
  -- it has failed
  pub ends_failed : MayNot (on 20 (reported 1 incorrect_response) ∷ answered_desk) (authorization_ended 1 revoked) 20
  -- there is no such authorization
  pub ends_unknown : MayNot pending_desk (authorization_ended 2 revoked) 0
  -- ---- orders that are finalized; here they live 200 seconds and their authorizations longer
  -- a ready order is finalized
  pub finalizing : May ready_desk (finalized 1 (replicate 8192 1)) 200
  -- in its time
  pub finalizing_too_late : MayNot ready_desk (finalized 1 (1 ∷ [])) 201
  -- by 8192 bytes at most
  pub finalizing_too_much : MayNot ready_desk (finalized 1 (replicate 8193 1)) 0
  -- and one at least
  pub finalizing_nothing : MayNot ready_desk (finalized 1 []) 0
  -- it is pending
  pub finalizing_pending : MayNot pending_desk (finalized 1 (1 ∷ [])) 0
  -- there is no such order
  pub finalizing_unknown : MayNot ready_desk (finalized 2 (1 ∷ [])) 0
  -- it was finalized
  pub finalizing_twice : MayNot processing_desk (finalized 1 (1 ∷ [])) 0
  -- a processing order gets its certificate
  pub certifying : May processing_desk (certified 1 (replicate 65536 1)) 200
  -- in its time
  pub certifying_too_late : MayNot processing_desk (certified 1 (1 ∷ [])) 201
  -- of 65536 bytes at most
  pub certifying_too_much : MayNot processing_desk (certified 1 (replicate 65537 1)) 0
  -- and one at least
  pub certifying_nothing : MayNot processing_desk (certified 1 []) 0
  -- it was not finalized
  pub certifying_ready : MayNot ready_desk (certified 1 (1 ∷ [])) 0
  -- its authorization was deactivated
  pub certifying_fallen : MayNot (on 0 (authorization_ended 1 deactivated) ∷ processing_desk) (certified 1 (1 ∷ [])) 0
  -- it has a certificate
  pub certifying_twice : MayNot (on 0 (certified 1 (1 ∷ [])) ∷ processing_desk) (certified 1 (1 ∷ [])) 0
  -- a processing order fails
  pub failing : May processing_desk (failure_by (codes "badCSR") (replicate 256 97)) 200
  -- by the office's own fault
  pub failing_inside : May processing_desk (failure_by (codes "serverInternal") (codes "a")) 0
  -- and no other
  pub failing_by_dns : MayNot processing_desk (failure_by (codes "dns") (codes "a")) 0
  -- with a detail
  pub failing_without_detail : MayNot processing_desk (failure_by (codes "badCSR") []) 0
  -- of 256 bytes at most
  pub failing_at_length : MayNot processing_desk (failure_by (codes "badCSR") (replicate 257 97)) 0
  -- it was not finalized
  pub failing_ready : MayNot ready_desk (failure_by (codes "badCSR") (codes "a")) 0
  -- it failed already
  pub failing_twice : MayNot (on 0 (failure_by (codes "badCSR") (codes "a")) ∷ processing_desk) (failure_by (codes "badCSR") (codes "a")) 0
