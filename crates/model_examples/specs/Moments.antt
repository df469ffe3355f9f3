-- Moments: how long a nonce serves, at which moment a call acts, and which moments are faults (RFC 8555, 6.5).
use Rattle.std.specs.Prelude.{◌≡◌, ℕ, [], ◌∷◌, false, Some, None, codes}
use Rattle.desk_model.specs.{Moment.moment_text, Decide.after, Run.fault, declared.call.Call.Call}
use Rattle.desk_model.specs.declared.call.Ask.TheVariants as ask
use Rattle.desk_model.specs.declared.call.OfficeAsk.TheVariants as office
use Rattle.desk_model.specs.declared.call.Target.TheVariants as to
use Rattle.model_examples.specs.Computed.{Gives, refuses, located, Answers, shows}
use Rattle.model_examples.specs.Calls.{on, zeros, new_desk, account_desk, first_key, asked, request_at, signed, nonce_one, nonce_two, nonce_three}
use Rattle.model_examples.specs.{Entries.issued, Entries.History, Texts.bad_nonce, Texts.plain_account}

-- the account is asked for at a moment, with a nonce of moment 0
abbrev pub known_at : ℕ → Call
known_at at = request_at at to.NewAccount (codes "{}")

-- a desk that issued a nonce at 90
abbrev pub desk_at_ninety : History
desk_at_ninety = on 90 (issued (zeros 16)) ∷ new_desk

-- how long a nonce serves, at which moment a call acts, and which calls have a fault
pub record MomentsAreKept : Type 0 where
  -- a nonce serves to the end of its life
  pub nonce_to_the_end_of_its_life : Answers account_desk (known_at 3600) (located (codes "https://ca.example/account/1") (shows plain_account)) []
  -- and no later
  pub nonce_past_its_life : Gives account_desk (known_at 3601) (refuses 400 bad_nonce nonce_two) (issued (zeros 16) ∷ [])
  -- a call with an earlier moment acts at the latest recorded one
  pub earlier_moment : after desk_at_ninety (asked 50 16 (ask.NewNonce false)) ≡ on 90 (issued (zeros 16)) ∷ desk_at_ninety
  -- a later one moves the clock
  pub later_moment : after desk_at_ninety (asked 91 16 (ask.NewNonce false)) ≡ on 91 (issued (zeros 16)) ∷ desk_at_ninety
  -- so the end of a life is not undone: what is past it at the clock stays so
  pub past_at_the_clock : Gives (on 3601 (issued (zeros 16)) ∷ account_desk) (known_at 0) (refuses 400 bad_nonce nonce_three) (issued (zeros 16) ∷ [])
  -- the last moment
  pub last_moment : fault new_desk (asked 250000000000 16 (ask.NewNonce false)) ≡ None
  -- and the next
  pub moment_fault : fault new_desk (asked 250000000001 16 (ask.NewNonce false)) ≡ Some 24
  -- the moment is tested before the random bytes
  pub moment_before_random : fault new_desk (asked 250000000001 0 (ask.NewNonce false)) ≡ Some 24
  -- a nonce wants 16 random bytes
  pub short_nonce : fault new_desk (asked 0 15 (ask.NewNonce false)) ≡ Some 25
  -- also that of a refusal
  pub short_refusal : fault new_desk (asked 0 15 (signed first_key nonce_one to.NewAccount (codes "{}"))) ≡ Some 25
  -- a call that records nothing takes none
  pub directory_without_random : fault new_desk (asked 0 0 (ask.Office office.Directory)) ≡ None
  -- ---- texts of moments
  -- the beginning
  pub first_text : moment_text 0 ≡ codes "1970-01-01T00:00:00Z"
  -- a day in a leap year that is a hundred's
  pub leap_day : moment_text 951782400 ≡ codes "2000-02-29T00:00:00Z"
  -- a hundred's that is no leap year
  pub no_leap_day : moment_text 4107542400 ≡ codes "2100-03-01T00:00:00Z"
  -- hours, minutes and seconds
  pub time_of_day : moment_text 1234567890 ≡ codes "2009-02-13T23:31:30Z"
  -- the last moment that can be written in an object
  pub last_text : moment_text 250315360000 ≡ codes "9902-03-07T12:26:40Z"
