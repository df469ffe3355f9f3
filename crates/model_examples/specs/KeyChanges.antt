-- A key that an account gets in place of another (RFC 8555, 7.3.5).
use Rattle.std.specs.Prelude.{◌≡◌, ℕ, List, [], ◌∷◌, ◌++◌, map, true, codes}
use Rattle.desk_model.specs.Tables.{picture}
use Rattle.desk_model.specs.declared.call.Target.TheVariants as to
use Rattle.desk_model.specs.declared.call.OfficeAsk.TheVariants as office
use Rattle.desk_model.specs.declared.call.Finding.TheVariants as found
use Rattle.model_examples.specs.Computed.{Answer, plain, located, Json, Problem, Answers, Refuses}
use Rattle.model_examples.specs.Entries.{Entry, opened, key_changed, account_ended, deactivated, answered, reported, good, History, incorrect_response}
use Rattle.model_examples.specs.Offices.{waiting_desk, http_desk, report, Notes, Repeats, http_work, proved_challenge, unmatched_challenge}
use Rattle.model_examples.specs.Texts.{malformed, bad_public_key, key_in_use, no_account, unauthorized, plain_account}
use Rattle.model_examples.specs.{Calls.on, Calls.account_desk, Calls.first_key, Calls.second_key, Calls.request, Following.May, Following.MayNot}

-- the canonical text of a third key
abbrev pub third_key : List ℕ
third_key = codes "{\"crv\":\"P-256\",\"kty\":\"EC\",\"x\":\"BQ\",\"y\":\"Ag\"}"

-- a desk with two accounts
abbrev pub two_accounts : History
two_accounts = on 0 (opened second_key []) ∷ account_desk

-- the first has the third key
abbrev pub rekeyed_desk : History
rekeyed_desk = on 0 (key_changed 1 third_key) ∷ two_accounts

-- ---- requests

-- the text of a payload, by the account's URL and the texts of keys
abbrev pub rekey : (url next old : List ℕ) → List ℕ
rekey url next old = codes "{\"account\":\"" ++ (url ++ (codes "\",\"newKey\":" ++ (next ++ (codes ",\"oldKey\":" ++ (old ++ codes "}")))))

-- the URL of the first account
abbrev pub first_url : List ℕ
first_url = codes "https://ca.example/account/1"

-- a request of the first account is answered so, and these entries follow those of its nonce
abbrev pub Rekeys : List ℕ → Answer → List Entry → Type 0
Rekeys payload answer entries = Answers two_accounts (request to.KeyChange payload) answer entries

-- ---- challenges that were answered before

-- the desk whose challenge was answered, and whose account then got another key
abbrev pub later_key : History
later_key = on 0 (key_changed 1 second_key) ∷ http_desk

-- the key authorization of a token of zero bytes under the key of RFC 7638, 3.1
abbrev pub key_authorization : List ℕ
key_authorization = codes "AAAAAAAAAAAAAAAAAAAAAA.NzbLsXh8uDCcd-6MNwXF4W_7noWXFZAfHkxZsRGC9Xs"

-- that under the second key
abbrev pub second_authorization : List ℕ
second_authorization = codes "AAAAAAAAAAAAAAAAAAAAAA.pF1dcf6lIm6B95gxRV0_u2O1e7FkRx6C8-vJxcZYuDw"

-- the desk whose challenge was answered after the change
abbrev pub earlier_key : History
earlier_key = on 0 (answered 1) ∷ on 0 (key_changed 1 second_key) ∷ waiting_desk

-- which keys an account may get, and which it may be opened by
pub record KeysAreFree : Type 0 where
  -- ---- which entries may follow
  -- an account gets a key that no account has
  pub changes_key : May two_accounts (key_changed 1 third_key) 0
  -- not that of another
  pub changes_to_taken : MayNot two_accounts (key_changed 1 second_key) 0
  -- nor its own
  pub changes_to_own : MayNot two_accounts (key_changed 1 first_key) 0
  -- a key that it gave up is free for it
  pub changes_back : May rekeyed_desk (key_changed 1 first_key) 0
  -- and for another
  pub changes_to_given_up : May rekeyed_desk (key_changed 2 first_key) 0
  -- an account that ended gets no key
  pub changes_key_of_ended : MayNot (on 0 (account_ended 1 deactivated) ∷ two_accounts) (key_changed 1 third_key) 0
  -- nor one that was never opened
  pub changes_key_of_unknown : MayNot two_accounts (key_changed 3 third_key) 0
  -- an account is opened by a key that was given up
  pub opens_by_given_up : May rekeyed_desk (opened first_key []) 0
  -- not by one that an account got
  pub opens_by_changed : MayNot rekeyed_desk (opened third_key []) 0
  -- ---- the rows
  -- the row has the key of the last change, and others keep theirs
  pub keys_now : map (λ a. a.key) (picture rekeyed_desk).accounts ≡ third_key ∷ second_key ∷ []

-- a request for another key, and what waits under the key before it
pub record KeysAreChanged : Type 0 where
  -- ---- requests
  -- the account gets the key
  pub key_is_changed : Rekeys (rekey first_url third_key first_key) (plain 200 (Json plain_account)) (key_changed 1 third_key ∷ [])
  -- another account has the key: its URL is said
  pub key_of_another : Rekeys (rekey first_url second_key first_key) (located (codes "https://ca.example/account/2") (plain 409 (Problem true key_in_use))) []
  -- the account has the key already
  pub key_of_its_own : Rekeys (rekey first_url first_key first_key) (located first_url (plain 409 (Problem true key_in_use))) []
  -- the URL of another account
  pub url_of_another : Rekeys (rekey (codes "https://ca.example/account/2") third_key first_key) (plain 400 (Problem true malformed)) []
  -- another old key
  pub old_key_of_another : Rekeys (rekey first_url third_key second_key) (plain 400 (Problem true malformed)) []
  -- the account and the old key are tested before the new one
  pub old_key_first : Rekeys (rekey first_url (codes "{}") second_key) (plain 400 (Problem true malformed)) []
  -- a new key that is none
  pub new_key_is_none : Rekeys (rekey first_url (codes "{\"kty\":\"oct\"}") first_key) (plain 400 (Problem true bad_public_key)) []
  -- a new key that is no object
  pub new_key_no_object : Rekeys (rekey first_url (codes "1") first_key) (plain 400 (Problem true malformed)) []
  -- no old key
  pub without_old_key : Rekeys (codes "{\"account\":\"https://ca.example/account/1\",\"newKey\":{}}") (plain 400 (Problem true malformed)) []
  -- an account that ended is given no key
  pub ended_keeps_key :
      Refuses (on 0 (account_ended 1 deactivated) ∷ two_accounts) (request to.KeyChange (rekey first_url third_key first_key)) 401 unauthorized
  -- a request by a key that the account gave up
  pub given_up_key : Refuses rekeyed_desk (request to.NewOrder (codes "{}")) 400 no_account
  -- ---- challenges that were answered before
  -- the key of the answer is asked for
  pub work_by_old_key : Repeats later_key office.ChallengeWork http_work
  -- and a report is matched with it
  pub report_by_old_key : Notes later_key (report (found.Body key_authorization)) proved_challenge (reported 1 good)
  -- not with the key of now
  pub report_by_new_key : Notes later_key (report (found.Body second_authorization)) unmatched_challenge (reported 1 incorrect_response)
  -- then it is matched with the new key
  pub answered_then_matched : Notes earlier_key (report (found.Body second_authorization)) proved_challenge (reported 1 good)
  -- and not with the old one
  pub answered_by_new_key : Notes earlier_key (report (found.Body key_authorization)) unmatched_challenge (reported 1 incorrect_response)
