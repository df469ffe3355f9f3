-- The first requests to a new desk: nonces and accounts (RFC 8555, 6.5, 7.2, 7.3).
use Rattle.std.specs.Prelude.{◌≡◌, ℕ, List, [], ◌∷◌, true, false, codes}
use Rattle.model_examples.specs.Computed.{Gives, plain, located, renewed, refuses, Nothing, Json, Answers}
use Rattle.model_examples.specs.Calls.{on, zeros, new_desk, first_key, second_key, asked, signed, nonce_one, nonce_two, nonce_three, nonce_four, nonce_five}
use Rattle.model_examples.specs.Calls.{nonce_six}
use Rattle.model_examples.specs.{Entries.issued, Entries.spent, Entries.opened, Entries.History, Texts.bad_nonce, Texts.no_account}
use Rattle.desk_model.specs.{Keys.ec, Keys.canonical_text, declared.call.Call.Call}
use Rattle.desk_model.specs.declared.call.Ask.TheVariants as ask
use Rattle.desk_model.specs.declared.call.Target.TheVariants as to

-- ---- an account is opened

-- the desk with its first nonce
abbrev pub with_nonce : History
with_nonce = on 0 (issued (zeros 16)) ∷ new_desk

-- a request for a new account
abbrev pub opening : Call
opening = asked 0 16 (signed first_key nonce_one to.NewAccount (codes "{\"contact\":[\"mailto:a@b.example\"],\"termsOfServiceAgreed\":true}"))

-- the document of the account that it opens
abbrev pub account_text : List ℕ
account_text = codes "{\"contact\":[\"mailto:a@b.example\"],\"orders\":\"https://ca.example/account/1/orders\",\"status\":\"valid\"}"

-- the desk after the request
abbrev pub with_account : History
with_account = on 0 (opened first_key (codes "mailto:a@b.example" ∷ [])) ∷ on 0 (issued (zeros 16)) ∷ on 0 (spent 1) ∷ with_nonce

-- ---- the account of a key

-- the desk after the same request again
abbrev pub with_third_nonce : History
with_third_nonce = on 0 (issued (zeros 16)) ∷ with_account

-- a request for the account that the key has
abbrev pub knowing : Call
knowing = asked 0 16 (signed first_key nonce_two to.NewAccount (codes "{}"))

-- the desk after it
abbrev pub with_fourth_nonce : History
with_fourth_nonce = on 0 (issued (zeros 16)) ∷ on 0 (spent 2) ∷ with_third_nonce

-- a request of another key, for an account that it has already
abbrev pub asking_existing : Call
asking_existing = asked 0 16 (signed second_key nonce_three to.NewAccount (codes "{\"onlyReturnExisting\":true}"))

-- the desk after it
abbrev pub with_fifth_nonce : History
with_fifth_nonce = on 0 (issued (zeros 16)) ∷ on 0 (spent 3) ∷ with_fourth_nonce

-- the first nonce and account of a desk, and whose account a key finds
pub record NoncesAndAccountsHold : Type 0 where
  -- a nonce by GET
  pub first_nonce : Gives new_desk (asked 0 16 (ask.NewNonce false)) (renewed nonce_one (plain 204 Nothing)) (issued (zeros 16) ∷ [])
  -- a nonce by HEAD
  pub first_nonce_by_head : Gives new_desk (asked 0 16 (ask.NewNonce true)) (renewed nonce_one (plain 200 Nothing)) (issued (zeros 16) ∷ [])
  -- ---- an account is opened
  -- the first account
  pub first_account : Answers with_nonce opening (located (codes "https://ca.example/account/1") (plain 201 (Json account_text)))
      (opened first_key (codes "mailto:a@b.example" ∷ []) ∷ [])
  -- the same request again: its nonce is spent, and it gets a fresh one
  pub nonce_twice : Gives with_account opening (refuses 400 bad_nonce nonce_three) (issued (zeros 16) ∷ [])
  -- ---- the account of a key
  -- the canonical text of a key has the members that make it, whatever else the key was sent with
  pub same_key_other_spelling : canonical_text (ec (codes "P-256") (codes "AQ") (codes "Ag")) ≡ first_key
  -- newAccount by a key that has an account answers that account (7.3.1)
  pub known_key : Gives with_third_nonce knowing (located (codes "https://ca.example/account/1") (renewed nonce_four (plain 200 (Json account_text))))
      (spent 2 ∷ issued (zeros 16) ∷ [])
  -- only an existing account is asked for, and the key has none
  pub only_existing : Gives with_fourth_nonce asking_existing (refuses 400 no_account nonce_five) (spent 3 ∷ issued (zeros 16) ∷ [])
  -- that request again: the refusal has spent its nonce
  pub only_existing_twice : Gives with_fifth_nonce asking_existing (refuses 400 bad_nonce nonce_six) (issued (zeros 16) ∷ [])
