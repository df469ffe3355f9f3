-- Contacts of accounts (RFC 8555, 7.3).
use Rattle.std.specs.Prelude.{◌≡◌, [], ◌∷◌, ◌++◌, codes, replicate, Some, None}
use Rattle.desk_model.specs.Contact.{contact_fault, contacts_fault}
use Rattle.desk_model.specs.declared.call.Target.TheVariants as to
use Rattle.desk_model.specs.declared.refusal.Refusal.TheVariants as refusal
use Rattle.model_examples.specs.Computed.{plain, Json, located, Answers, Reads, Refuses, shows}
use Rattle.model_examples.specs.Texts.{unsupported_contact, invalid_contact, no_account, plain_account}
use Rattle.model_examples.specs.{Accounts.with_nonce, Entries.contacts_changed, Entries.opened, Calls.account_desk, Calls.request, Calls.first_key}

-- which contacts an account may have
pub record ContactsAreTested : Type 0 where
  -- nothing stands behind the scheme
  pub empty_address : contact_fault (codes "mailto:") ≡ Some refusal.InvalidContact
  -- two addresses
  pub two_addresses : contact_fault (codes "mailto:a@b,c@d") ≡ Some refusal.InvalidContact
  -- header fields
  pub header_fields : contact_fault (codes "mailto:a@b?x=1") ≡ Some refusal.InvalidContact
  -- no scheme at all
  pub no_scheme : contact_fault (codes "abc") ≡ Some refusal.InvalidContact
  -- another scheme
  pub telephone : contact_fault (codes "tel:+1") ≡ Some refusal.UnsupportedContact
  -- a scheme is read in any case
  pub upper_case_scheme : contact_fault (codes "MAILTO:a@b") ≡ None
  -- 320 bytes
  pub longest_contact : contact_fault (codes "mailto:" ++ replicate 313 97) ≡ None
  -- and one more
  pub too_long_contact : contact_fault (codes "mailto:" ++ replicate 314 97) ≡ Some refusal.InvalidContact
  -- ten contacts
  pub ten_contacts : contacts_fault (replicate 10 (codes "mailto:a@b")) ≡ None
  -- and one more: counted before they are looked at
  pub eleven_contacts : contacts_fault (replicate 11 (codes "tel:+1")) ≡ Some refusal.InvalidContact
  -- the first that is refused answers
  pub first_fault : contacts_fault (codes "mailto:a@b" ∷ codes "tel:+1" ∷ codes "abc" ∷ []) ≡ Some refusal.UnsupportedContact
  -- an account with a telephone number is not opened
  pub telephone_refused : Refuses with_nonce (request to.NewAccount (codes "{\"contact\":[\"tel:+1\"]}")) 400 unsupported_contact
  -- nor one with an address that says nothing
  pub empty_address_refused : Refuses with_nonce (request to.NewAccount (codes "{\"contact\":[\"mailto:\"]}")) 400 invalid_contact
  -- other contacts take the place of the old ones, as they are written
  pub contacts_replaced : Answers account_desk (request (to.Account 1) (codes "{\"contact\":[\"MAILTO:a@b\"],\"status\":\"valid\"}"))
      (shows (codes "{\"contact\":[\"MAILTO:a@b\"],\"orders\":\"https://ca.example/account/1/orders\",\"status\":\"valid\"}"))
      (contacts_changed 1 (codes "MAILTO:a@b" ∷ []) ∷ [])
  -- and pass the same test
  pub contacts_not_replaced : Refuses account_desk (request (to.Account 1) (codes "{\"contact\":[\"tel:+1\"]}")) 400 unsupported_contact
  -- without contacts nothing is changed
  pub contacts_left : Reads account_desk (request (to.Account 1) (codes "{\"status\":\"revoked\"}")) plain_account
  -- where only an existing account is asked for, contacts are not looked at
  pub existing_before_contacts : Refuses with_nonce (request to.NewAccount (codes "{\"contact\":[\"abc\"],\"onlyReturnExisting\":true}")) 400 no_account
  -- any account may be asked for expressly
  pub not_only_existing : Answers with_nonce (request to.NewAccount (codes "{\"onlyReturnExisting\":false}"))
      (located (codes "https://ca.example/account/1") (plain 201 (Json plain_account))) (opened first_key [] ∷ [])
