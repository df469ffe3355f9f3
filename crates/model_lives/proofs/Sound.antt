-- What a verdict records may be recorded by the tables that it was given by.
use Rattle.std.proofs.Common.{◌≡◌, ◌≤◌, ◌*◌, ℕ, List, [], length, Option, Some, None, IsUtf8, IfSome, Ok, refl, subst, true, arith}
use Rattle.std.proofs.lemmas.Bool.{and_from}
use Rattle.std.specs.Prelude.{IsTrue, is_some, option_and_then}
use Rattle.desk_model.specs.Rules.{subproblems, if_fits, signed_verdict, open_nonce_in, open_nonce, office_verdict, kept, names_in, wanted}
use Rattle.desk_model.specs.Run.{pieces_of, IsFormedKey, IsFormedOfficeAsk, IsFormedSigned}
use Rattle.desk_model.specs.declared.verdict.Verdict.TheVariants.{Opens as opens, Orders as orders, Moves as moves}
use Rattle.desk_model.specs.{Legal.IsFormed, Legal.has_length, Questions.account_on, Questions.account_with_key, Questions.nonce_on, Keys.IsKeyText}
use Rattle.desk_model.specs.{Entry.entry_of, Account.is_valid as is_valid_account, declared.rows.AccountRow.AccountRow, Contact.contacts_fault, Tables.Tables}
use Rattle.desk_model.specs.{Allowed.may_on, Limits.longest_csr, Limits.most_names, declared.payload.Identifier.Identifier, Tokens.NonceText}
use Rattle.desk_model.specs.{Tokens.from_base64url, Tokens.nonce_in, Payload.key_change, Payload.new_account, declared.entry.Entry.Entry}
use Rattle.desk_model.specs.{declared.entry.Move.Move, declared.payload.NewAccount.NewAccount, declared.payload.KeyChange.KeyChange}
use Rattle.desk_model.specs.{declared.verdict.Verdict.Verdict, declared.call.OfficeAsk.OfficeAsk, declared.entry.Entry.TheVariants.Ordered as ordered}
use Rattle.desk_model.specs.{declared.entry.Entry.TheVariants.Opened as opened, declared.call.Signed.Signed, declared.call.Target.Target}
use Rattle.model_laws.specs.{Later.IsLater, Ordered.IsOrdered}
use Rattle.model_laws.proofs.{RowLists.ascends_found, Finds.each_found}
use Rattle.model_lives.proofs.Judged.{OfAccount as by, OfOffice as way, OfRequest, office_judged, request_judged}
use Rattle.model_lives.proofs.PayloadTexts.{AsksWithTexts, ChangesToTexts, account_change_texts, new_account_texts}
use Rattle.model_lives.proofs.{KeyPayloads.ChangesToKey, KeyPayloads.key_change_formed, Names.wanted_fits}

-- the entry may be recorded by these tables
pub record MayRecord (T : Tables) (e : Entry) : Type 0 where
  pub later : IsLater e
  pub formed : IsFormed e
  pub allowed : IsTrue (may_on T e)

-- the entry of the verdict, if it has one, may be recorded
abbrev pub Records : List ℕ → Tables → Verdict → Type 0
Records r T (opens key contacts) = MayRecord T (opened key contacts)
Records r T (orders account wanted) = 16 * pieces_of (ordered account wanted) ≤ length r → MayRecord T (ordered account wanted)
Records r T (moves move) = MayRecord T (entry_of move)
Records r T _ = Unit {0}

-- what the verdict records may be recorded, where there are random bytes enough for it
pub record IsSound (r : List ℕ) (T : Tables) (v : Verdict) : Type 0 where
  pub records : Records r T v

-- ---- steps of verdicts

-- a move that may follow
move_sound : {r : List ℕ} {T : Tables} (move : Move) → IsLater (entry_of move) → IsFormed (entry_of move) → may_on T (entry_of move) ≡ true
    → IsSound r T (moves move)
move_sound move later formed may = record { records = record { later = later; formed = formed; allowed = may } }

-- ---- signed requests

-- the key of a key change is one that the desk accepts
new_key_formed : (p : List ℕ) (c : KeyChange) (key : List ℕ) → key_change p ≡ Some c → c.new_key ≡ Some key → IsKeyText key
new_key_formed p c key is there = subst (λ o. IfSome o IsKeyText) there (subst (λ o. IfSome o ChangesToKey) is (key_change_formed p))

-- an order of names without a fault
order_sound : (r : List ℕ) (T : Tables) (n : ℕ) (a : AccountRow) (ids : List Identifier) → IsOrdered T → account_on T n ≡ Some a
    → is_valid_account a.status ≡ true → has_length 1 most_names ids ≡ true → subproblems ids ≡ []
    → IsSound r T (orders n (wanted T n (kept (names_in ids)) r))
order_sound r T n a ids in_order found valid few pass = grind (arith, wanted_fits)

-- a CSR has its length
csr_length : (o : Option (List ℕ)) (csr : List ℕ) → option_and_then if_fits o ≡ Some csr → has_length 1 longest_csr csr ≡ true
csr_length o csr h = grind arith

-- a request of an account that is valid
account_way : (r : List ℕ) (T : Tables) (n : ℕ) (a : AccountRow) (p : List ℕ) (t : Target) (v : Verdict) → IsOrdered T → IsUtf8 p → account_on T n ≡ Some a
    → is_valid_account a.status ≡ true → by T r n p t v → IsSound r T v
account_way r T n a p t v in_order text found valid (by.key_changed c key is there free) =
    move_sound _ tt (new_key_formed p c key is there) (rw (found, free) (and_from _ _ valid refl))
account_way r T n a p t v in_order text found valid (by.ordered ids is few pass) = order_sound r T n a ids in_order found valid few pass
account_way r T n a p t v in_order text found valid (by.account_ended k here is) = move_sound _ tt tt (rw found valid)
account_way r T n a p t v in_order text found valid (by.contacts_changed k contacts here is pass) =
    move_sound _ tt (subst (λ o. IfSome o ChangesToTexts) is (account_change_texts p text)) (rw (found, pass) (and_from _ _ valid refl))
account_way r T n a p t v in_order text found valid (by.finalized k o asked csr there ready fits) =
    move_sound _ tt tt (rw there (and_from _ _ ready (csr_length (from_base64url asked) csr fits)))
account_way r T n a p t v in_order text found valid (by.authorization_ended k x there is live) = move_sound _ tt tt (rw there live)
account_way r T n a p t v in_order text found valid (by.challenge_answered k x there is open_one) = move_sound _ tt tt (rw there open_one)
account_way r T n a p t v in_order text found valid _ = record { records = tt }

-- an account that is found by its key is found by its number
pub key_number : (T : Tables) (key : List ℕ) (a : AccountRow) → IsOrdered T → account_with_key T key ≡ Some a → account_on T a.number ≡ Some a
key_number T key a in_order found = grind (arith, each_found, ascends_found)

-- an account of another key is opened
open_sound : (r : List ℕ) (T : Tables) (s : Signed) (key : List ℕ) (q : NewAccount) → IsFormedSigned s → s.key ≡ Ok key → account_with_key T key ≡ None
    → new_account s.payload ≡ Some q → contacts_fault q.contacts ≡ None → IsSound r T (opens key q.contacts)
open_sound r T s key q formed is none asked pass =
    record {
      records = record {
        later = tt;
        formed = (subst IsFormedKey is formed.key, subst (λ o. IfSome o AsksWithTexts) asked (new_account_texts s.payload formed.payload));
        allowed = rw (none, pass) refl;
      };
    }

-- by each way of a signed request
request_way : (r : List ℕ) (T : Tables) (s : Signed) (t : Target) (v : Verdict) → IsOrdered T → IsFormedSigned s → OfRequest T r s t v → IsSound r T v
request_way r T s t v in_order formed (OfRequest.unheld u why) = record { records = tt }
request_way r T s t v in_order formed (OfRequest.opened key q is none asked pass) = open_sound r T s key q formed is none asked pass
request_way r T s t v in_order formed (OfRequest.held u w key x is found valid way) =
    account_way r T x.number x s.payload t v in_order formed.payload (key_number T key x in_order found) valid way

-- a signed request
pub signed_sound : (r : List ℕ) (T : Tables) (s : Signed) → IsOrdered T → IsFormedSigned s → IsSound r T (signed_verdict T r s)
signed_sound r T s in_order formed = request_way r T s s.target (signed_verdict T r s) in_order formed (request_judged T r s)

-- ---- the other asks

-- by each way of what carries no nonce
office_way : (r : List ℕ) (T : Tables) (a : OfficeAsk) (v : Verdict) → IsFormedOfficeAsk a → way T a v → IsSound r T v
office_way r T a v formed (way.reported n finding x c outcome found there waits) = move_sound _ tt tt (rw (found, there) waits)
office_way r T a v formed (way.certified n bytes o found low high waits) = move_sound _ tt tt (rw found (and_from _ _ waits (and_from _ _ low high)))
office_way r T a v formed (way.failed n problem o found fits waits) = move_sound _ tt formed (rw found (and_from _ _ waits fits))
office_way r T a v formed (way.authorization_revoked n x found live) = move_sound _ tt tt (rw found live)
office_way r T a v formed (way.account_revoked n x found valid) = move_sound _ tt tt (rw found valid)
office_way r T a v formed _ = record { records = tt }

-- what carries no nonce
pub office_sound : (r : List ℕ) (T : Tables) (a : OfficeAsk) → IsFormedOfficeAsk a → IsSound r T (office_verdict T a)
office_sound r T a formed = office_way r T a (office_verdict T a) formed (office_judged T a)

-- ---- nonces

-- an open nonce that a call carries, in whatever form, stands in the tables
carried_serial : (T : Tables) (o : Option NonceText) (serial : ℕ) → open_nonce_in T o ≡ Some serial → is_some (nonce_on T serial) ≡ true
carried_serial T o serial h = grind arith

-- an open nonce that a text spells stands in the tables
pub open_serial : (T : Tables) (text : Option (List ℕ)) (serial : ℕ) → open_nonce T text ≡ Some serial → is_some (nonce_on T serial) ≡ true
open_serial T text serial h = carried_serial T (option_and_then nonce_in text) serial h
