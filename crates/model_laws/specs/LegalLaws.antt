-- What every legal history keeps.
use Rattle.std.specs.Prelude.{ℕ, ◌+◌, ◌≤◌, ◌≡◌, Bool, IsTrue, length, is_some}
use Rattle.std.specs.List.{filter, list_any}
use Rattle.desk_model.specs.{Authorization.is_good, Authorization.report, Authorization.reporting, Authorization.when_proved, BaseName.is_base_name}
use Rattle.desk_model.specs.{Entry.History, Keys.IsKeyText, Lookup.holds, Terms.are_terms, Texts.HoldTexts, Kept.EachOf, History.clock, History.terms}
use Rattle.desk_model.specs.{Legal.EachFollows, Legal.Legal, Legal.numbers_fit, Limits.last_end, Limits.last_moment, Limits.last_number, Tables.Tables}
use Rattle.desk_model.specs.{Tables.tables_at, declared.entry.Dated.Dated, declared.objects.Authorization.Authorization, declared.rows.Counters.Counters}
use Rattle.model_laws.specs.{DateLaws.AreDatedBy, Distinct.Distinct, FirstLaws.AreUnderKeysNow, FirstLaws.KeepsKeys, Given.counts, Given.NamesGiven}

-- the entry reports on the challenge
abbrev pub reports_on : ℕ → Dated → Bool
reports_on challenge d = is_some (reporting challenge d.entry d.date)

-- no counter is above the greatest number that may be given
pub record CountersFit (C : Counters) : Type 0 where
  pub nonces : C.nonces ≤ last_number
  pub accounts : C.accounts ≤ last_number
  pub orders : C.orders ≤ last_number
  pub authorizations : C.authorizations ≤ last_number
  pub challenges : C.challenges ≤ last_number

-- nothing lives longer
pub record EndsInTime (T : Tables) : Type 0 where
  pub nonces : EachOf (λ n. n.issued + T.meta.policy.nonce_life ≤ last_end) T.nonces
  pub authorizations : EachOf (λ a. a.expires ≤ last_end) T.authorizations
  pub orders : EachOf (λ o. o.expires ≤ last_end) T.orders

-- what holds of every legal history, whatever was recorded
pub record LegalHistoriesKeep : Type 0 where
  -- each entry names only numbers that were given
  pub named : (F : History) → EachFollows F → EachOf (λ d. NamesGiven (counts F) d.entry) F
  -- a challenge is reported on at most once
  pub reported_once : (F : History) → EachFollows F → (challenge : ℕ) → length (filter (reports_on challenge) F) ≤ 1
  -- an authorization was proved exactly where the report on one of its challenges is good
  pub proved :
      (a : Authorization) (F : History) → EachFollows F →
      is_some (when_proved a F) ≡ list_any (λ c. holds (λ r. is_good r.outcome) (report c.number F)) a.challenges
  -- no two accounts have the same key
  pub keys_differ : (F : History) → EachFollows F → (t : ℕ) → Distinct (λ a. a.key) (tables_at F t).accounts
  -- where the numbers fit, so do the counters
  pub counters : (F : History) → IsTrue (numbers_fit F) → (t : ℕ) → CountersFit (tables_at F t).meta.counters
  -- where the counters fit, so do the numbers
  pub numbers : (F : History) (t : ℕ) → CountersFit (tables_at F t).meta.counters → IsTrue (numbers_fit F)
  -- a desk is made with terms within their limits
  pub terms : (F : History) → Legal F → IsTrue (are_terms (terms F))
  -- nothing of a legal history lives longer
  pub ends : (F : History) → EachFollows F → (t : ℕ) → EndsInTime (tables_at F t)
  -- the key of each account is a canonical text
  pub keys : (F : History) → EachFollows F → (t : ℕ) → EachOf (λ a. IsKeyText a.key) (tables_at F t).accounts
  -- the name of each authorization is well formed
  pub names : (F : History) → EachFollows F → (t : ℕ) → EachOf (λ a. IsTrue (is_base_name a.name.base)) (tables_at F t).authorizations
  -- no row has a date after the latest recorded moment
  pub dates : (F : History) (t : ℕ) → AreDatedBy (clock F) (tables_at F t)
  -- and that moment is not after the last of all
  pub clock : (F : History) → EachFollows F → clock F ≤ last_moment
  -- each text that the rows hold is UTF-8
  pub texts : (F : History) → EachFollows F → (t : ℕ) → HoldTexts (tables_at F t)
  -- where no account got another key, each answer was under the key that its account has now
  pub first : (F : History) → EachFollows F → KeepsKeys F → (t : ℕ) → AreUnderKeysNow (tables_at F t)
