-- A nonce serves once.
use Rattle.std.proofs.Common.{◌≡◌, ℕ, List, ◌∷◌, ◌++◌, Option, Some, None, refl, ◌∙◌, subst, true, drop, arith}
use Rattle.std.proofs.lemmas.Bool.{eq-eqb}
use Rattle.std.specs.Prelude.{is_some}
use Rattle.desk_model.specs.Decide.{after, nonce_entries, passed_decision, signed_decision, tables_after}
use Rattle.desk_model.specs.Life.{Replied, history, Passed, NoncesServeOnce}
use Rattle.desk_model.specs.{Entry.History, Questions.nonce_on, declared.entry.Entry.TheVariants.Spent as spent, declared.verdict.Verdict.Verdict}
use Rattle.desk_model.specs.{declared.call.Call.Call, declared.call.Signed.Signed, History.record_all, History.moment_of, History.first, Nonce.when_spent}
use Rattle.desk_model.specs.{Nonce.spending, Tables.Tables, Tables.tables_at, Tokens.NonceText, Tokens.nonce_in, Rules.open_nonce, Rules.signed_verdict}
use Rattle.model_laws.proofs.{AllowedFacts.allowed, Finds.found_passes}
use Rattle.model_lives.proofs.{Sound.open_serial, Extends.Extends, Extends.extends_earlier, Extends.first-extends}

-- the nonce was spent
pub record IsSpent (serial : ℕ) (F : History) : Type 0 where
  pub date : ℕ
  pub is : when_spent serial F ≡ Some date

-- what was spent stays spent
spent_stays : (serial : ℕ) (F G : History) → Extends F G → IsSpent serial F → IsSpent serial G
spent_stays serial F G p s = record { date = s.date; is = first-extends (λ e. spending serial e.entry e.date) F G s.date p s.is }

-- a spent nonce is not open
spent_shut : (F : History) (m serial : ℕ) → IsSpent serial F → is_some (nonce_on (tables_at F m) serial) ≡ true → ⊥
spent_shut F m serial s h = grind (arith, found_passes, (allowed F (spent serial) m tt ∙ h))

-- the serial of the open nonce that a text spells
serial_in : (T : Tables) (text : List ℕ) → is_some (open_nonce T (Some text)) ≡ true →
    (t : NonceText) × (nonce_in text ≡ Some t) × (open_nonce T (Some text) ≡ Some t.serial)
serial_in T text h = grind arith

-- after the entries of its nonce a request's nonce is spent
spent_after_nonces : (F : History) (m : ℕ) (serial : ℕ) (random : List ℕ) → IsSpent serial (record_all m (nonce_entries serial random) F)
spent_after_nonces F m serial random = by (when_spent serial F) refl
  where
    by : (o : Option ℕ) → when_spent serial F ≡ o → IsSpent serial (record_all m (nonce_entries serial random) F)
    by (Some d) e = record { date = d; is = rw (e, eq-eqb serial serial refl) refl }
    by None e = record { date = m; is = rw (e, eq-eqb serial serial refl) refl }

-- and after all of its entries
passed_spends : (F : History) (m : ℕ) (serial : ℕ) (random : List ℕ) (v : Verdict) →
    IsSpent serial (record_all m (passed_decision F m random serial v).entries F)
passed_spends F m serial random v = grind (arith, (spent_after_nonces F m serial random))

-- a signed request with an open nonce spends it
signed_spends : (F : History) (m : ℕ) (serial : ℕ) (random : List ℕ) (s : Signed) (o : Option ℕ) → o ≡ Some serial →
    IsSpent serial (record_all m (signed_decision F m random s o).entries F)
signed_spends F m serial random s None e = cc
signed_spends F m serial random s (Some k) e =
    grind (arith, (passed_spends F m serial random (signed_verdict (tables_after m (nonce_entries serial random) F) (drop 16 random) s)))

-- a call that has passed spends its nonce
call_spends : (F : History) (call : Call) (text : List ℕ) (serial : ℕ) → Passed F call text →
    open_nonce (tables_at F (moment_of call.at F)) (Some text) ≡ Some serial →
    IsSpent serial (after F call)
call_spends F call text serial passed opens = grind (arith, signed_spends)

-- no nonce serves twice
pub nonces_serve_once : NoncesServeOnce
nonces_serve_once start later middle before first second reply other text life one two =
    let F : History = history start before in
    let G : History = history start (middle ++ Replied first reply ∷ before) in
    let (t, reads, opens) = serial_in (tables_at F (moment_of first.at F)) text one.open_at in
    let (u, reads_again, opens_again) = serial_in (tables_at G (moment_of second.at G)) text two.open_at in
    let same : t ≡ u = cc in
    let spent_one : IsSpent t.serial G =
    spent_stays t.serial (after F first) G (extends_earlier start middle (Replied first reply ∷ before))
    (call_spends F first text t.serial one opens) in
    spent_shut G (moment_of second.at G) u.serial (subst (λ (x : NonceText). IsSpent x.serial G) same spent_one)
    (open_serial (tables_at G (moment_of second.at G)) (Some text) u.serial opens_again)
