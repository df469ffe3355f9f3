-- The texts that a history keeps are UTF-8.
use Rattle.std.proofs.Common.{◌≡◌, ℕ, [], ◌∷◌, IsUtf8, IfSome, true, arith}
use Rattle.std.proofs.{lemmas.Bool.and_parts, lemmas.Str.IsUtf8-nil, lemmas.Bool.Decides.nat_tests}
use Rattle.desk_model.specs.{Account.accounts, Account.changing, Account.key_of, Entry.History, History.terms, Kept.EachOf}
use Rattle.desk_model.specs.{Keys.IsKeyText, Terms.are_terms, Legal.EachFollows, Legal.IsFormed, Legal.is_empty, Legal.may_follow, Order.failing, Order.failure}
use Rattle.desk_model.specs.{Tables.account_row, Tables.tables_at, Texts.AreTexts, Texts.IsTextProblem, Texts.HoldsTextAccount, Texts.HoldTexts}
use Rattle.desk_model.specs.declared.{entry.Entry.Entry, objects.Account.Account, rows.DatedProblem.DatedProblem, entry.Entry.TheVariants.Made as made}
use Rattle.model_laws.proofs.Basics.{each, each_all, each_both, each-append, each-map}
use Rattle.model_laws.proofs.{AsciiTexts.base_text, AsciiTexts.base_name_text, AsciiTexts.key_text, Keeps.each_formed, Keeps.keys_now_formed}
use Rattle.model_laws.proofs.{Keeps.names_formed, StatedFacts.first_holds, StatedFacts.latest_holds, StatedFacts.now_holds}

-- ---- accounts

-- each account is opened with texts
accounts_open : (F : History) → EachFollows F → EachOf (λ a. AreTexts a.contacts) (accounts F)
accounts_open [] h = tt
accounts_open (e ∷ F) h = grind (arith, each-append, (accounts_open F h.1))

-- an entry changes contacts to texts
changing_keeps : (n : ℕ) (entry : Entry) → IsFormed entry → IfSome (changing n entry) AreTexts
changing_keeps n entry h = grind arith

-- the row of an account holds texts
account_row_holds : (F : History) → EachFollows F → (a : Account) → AreTexts a.contacts → IsKeyText (key_of a F) → HoldsTextAccount (account_row F a)
account_row_holds F h a held keyed =
    record {
      canonical = key_text (key_of a F) keyed;
      contact = now_holds AreTexts _ a.contacts
          (latest_holds AreTexts _ F (each _ _ F (λ d formed. changing_keeps a.number d.entry formed) (each_formed F h))) held;
    }

-- ---- orders

-- an entry fails an order by texts
failing_keeps : (n : ℕ) (entry : Entry) (m : ℕ) → IsFormed entry → IfSome (failing n entry m) (λ (f : DatedProblem). IsTextProblem f.problem)
failing_keeps n entry m h = grind arith

-- why an order failed is told in texts
failure_keeps : (F : History) → EachFollows F → (n : ℕ) → IfSome (failure n F) (λ (f : DatedProblem). IsTextProblem f.problem)
failure_keeps F h n = first_holds _ _ F (each _ _ F (λ d formed. failing_keeps n d.entry d.date formed) (each_formed F h))

-- ---- the base

-- the base of a desk's URLs is a text
base_keeps : (F : History) → EachFollows F → IsUtf8 (terms F).base
base_keeps [] h = IsUtf8-nil
base_keeps (e ∷ F) h = by e.entry h.0.allowed (base_keeps F h.1)
  where
    by : (entry : Entry) → may_follow F entry e.date ≡ true → IsUtf8 (terms F).base → IsUtf8 (terms (record { date = e.date; entry = entry } ∷ F)).base
    by (made t) may before = base_text t (and_parts (is_empty F) (are_terms t) may).1
    by _ may before = before

-- ---- tables

-- the rows of a history hold texts
pub hold_texts : (F : History) → EachFollows F → (t : ℕ) → HoldTexts (tables_at F t)
hold_texts F h t = record {
  meta = base_keeps F h;
  accounts = each-map _ (account_row F) (accounts F)
      (each _ _ (accounts F) (λ a p. account_row_holds F h a p.0 p.1) (each_both _ _ (accounts F) (accounts_open F h) (keys_now_formed F h)));
  authorizations = grind (arith, nat_tests, each-map, each, base_name_text, names_formed);
  orders = grind (arith, nat_tests, each-map, each_all, failure_keeps);
}
