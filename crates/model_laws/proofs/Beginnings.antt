-- What entries are added to keeps its numbers in their limits.
use Rattle.std.proofs.{Common.ℕ, Common.List, Common.[], Common.◌∷◌, Common.arith, Common.length-append, lemmas.Bool.Decides.nat_tests}
use Rattle.std.specs.Prelude.{IsTrue}
use Rattle.desk_model.specs.Legal.{Legal, numbers_fit}
use Rattle.desk_model.specs.{Entry.History, declared.entry.Dated.Dated, declared.entry.Entry.Entry, History.record_all}
use Rattle.model_laws.proofs.{Numbers.count-append, Step.follows_before}

-- where the numbers fit after an entry, they fitted before it
fitted : (e : Dated) (F : History) → IsTrue (numbers_fit (e ∷ F)) → IsTrue (numbers_fit F)
fitted e F h = grind (arith, nat_tests, length-append, count-append)

-- and before several
fitted_all : (m : ℕ) (es : List Entry) (F : History) → IsTrue (numbers_fit (record_all m es F)) → IsTrue (numbers_fit F)
fitted_all m [] F h = h
fitted_all m (e ∷ es) F h = fitted (record { date = m; entry = e }) F (fitted_all m es (record { date = m; entry = e } ∷ F) h)

-- between a legal history and a longer one, each is legal
pub legal_between : (F : History) (e : Entry) (es : List Entry) (m : ℕ) → Legal F → Legal (record_all m (e ∷ es) F) →
    Legal (record { date = m; entry = e } ∷ F)
legal_between F e es m before after = grind (arith, follows_before, fitted_all)
