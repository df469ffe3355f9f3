-- Each moment that the tables of a history may show has a text.
use Rattle.std.proofs.Common.{ℕ, [], ◌∷◌, arith}
use Rattle.desk_model.specs.{Authorization.report, Entry.History, Legal.EachFollows, Tables.tables_at}
use Rattle.model_laws.proofs.{Basics.each, Basics.each_all, Basics.each-map, Keeps.all_end, Keeps.authorizations_end}
use Rattle.desk_core.specs.HasTexts.{HasTexts}
use Rattle.core_replies.specs.Shown.{HasDatedReport}

-- a report has the date of its entry
pub reports_dated : (F : History) → EachFollows F → (n : ℕ) → HasDatedReport (report n F)
reports_dated [] h n = tt
reports_dated (e ∷ F) h n = grind (arith, (reports_dated F h.1 n))

-- and so in the rows, which end in time
pub have_texts : (F : History) → EachFollows F → (t : ℕ) → HasTexts (tables_at F t)
have_texts F h t = grind (arith, each-map, each, each_all, reports_dated, authorizations_end, (all_end F h t))
