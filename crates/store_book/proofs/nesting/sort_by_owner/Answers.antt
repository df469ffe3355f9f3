use Rattle.std.proofs.{Common.rules, lemmas.List.Sorted.answers_always}
use Rattle.store_book.proofs.nesting.sort_by_owner.Goals as goal

pub returns-clause-sorted : goal.returns-clause-sorted
returns-clause-sorted g c = c.sort_unstable_by_key.ensures.sorted
    (λ r. (r.owner, g.R.Row.number r.row)) (answers_always _ _ _ (λ f a r next called. search rules))
