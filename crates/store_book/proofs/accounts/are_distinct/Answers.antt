use Rattle.std.proofs.{Common.rules, Common.is_lt, lemmas.List.Sorted.answers_always}
use Rattle.store_book.proofs.Distinctness.{distinct-answer}
use Rattle.store_book.proofs.accounts.are_distinct.Goals as goal

pub returns : goal.returns
returns g c =
    distinct-answer g.K.Ord.cmp g.met.K.Ord.total c.args.keys.items c.sort_unstable.new.self.items c.sort_unstable.ensures.permutation
    c.sort_unstable.ensures.sorted c.is_sorted_by.result
    (rw c.deref.ensures.value at (c.is_sorted_by.ensures.cases (λ x y. is_lt (g.K.Ord.cmp x y)) (answers_always _ _ _ (λ f a r next called. search rules))))
