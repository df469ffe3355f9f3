use Rattle.std.proofs.{Common.rules, lemmas.Result.on_ok_weaker, lemmas.List.Sorted.answers_always, lemmas.List.Sorted.IsNonDecreasingBy-from_sort}
use Rattle.store_book.specs.FaultNumbers.{fault_number}
use Rattle.store_book.proofs.SortedFaults.{sorted-faults}
use Rattle.store_book.proofs.status_check.sort_faults.Goals as goal

pub returns : goal.returns
returns c =
    let keys = answers_always _ _ _ (λ f a r next called. search rules) in
    let stable = c.sort_by_key.ensures.stable fault_number keys in
    search (rules, on_ok_weaker, sorted-faults, IsNonDecreasingBy-from_sort)
