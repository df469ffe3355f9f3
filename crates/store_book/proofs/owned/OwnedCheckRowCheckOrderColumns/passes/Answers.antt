use Rattle.store_book.proofs.{Steps.owned_fine, Steps.owned_more, Results.told_by}
use Rattle.store_book.proofs.owned.OwnedCheckRowCheckOrderColumns.passes.Goals as goal

pub returns-clause-passed : goal.returns-clause-passed
returns-clause-passed c =
    let took = c.takes.ensures in
    told_by c.takes.result
    (owned_more (λ o. o.number) (λ o. o.account) c.args.row.now c.args.self.now.counter c.takes.new.self.counter c.args.self.now.owners.now
    c.takes.new.self.owners.now c.args.self.now.numbers c.takes.new.self.numbers c.takes.result took.counts took.numbers took.among took.owners)
    (λ passes so is first rows so_far. so is first.counter first.owners.now rows so_far)

pub returns-clause-fine : goal.returns-clause-fine
returns-clause-fine c =
    told_by c.takes.result (owned_fine (λ o. o.number) (λ o. o.account) c.args.row.now c.args.self.now.counter c.args.self.now.owners.now
    c.args.self.now.numbers c.takes.result c.takes.ensures.fine)
    (λ passes so first rows rest so_far are. so first.counter first.owners.now rows rest so_far are.0 are.1.table are.1.accounts_found)
