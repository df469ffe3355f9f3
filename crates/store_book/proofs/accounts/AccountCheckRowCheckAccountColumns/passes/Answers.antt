use Rattle.store_book.proofs.Steps.{kept_more, up_to_more}
use Rattle.store_book.proofs.accounts.AccountCheckRowCheckAccountColumns.passes.Goals as goal

pub returns-clause-passed : goal.returns-clause-passed
returns-clause-passed c _ first rows so_far = (
  up_to_more (λ a. a.number) first.counter c.args.self.now.counter c.passes.new.self rows c.args.row.now (c.passes.ensures.counts c.if-not-passes.false)
      so_far.0,
  kept_more (λ a. a.number) rows c.args.row.now c.args.self.now.numbers c.push.new.self c.in_ok-push.ensures so_far.1,
  kept_more (λ a. a.key) rows c.args.row.now c.args.self.now.keys.items _
      (let item = c.in_ok-push-2.ensures.items in let clone = c.in_ok-clone.ensures in cc) so_far.2,
)
