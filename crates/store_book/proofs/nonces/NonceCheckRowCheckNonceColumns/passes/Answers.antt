use Rattle.store_book.proofs.Steps.{up_to_more}
use Rattle.store_book.proofs.nonces.NonceCheckRowCheckNonceColumns.passes.Goals as goal

pub returns-clause-passed : goal.returns-clause-passed
returns-clause-passed c passes first rows so_far = up_to_more (λ n. n.serial) first.counter c.args.self.now.counter c.passes.new.self rows c.args.row.now
    (c.passes.ensures.counts passes) so_far
