use Rattle.std.proofs.Common.{subst, rules}
use Rattle.store_book.specs.BookRows.{IsAmong}
use Rattle.store_book.proofs.Steps.{answered_more, counts_on, each_at, each_more, up_to_more}
use Rattle.store_book.proofs.owned.ChallengeCheckRowCheckChallColumns.passes.Goals as goal

pub returns-clause-passed : goal.returns-clause-passed
returns-clause-passed c _ first rows so_far = (
  up_to_more (λ k. k.row.number) first.counter c.args.self.now.counter c.passes.new.self rows c.args.row.now (c.passes.ensures.counts c.if-not-passes.false)
      so_far.0,
  answered_more rows c.args.row.now c.args.self.now.answered c.push_answered.new.numbers c.in_ok-push_answered.ensures so_far.1,
  so_far.2,
  each_more (λ k. IsAmong first.authorizations.now k.owner) rows c.args.row.now so_far.3
      (subst (λ l. IsAmong l c.args.row.now.owner) so_far.2 (c.has.ensures.among c.if-not-has.false)),
)

pub returns-then-not-passes-clause-fine : goal.returns-then-not-passes-clause-fine
returns-then-not-passes-clause-fine c first rows rest so_far are = search (rules, counts_on, each_at)
