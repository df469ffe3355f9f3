use Rattle.std.proofs.Common.{subst, sym, ◌∙◌, rules}
use Rattle.model_laws.specs.Distinct.{Distinct}
use Rattle.model_laws.proofs.Distinctness.{distinct-map, map-distinct}
use Rattle.store_book.proofs.Steps.{whole_table}
use Rattle.store_book.proofs.accounts.AccountCheckRowCheckAccountColumns.finish.Goals as goal

pub returns-clause-whole : goal.returns-clause-whole
returns-clause-whole c first rows so_far = search (rules, whole_table, map-distinct)

pub returns-then-not-branch-clause-fine : goal.returns-then-not-branch-clause-fine
returns-then-not-branch-clause-fine c first rows so_far are =
    let apart = subst (Distinct (λ k. k)) (sym so_far.2) (distinct-map (λ k. k) (λ a. a.key) rows are.keys) in
    absurd (let x = sym c.if-not-branch.true ∙ c.in_ok-have_distinct_texts.ensures.1 (subst (Distinct (λ k. k)) (sym c.deref.ensures.value) apart) in cc)
