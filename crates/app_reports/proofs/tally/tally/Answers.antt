use Rattle.std.proofs.Common.{rules, ◌≡◌, ◌∙◌, ◌∷◌, ◌+◌, ◌-◌, ◌^◌, ap, arith, cond, min, replicate, subst, sym}
use Rattle.std.specs.Prelude.{◌==◌, slice_index}
use Rattle.model_parts.specs.Above.{above}
use Rattle.store_passes.proofs.{Alls.books_in_order, Rows.all_above}
use Rattle.store_passes.specs.Left.{IsRowAfter}
use Rattle.app_reports.proofs.Counting.{counts_more, counts_none, zeros}
use Rattle.app_reports.proofs.tally.tally.Goals as goal

-- all rows are above 0
pub loop-row-init : goal.loop-row-init
loop-row-init g c = record {
  unchanged = search rules;
  counted = λ honest T holds.
      let ascends = g.met.R.PassedRow.ascends T (books_in_order T (g.met.K.RowsAbove.books c.args.source.now T holds)) in
      let rows = g.R.PassedRow.rows T in
      counts_none g.R.Stated.place rows (above g.R.Row.number 0 rows) (replicate 6 0) (all_above g.R.Row.number 0 1 rows (omega arith) ascends) (zeros 6);
}

-- the next row is counted
pub loop-row-preserved : goal.loop-row-preserved
loop-row-preserved g c = record {
  unchanged = search rules;
  counted = λ honest T holds.
      let row_honest = c.in_ok-row.ensures.reads.honest honest in
      let had = c.loop-row.invariant.unchanged.tables row_honest T holds in
      let rows = g.R.PassedRow.rows T in
      let next = subst (IsRowAfter g.R.Row.number rows c.loop-row.above) c.in-Some.is (c.in_ok-row.ensures.next honest T had) in
      counts_more g.R.Stated.place rows (above g.R.Row.number c.loop-row.above rows) (above g.R.Row.number c.number-above.result rows) c.in-Some.row
      c.loop-row.counts c.raise.new.counts (c.loop-row.invariant.counted row_honest T holds)
      (next ∙ ap (λ n. c.in-Some.row ∷ above g.R.Row.number n rows) (sym c.number-above.ensures))
      (λ k. subst (λ p. slice_index c.raise.new.counts k ≡ cond (p == k) (min (slice_index c.loop-row.counts k + 1) (2 ^ 64 - 1))
      (slice_index c.loop-row.counts k)) c.place.ensures.place (c.raise.ensures k));
}
