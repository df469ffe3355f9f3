use Rattle.std.proofs.Common.{[], ◌∷◌, sym, ◌∙◌}
use Rattle.sql_read.specs.{declared.formats.Format.TheVariants.Second, LookUpFaults.IsOfMemory}
use Rattle.sql_read.proofs.{LookUpRows.meta_find, Readings.meta_reading, Results.fails_then}
use Rattle.sql_read.proofs.Looking.{finds_as, looked_failed, looked_made, query_as}
use Rattle.sql_read.proofs.meta.meta_row.Goals as goal

pub find_rows-requires : goal.find_rows-requires
find_rows-requires g c = query_as c.all.ensures (meta_reading Second).selecting

pub returns : goal.returns
returns g c =
    looked_made (λ T. T.meta ∷ []) (λ T has book. finds_as c.all.ensures (meta_find g.S.Store c.args.conn.now T has book)) c.in_ok-rows.ensures
    (λ T has book found. (
      c.last_row.ensures.row T.meta found,
      fails_then c.last_row.result {Q = IsOfMemory} c.last_row.ensures.none (λ fault none. absurd (let e = sym none ∙ found in cc)),
    ))

pub returns-in_err-rows : goal.returns-in_err-rows
returns-in_err-rows g c =
    looked_failed (λ T. T.meta ∷ []) (λ T has book. finds_as c.all.ensures (meta_find g.S.Store c.args.conn.now T has book)) c.in_err-rows.ensures
    c.from_residual.ensures.1
