use Rattle.std.proofs.Common.{ap, ◌∙◌}
use Rattle.sql_read.specs.Earliest.{authorization_ends}
use Rattle.sql_read.proofs.EarliestRows.{earliest_as, authorization_end_find}
use Rattle.sql_read.proofs.{LookUpReadings.authorization_end_reading, LookUpReadings.text, Looking.query_as}
use Rattle.sql_schema.specs.declared.authorizations.TheConstants as authz
use Rattle.sql_read.proofs.authorizations.earliest_authorization_end.Goals as goal

pub earliest-requires : goal.earliest-requires
earliest-requires g c = query_as c.text.ensures (authorization_end_reading c.args.status).selecting

pub returns : goal.returns
returns g c =
    c.earliest.ensures (λ T. authorization_ends T c.args.status) (λ T has.
    earliest_as (c.text.ensures ∙ ap (λ t. (authz.SELECT_EARLIEST.now, text t)) c.as_str.ensures)
    (authorization_end_find g.S.Store c.args.conn.now T has c.args.status))
