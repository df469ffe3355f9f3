use Rattle.sqlite.proofs.StateLemmas.{survives_weaker}
use Rattle.sqlite.specs.Values.{bound}
use Rattle.sql_read.proofs.{Asking.stays_queried, Asking.unchanged_queried, MetFaults.query_met, Results.fails_then, Selecting.commits_none}
use Rattle.sql_read.proofs.rows.rows_by.Goals as goal

pub returns : goal.returns
returns g c =
    let text = c.args.text.now in
    let params = bound c.args.params.now in
    let r = c.query_all.result in
    let did = c.query_all.ensures in
    record {
      shown = did.ok;
      fails = did.err;
      met = λ clean. fails_then r (did.err clean) (λ e fails. query_met text params _ _ e c.requires fails);
      unchanged = λ clean. unchanged_queried r _ _ text params c.requires (did.ok clean);
      asks = record {
        survives = survives_weaker _ _ _ _ (λ _ db may. commits_none text params _ db c.requires may) did.survives;
        stays = λ clean. stays_queried r _ _ text params c.requires (did.ok clean) (did.err clean);
        idle = did.mode;
      };
    }
