use Rattle.model_laws.proofs.PutsDiffer.{swept_puts_differ, puts_differ, swept_puts_keep_children, puts_keep_children}
use Rattle.model_laws.proofs.{KeptInOrder.records_keep, NewChildren.records_bring_new_children, NewsInOrder.records_put_news}
use Rattle.model_laws.proofs.Recorded.{tables_ordered, challenges_ordered, sweep_makes, changes_make, recorded}
use Rattle.model_laws.proofs.changes_make_pictures.Goals as goal

pub returns : goal.returns
returns c =
    record {
      ordered = tables_ordered;
      challenges = challenges_ordered;
      sweep = sweep_makes;
      entry = changes_make;
      picture = recorded;
      sweep_differs = swept_puts_differ;
      entry_differs = puts_differ;
      news = records_put_news;
      sweep_children = swept_puts_keep_children;
      entry_children = puts_keep_children;
      kept = records_keep;
      fresh = records_bring_new_children;
    }
