use Rattle.model_laws.proofs.Keeps.{reported_once, row_keys_differ, counters_fit, numbers_fit_counters, terms_in_limits, all_end, row_keys_formed}
use Rattle.model_laws.proofs.Keeps.{row_names_formed}
use Rattle.model_laws.proofs.{Dates.clock_in_time, Dates.no_date_later, Numbers.all_named, RowFacts.proved_by, TextFacts.hold_texts, FirstKeys.rows_under}
use Rattle.model_laws.proofs.legal_histories_keep.Goals as goal

pub returns : goal.returns
returns c =
    record {
      named = all_named;
      reported_once = reported_once;
      proved = proved_by;
      keys_differ = row_keys_differ;
      counters = counters_fit;
      numbers = numbers_fit_counters;
      terms = terms_in_limits;
      ends = all_end;
      keys = row_keys_formed;
      names = row_names_formed;
      dates = no_date_later;
      clock = clock_in_time;
      texts = hold_texts;
      first = rows_under;
    }
