use Rattle.std.proofs.Common.{inl, inr}
use Rattle.app_commands.proofs.Small.{small_words}
use Rattle.app_commands.proofs.running.run_words.Goals as goal

pub returns-in-Ok : goal.returns-in-Ok
returns-in-Ok g c = record { small = c.run_asked.ensures.small; ends = inl (c.in-Ok.asked.command, c.run_asked.ensures.ends) }

pub returns-in-Err : goal.returns-in-Err
returns-in-Err g c = record {
  small = small_words c.in-Err.fault _ _ c.tell_words.result c.tell_words.ensures;
  ends = inr (c.in-Err.fault, c.tell_words.ensures);
}
