use Rattle.std.proofs.Common.{None, Some, ap, refl}
use Rattle.app_words.specs.declared.command.Command.TheVariants as command
use Rattle.app_commands.proofs.Commands.{as_command}
use Rattle.app_commands.proofs.running.answer_lines.Goals as goal

pub returns-in-Some : goal.returns-in-Some
returns-in-Some g c =
    as_command _ _ _ _ _ (command.Batch c.args.file) (command.Batch (Some c.in-Some.file)) _ _ (ap command.Batch c.in-Some.is) c.run_over_file.ensures

pub returns-in-None : goal.returns-in-None
returns-in-None g c =
    as_command _ _ _ _ _ (command.Batch c.args.file) (command.Batch None) _ _ (ap command.Batch c.in-None.is) (c.answer_in_memory.ensures, refl)
