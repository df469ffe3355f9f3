use Rattle.std.proofs.Common.{None}
use Rattle.app_tasks.specs.GivenTerms.{terms_of}
use Rattle.app_commands.proofs.Commands.{as_made}
use Rattle.app_commands.proofs.running.make_file.Goals as goal

pub returns-in-Ok-Some : goal.returns-in-Ok-Some
returns-in-Ok-Some g c =
    as_made _ _ None _ _ c.in-Ok-Some.field-0 c.in-Ok-Some.policy (terms_of c.args.terms) _ _ _ c.in-Ok-Some.field-0-is c.in-Ok-Some.ensures.told
    c.make_desk-made.ensures c.tell_made.ensures
