use Rattle.std.proofs.Common.{refl}
use Rattle.app_commands.proofs.Commands.{as_command}
use Rattle.app_commands.proofs.running.try_command.Goals as goal

pub returns-in-Make : goal.returns-in-Make
returns-in-Make g c = as_command _ _ _ _ _ c.args.command _ _ _ c.in-Make.is c.make_file.ensures

pub returns-in-Serve : goal.returns-in-Serve
returns-in-Serve g c = as_command _ _ _ _ _ c.args.command _ _ _ c.in-Serve.is c.serve_file.ensures

pub returns-in-Report : goal.returns-in-Report
returns-in-Report g c = as_command _ _ _ _ _ c.args.command _ _ _ c.in-Report.is c.report_on.ensures

pub returns-in-Look : goal.returns-in-Look
returns-in-Look g c = as_command _ _ _ _ _ c.args.command _ _ _ c.in-Look.is (c.look_served.ensures, refl)

pub returns-in-BackUp : goal.returns-in-BackUp
returns-in-BackUp g c = as_command _ _ _ _ _ c.args.command _ _ _ c.in-BackUp.is c.back_up.ensures

pub returns-in-BackUpServed : goal.returns-in-BackUpServed
returns-in-BackUpServed g c = as_command _ _ _ _ _ c.args.command _ _ _ c.in-BackUpServed.is c.back_up_served.ensures

pub returns-in-Restore : goal.returns-in-Restore
returns-in-Restore g c = as_command _ _ _ _ _ c.args.command _ _ _ c.in-Restore.is c.restore.ensures

pub returns-in-Revoke : goal.returns-in-Revoke
returns-in-Revoke g c = as_command _ _ _ _ _ c.args.command _ _ _ c.in-Revoke.is c.revoke_over.ensures

pub returns-in-RevokeServed : goal.returns-in-RevokeServed
returns-in-RevokeServed g c = as_command _ _ _ _ _ c.args.command _ _ _ c.in-RevokeServed.is (c.revoke_served.ensures, refl)
