use Rattle.std.proofs.Common.{None}
use Rattle.sqlite.specs.WalFiles.{image_at}
use Rattle.app_commands.proofs.Commands.{as_list, as_report}
use Rattle.app_commands.proofs.running.report_on.Goals as goal

pub returns-in-About : goal.returns-in-About
returns-in-About g c = as_report _ _ None _ _ c.args.report _ _ _ c.in-About.is c.about_file.ensures

pub returns-in-Page : goal.returns-in-Page
returns-in-Page g c = as_report _ _ None _ _ c.args.report _ _ _ c.in-Page.is c.show_page.ensures

pub returns-in-Orders : goal.returns-in-Orders
returns-in-Orders g c =
    as_report _ _ None _ _ c.args.report _ _ _ c.in-Orders.is
    (as_list _ (image_at g.S.Start) None _ _ _ _ _ _ c.order_filter-filter.result _ _ c.order_filter-filter.ensures.asked c.order_filter-filter.ensures.unasked
    c.list_asked.ensures (λ filter asks does. record { filter = filter; asks = asks; ends = does }))

pub returns-in-Accounts : goal.returns-in-Accounts
returns-in-Accounts g c = as_report _ _ None _ _ c.args.report _ _ _ c.in-Accounts.is c.list_over.ensures

pub returns-in-Authorizations : goal.returns-in-Authorizations
returns-in-Authorizations g c =
    as_report _ _ None _ _ c.args.report _ _ _ c.in-Authorizations.is
    (as_list _ (image_at g.S.Start) None _ _ _ _ _ _ c.authorization_filter-filter.result _ _ c.authorization_filter-filter.ensures.asked
    c.authorization_filter-filter.ensures.unasked c.list_asked-in-Authorizations.ensures
    (λ filter asks does. record { filter = filter; asks = asks; ends = does }))

pub returns-in-Check : goal.returns-in-Check
returns-in-Check g c = as_report _ _ None _ _ c.args.report _ _ _ c.in-Check.is c.check_file.ensures
