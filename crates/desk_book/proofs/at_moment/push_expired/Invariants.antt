use Rattle.std.proofs.Common.{◌≡◌, ◌++◌, map, filter}
use Rattle.desk_model.specs.{Change.authorizations_expired, Effect.is_overdue}
use Rattle.desk_model.specs.declared.rows.{AuthorizationRow.AuthorizationRow, Change.TheVariants.PutAuthorization}
use Rattle.desk_model.specs.declared.status.AuthzStatus.TheVariants as authz
use Rattle.desk_book.proofs.at_moment.push_expired.Given as goal

abbrev pub invariant-loop-row : goal.invariant-loop-row
invariant-loop-row l =
    l.changes.items ++ map PutAuthorization (map (λ (r : AuthorizationRow). record r { status = authz.Expired }) (filter (is_overdue l.moment) l.row-iterator))
    ≡ l.fn.changes.items ++ map PutAuthorization (authorizations_expired l.moment l.book)
