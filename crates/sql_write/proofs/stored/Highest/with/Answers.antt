use Rattle.std.proofs.Common.{◌++◌, ◌∷◌, [], arith, refl, rules, subst, sym}
use Rattle.desk_model.specs.declared.rows.{AccountRow.AccountRow, AuthorizationRow.AuthorizationRow, OrderRow.OrderRow}
use Rattle.desk_model.specs.declared.rows.Change.TheVariants.{PutAccount, PutAuthorization, PutOrder}
use Rattle.sql_write.specs.{Highest.IsAbove, declared.stored.Highest.Highest}
use Rattle.sql_write.proofs.StoredRows.{above_more, put_below}
use Rattle.sql_write.proofs.stored.Highest.with.Goals as goal

pub returns-in-PutAccount : goal.returns-in-PutAccount
returns-in-PutAccount c before =
    let row = c.in-PutAccount.row in
    let new : Highest = record { accounts = c.max.result; authorizations = c.args.self.authorizations; orders = c.args.self.orders } in
    subst (λ change. IsAbove c.args.self before → IsAbove new (before ++ change ∷ [])) (sym c.in-PutAccount.is)
    (above_more c.args.self new before (PutAccount row) (search rules) (omega arith) (omega arith)
    (λ T n high. put_below (λ (r : AccountRow). r.number) row new.accounts (search rules) T.accounts n high)
    (λ T n high. refl)
    (λ T n high. refl))

pub returns-in-PutAuthorization : goal.returns-in-PutAuthorization
returns-in-PutAuthorization c before =
    let row = c.in-PutAuthorization.row in
    let new : Highest = record { accounts = c.args.self.accounts; authorizations = c.max-in-PutAuthorization.result; orders = c.args.self.orders } in
    subst (λ change. IsAbove c.args.self before → IsAbove new (before ++ change ∷ [])) (sym c.in-PutAuthorization.is)
    (above_more c.args.self new before (PutAuthorization row) (omega arith) (search rules) (omega arith)
    (λ T n high. refl)
    (λ T n high. put_below (λ (r : AuthorizationRow). r.number) row new.authorizations (search rules) T.authorizations n high)
    (λ T n high. refl))

pub returns-in-PutOrder : goal.returns-in-PutOrder
returns-in-PutOrder c before =
    let row = c.in-PutOrder.row in
    let new : Highest = record { accounts = c.args.self.accounts; authorizations = c.args.self.authorizations; orders = c.max-in-PutOrder.result } in
    subst (λ change. IsAbove c.args.self before → IsAbove new (before ++ change ∷ [])) (sym c.in-PutOrder.is)
    (above_more c.args.self new before (PutOrder row) (omega arith) (omega arith) (search rules)
    (λ T n high. refl)
    (λ T n high. refl)
    (λ T n high. put_below (λ (r : OrderRow). r.number) row new.orders (search rules) T.orders n high))
