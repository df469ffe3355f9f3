use Rattle.std.proofs.Common.{◌≡◌, map}
use Rattle.std.specs.Prelude.{Ok}
use Rattle.store_api.specs.{Finding.Finds, Needing.missings}
use Rattle.desk_model.specs.declared.rows.{AccountRow.AccountRow, AuthorizationRow.AuthorizationRow}
use Rattle.model_parts.specs.LookUps.{accounts_numbered}
use Rattle.store_api.proofs.minimal_part.add_missing_holders.Given as goal

abbrev pub invariant-loop-row : goal.invariant-loop-row
invariant-loop-row g l =
    Finds g.S.Kept.sight {A = Unit {0}} l.fn.source l.source (Ok tt) (λ T.
    missings (λ (x : AccountRow). x.number) (accounts_numbered T) (map (λ (r : AuthorizationRow). r.account) l.row-iterator) l.accounts
    ≡ missings (λ (x : AccountRow). x.number) (accounts_numbered T) (map (λ (r : AuthorizationRow). r.account) l.rows) l.fn.accounts)
