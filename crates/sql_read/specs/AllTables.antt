-- All tables, in the order in which they are read.
use Rattle.std.specs.Prelude.{◌⊎◌}
use Rattle.sqlite.specs.{Held.Held, Store.Ghosts, declared.error.Error.Error}
use Rattle.sql_read.specs.Failures.{FailsHere}
use Rattle.sql_read.specs.Spelled.{FitsAccount, FitsAuthorization, FitsChallenge, FitsKey, FitsListed, FitsMeta, FitsNonce, FitsOrder}
use Rattle.sql_schema.specs.declared.accounts.TheConstants as account
use Rattle.sql_schema.specs.declared.authorizations.TheConstants as authz
use Rattle.sql_schema.specs.declared.challenges.TheConstants as chall
use Rattle.sql_schema.specs.declared.keys.TheConstants as chall_key
use Rattle.sql_schema.specs.declared.meta.TheConstants as meta
use Rattle.sql_schema.specs.declared.nonces.TheConstants as nonce
use Rattle.sql_schema.specs.declared.orders.TheConstants as ord
use Rattle.sql_schema.specs.declared.listed.TheConstants as ord_authz

module _ {S : Type 0} (g : Ghosts S) (conn : Held S) where
  -- the reading of a table that both formats have failed so
  abbrev pub FailsAtFirst : Error → Type 0
  FailsAtFirst e =
      (((((FailsHere g conn meta.SELECT.now FitsMeta e ⊎ FailsHere g conn nonce.SELECT.now FitsNonce e)
      ⊎ FailsHere g conn account.SELECT.now FitsAccount e) ⊎ FailsHere g conn ord.SELECT.now FitsOrder e)
      ⊎ FailsHere g conn ord_authz.SELECT.now FitsListed e) ⊎ FailsHere g conn authz.SELECT.now FitsAuthorization e)
      ⊎ FailsHere g conn chall.SELECT.now FitsChallenge e

  -- and that of any
  abbrev pub FailsAtTable : Error → Type 0
  FailsAtTable e = FailsAtFirst e ⊎ FailsHere g conn chall_key.SELECT.now FitsKey e
