-- Tables of a desk in format 1 that an upgrade reads.
use Rattle.sqlite.specs.{Held.Held, Held.state, Store.Ghosts}
use Rattle.store_columns.specs.Flat.{challenge_rows}
use Rattle.desk_model.specs.Tables.{Tables}
use Rattle.sql_schema.specs.declared.accounts.TheConstants as account
use Rattle.sql_schema.specs.declared.authorizations.TheConstants as authz
use Rattle.sql_schema.specs.declared.challenges.TheConstants as chall
use Rattle.sql_tables.specs.{Holds.HoldsFirst, Layouts.challenge_layout, Sorted.sorted_by}
use Rattle.sql_read.specs.{Selecting.IsQuery, declared.formats.Format.TheVariants.First}
use Rattle.sql_read.proofs.Readings.{accounts_reading, authorizations_reading, challenges_reading}
use Rattle.sql_read.proofs.TableFacts.{account_facts, authorization_facts, challenge_facts}
use Rattle.sql_read.proofs.WholeTables.{IsWhole, accounts_whole, authorizations_whole, challenges_whole}

-- each of their statements is a query
pub accounts_selected : IsQuery account.SELECT.now
accounts_selected = (accounts_reading First).selecting

pub authorizations_selected : IsQuery authz.SELECT.now
authorizations_selected = (authorizations_reading First).selecting

pub challenges_selected : IsQuery chall.SELECT.now
challenges_selected = (challenges_reading First).selecting

-- and shows the whole table
module _ {S : Type 0} (g : Ghosts S) (here : Held S) (T : Tables) (has : HoldsFirst (state g here).now T) where
  pub first_accounts : IsWhole g account_facts account.SELECT.now here T T.accounts
  first_accounts = accounts_whole g here T First has

  pub first_authorizations : IsWhole g authorization_facts authz.SELECT.now here T T.authorizations
  first_authorizations = authorizations_whole g here T First has

  pub first_challenges : IsWhole g challenge_facts chall.SELECT.now here T (sorted_by challenge_layout.key (challenge_rows T.authorizations))
  first_challenges = challenges_whole g here T First has
