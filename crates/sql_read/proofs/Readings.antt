-- What the readings of whole tables mean in either format: one statement each, without parameters, that compares no values of other kinds.
use Rattle.std.proofs.Common.{[], ◌∷◌, refl}
use Rattle.sqlite_sql.specs.Term.{col}
use Rattle.sqlite_tied.specs.Compute.{everything}
use Rattle.sqlite.specs.Listing.{understood}
use Rattle.sql_schema.specs.Schema.{desk_schema}
use Rattle.sql_read.specs.{declared.formats.Format.Format, declared.formats.Format.TheVariants.First, declared.formats.Format.TheVariants.Second}
use Rattle.sql_read.proofs.TableFacts.{IsReadingOf, account_facts, authorization_facts, challenge_facts, key_facts, meta_facts, nonce_facts, order_facts}
use Rattle.sql_read.proofs.{TableColumns.listed_project, Answered.IsReading, Answered.all_rows, Answered.by, KeptRows.schema_of}
use Rattle.sql_schema.specs.declared.accounts.TheConstants as account
use Rattle.sql_schema.specs.declared.authorizations.TheConstants as authz
use Rattle.sql_schema.specs.declared.challenges.TheConstants as chall
use Rattle.sql_schema.specs.declared.keys.TheConstants as chall_key
use Rattle.sql_schema.specs.declared.meta.TheConstants as meta
use Rattle.sql_schema.specs.declared.nonces.TheConstants as nonce
use Rattle.sql_schema.specs.declared.orders.TheConstants as ord
use Rattle.sql_schema.specs.declared.listed.TheConstants as ord_authz

-- `meta`, by its key
pub meta_reading : (format : Format) → IsReadingOf meta_facts (schema_of format) all_rows meta.SELECT.now [] []
unfolding understood everything
meta_reading First = record { names = _; means = refl; selecting = refl; sizes = refl; typed = refl }
meta_reading Second = record { names = _; means = refl; selecting = refl; sizes = refl; typed = refl }

-- `nonce`
pub nonces_reading : (format : Format) → IsReadingOf nonce_facts (schema_of format) all_rows nonce.SELECT.now [] []
unfolding understood everything
nonces_reading First = record { names = _; means = refl; selecting = refl; sizes = refl; typed = refl }
nonces_reading Second = record { names = _; means = refl; selecting = refl; sizes = refl; typed = refl }

-- `account`
pub accounts_reading : (format : Format) → IsReadingOf account_facts (schema_of format) all_rows account.SELECT.now [] []
unfolding understood everything
accounts_reading First = record { names = _; means = refl; selecting = refl; sizes = refl; typed = refl }
accounts_reading Second = record { names = _; means = refl; selecting = refl; sizes = refl; typed = refl }

-- `ord`
pub orders_reading : (format : Format) → IsReadingOf order_facts (schema_of format) all_rows ord.SELECT.now [] []
unfolding understood everything
orders_reading First = record { names = _; means = refl; selecting = refl; sizes = refl; typed = refl }
orders_reading Second = record { names = _; means = refl; selecting = refl; sizes = refl; typed = refl }

-- `authz`
pub authorizations_reading : (format : Format) → IsReadingOf authorization_facts (schema_of format) all_rows authz.SELECT.now [] []
unfolding understood everything
authorizations_reading First = record { names = _; means = refl; selecting = refl; sizes = refl; typed = refl }
authorizations_reading Second = record { names = _; means = refl; selecting = refl; sizes = refl; typed = refl }

-- `ord_authz`, by order and place
pub listed_reading : (format : Format) → IsReading (schema_of format) all_rows ord_authz.SELECT.now 6 [] listed_project (by 1 ∷ by 2 ∷ []) []
unfolding understood everything
listed_reading First = record { names = _; means = refl; selecting = refl; sizes = refl; typed = refl }
listed_reading Second = record { names = _; means = refl; selecting = refl; sizes = refl; typed = refl }

-- `chall`
pub challenges_reading : (format : Format) → IsReadingOf challenge_facts (schema_of format) all_rows chall.SELECT.now [] []
unfolding understood everything
challenges_reading First = record { names = _; means = refl; selecting = refl; sizes = refl; typed = refl }
challenges_reading Second = record { names = _; means = refl; selecting = refl; sizes = refl; typed = refl }

-- `chall_key`
pub keys_reading : IsReadingOf key_facts desk_schema all_rows chall_key.SELECT.now [] []
unfolding understood everything
keys_reading = record { names = _; means = refl; selecting = refl; sizes = refl; typed = refl }

-- the format alone
pub format_reading : (format : Format) → IsReading (schema_of format) all_rows meta.SELECT_FORMAT.now 0 [] (col 1 2 ∷ []) [] []
unfolding understood everything
format_reading First = record { names = _; means = refl; selecting = refl; sizes = refl; typed = refl }
format_reading Second = record { names = _; means = refl; selecting = refl; sizes = refl; typed = refl }
