-- What each of the statements means, computed from its text.
use Rattle.std.proofs.Common.{◌≡◌, ℕ, zero, suc, ◌+◌, ◌<◌, Some, Ok, slice_get, false, inl, inr, [], ◌∷◌, codes, refl, arith}
use Rattle.std.proofs.lemmas.Bool.Decides.{nat_tests}
use Rattle.sqlite_schema.specs.{declared.schema.Table.Table, declared.schema.Index.Index, declared.command.Command.TheVariants.CreateTable}
use Rattle.sqlite_schema.specs.declared.command.Command.TheVariants.{CreateIndex}
use Rattle.sqlite.specs.{Compile.table_defined_by, Compile.index_defined_by, Change.created, Change.indexed, Does.lacks_sequence, Listing.understood}
use Rattle.sqlite.proofs.Callers.{IsPlain, command_of, statement_of}
use Rattle.sqlite_tied.specs.Compute.{everything}
use Rattle.sql_schema.specs.{Definitions.definition_at, Schema.schema_at, Schema.index_as, Schema.meta_table, Schema.nonce_table, Schema.account_table}
use Rattle.sql_schema.specs.{Schema.ord_table, Schema.authz_table, Schema.ord_authz_table, Schema.chall_table, Schema.chall_key_table}
use Rattle.sql_schema.proofs.Making.{Makes, MakesTable, MakesIndex}

-- the statement at a place makes this table, each fact computed
table_made : (step : ℕ) (table : Table) → command_of (understood (schema_at step) (definition_at step)) ≡ CreateTable
    → statement_of (definition_at step) (understood (schema_at step) (definition_at step)) ≡ definition_at step
    → IsPlain (understood (schema_at step) (definition_at step)) → table_defined_by (definition_at step) ≡ Ok table
    → created (schema_at step) table ≡ schema_at (step + 1) → lacks_sequence (schema_at (step + 1)) ≡ false
    → MakesTable (schema_at step) (schema_at (step + 1)) (definition_at step)
table_made step t is same alone defined next none = grind (arith, nat_tests)

-- or this index of the table that has this place
index_made : (step place : ℕ) (table : Table) (index : Index) → slice_get (schema_at step).tables place ≡ Some table
    → command_of (understood (schema_at step) (definition_at step)) ≡ CreateIndex place
    → statement_of (definition_at step) (understood (schema_at step) (definition_at step)) ≡ definition_at step
    → IsPlain (understood (schema_at step) (definition_at step)) → index_defined_by table (definition_at step) ≡ Ok index
    → indexed (schema_at step) table index ≡ schema_at (step + 1) → MakesIndex (schema_at step) (schema_at (step + 1)) (definition_at step)
index_made step place t i found is same alone defined next = grind (arith, nat_tests)

-- the table that format 2 has more
pub create_chall_key_makes : MakesTable (schema_at 15) (schema_at 16) (definition_at 15)
unfolding understood everything
create_chall_key_makes = table_made 15 (record chall_key_table { tree = 0 }) refl refl (refl, refl) refl refl refl

-- what the statement at each place makes
pub each_makes : (step : ℕ) → step < 16 → Makes (schema_at step) (schema_at (step + 1)) (definition_at step)
unfolding understood everything
each_makes zero low = inl (table_made 0 (record meta_table { tree = 0 }) refl refl (refl, refl) refl refl refl)
each_makes (suc zero) low = inl (table_made 1 (record nonce_table { tree = 0 }) refl refl (refl, refl) refl refl refl)
each_makes (suc (suc zero)) low = inl (table_made 2 (record account_table { tree = 0 }) refl refl (refl, refl) refl refl refl)
each_makes (suc (suc (suc zero))) low = inl (table_made 3 (record ord_table { tree = 0 }) refl refl (refl, refl) refl refl refl)
each_makes (suc (suc (suc (suc zero)))) low = inl (table_made 4 (record authz_table { tree = 0 }) refl refl (refl, refl) refl refl refl)
each_makes (suc (suc (suc (suc (suc zero))))) low = inl (table_made 5 (record ord_authz_table { tree = 0 }) refl refl (refl, refl) refl refl refl)
each_makes (suc (suc (suc (suc (suc (suc zero)))))) low = inl (table_made 6 (record chall_table { tree = 0 }) refl refl (refl, refl) refl refl refl)
each_makes (suc (suc (suc (suc (suc (suc (suc zero))))))) low =
    inr (index_made 7 1 nonce_table (index_as (codes "nonce_issued") 0 1 (3 ∷ [])) refl refl refl (refl, refl) refl refl)
each_makes (suc (suc (suc (suc (suc (suc (suc (suc zero)))))))) low =
    inr (index_made 8 3 ord_table (index_as (codes "ord_account") 0 4 (2 ∷ [])) refl refl refl (refl, refl) refl refl)
each_makes (suc (suc (suc (suc (suc (suc (suc (suc (suc zero))))))))) low =
    inr (index_made 9 3 ord_table (index_as (codes "ord_status_expires") 0 4 (11 ∷ 4 ∷ [])) refl refl refl (refl, refl) refl refl)
each_makes (suc (suc (suc (suc (suc (suc (suc (suc (suc (suc zero)))))))))) low =
    inr (index_made 10 4 authz_table (index_as (codes "authz_account_name") 0 5 (2 ∷ 3 ∷ [])) refl refl refl (refl, refl) refl refl)
each_makes (suc (suc (suc (suc (suc (suc (suc (suc (suc (suc (suc zero))))))))))) low =
    inr (index_made 11 4 authz_table (index_as (codes "authz_status_expires") 0 5 (9 ∷ 6 ∷ [])) refl refl refl (refl, refl) refl refl)
each_makes (suc (suc (suc (suc (suc (suc (suc (suc (suc (suc (suc (suc zero)))))))))))) low =
    inr (index_made 12 5 ord_authz_table (index_as (codes "ord_authz_authz") 0 6 (3 ∷ [])) refl refl refl (refl, refl) refl refl)
each_makes (suc (suc (suc (suc (suc (suc (suc (suc (suc (suc (suc (suc (suc zero))))))))))))) low =
    inr (index_made 13 6 chall_table (index_as (codes "chall_authz") 0 8 (2 ∷ [])) refl refl refl (refl, refl) refl refl)
each_makes (suc (suc (suc (suc (suc (suc (suc (suc (suc (suc (suc (suc (suc (suc zero)))))))))))))) low =
    inr (index_made 14 6 chall_table (index_as (codes "chall_status") 0 8 (8 ∷ [])) refl refl refl (refl, refl) refl refl)
each_makes (suc (suc (suc (suc (suc (suc (suc (suc (suc (suc (suc (suc (suc (suc (suc zero))))))))))))))) low = inl create_chall_key_makes
each_makes (suc (suc (suc (suc (suc (suc (suc (suc (suc (suc (suc (suc (suc (suc (suc (suc n)))))))))))))))) low = absurd (omega (arith, low))
