-- Look-ups whose rows are put into tables.
use Rattle.std.specs.Prelude.{◌≡◌, [], Result, OnOk}
use Rattle.desk_model.specs.Tables.{Tables}
use Rattle.store_api.specs.{Sight.ForTables, Sight.Reads, Sight.Sight, declared.fault.StorageFault.StorageFault, declared.all_rows.Rows.Rows}
use Rattle.store_api.specs.declared.fault.StorageFault.TheVariants as fault

-- a growth was refused
abbrev pub LacksMemory : StorageFault → Type 0
LacksMemory why = why ≡ fault.Memory

module _ {S C : Type 0} (v : Sight S C) where
  -- a call that looked things up, after which this is so of what it found
  pub record Finds {A : Type 0} (old new : S) (result : Result A StorageFault) (P : Tables → Type 0) : Type 0 where
    pub reads : Reads v old new result
    pub found : ForTables v old new (λ T. OnOk result (P T))

-- rows that are those of tables
pub record AreRowsOf (T : Tables) (rows : Rows) : Type 0 where
  pub nonces : rows.nonces ≡ T.nonces
  pub accounts : rows.accounts ≡ T.accounts
  pub authorizations : rows.authorizations ≡ T.authorizations
  pub orders : rows.orders ≡ T.orders

-- there are none
pub record AreNone (rows : Rows) : Type 0 where
  pub nonces : rows.nonces ≡ []
  pub accounts : rows.accounts ≡ []
  pub authorizations : rows.authorizations ≡ []
  pub orders : rows.orders ≡ []
