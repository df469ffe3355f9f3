-- What a list of rows prints of a desk.
use Rattle.std.specs.Prelude.{◌≡◌, ◌⊎◌, ℕ, ◌^◌, ◌+◌, ◌-◌, ◌++◌, List, Option, ⊤, codes, length, map, min}
use Rattle.std.specs.{Io.KnownBytes.Appends, List.flat_map}
use Rattle.desk_model.specs.{Document.listed_rows, Tables.Tables}
use Rattle.desk_model.specs.declared.rows.{AccountRow.AccountRow, AuthorizationRow.AuthorizationRow, OrderRow.OrderRow}
use Rattle.app_reports.specs.Filter.{Allows, AreKept, AsksFor, IsNamed}
use Rattle.app_reports.specs.Printed.{account_line, authorization_line, count_line, order_line}
use Rattle.app_reports.specs.declared.{asked.AuthorizationFilter.AuthorizationFilter, form.Form.Form, asked.OrderFilter.OrderFilter}

-- ---- what a list is

-- the rows that it goes through, those of them that it keeps, the line of each, and the last line, by how many these are
pub record Roster (X : Type 0) : Type 1 where
  pub rows : Tables → List X
  pub Keeps : Tables → X → Type 0
  pub line : X → List ℕ
  pub last : ℕ → List ℕ

-- that of a table, in a form
abbrev pub roster : {X : Type 0} → (rows : Tables → List X) (Keeps : Tables → X → Type 0) (line : Form → X → List ℕ) (noun : List ℕ) → Form → Roster X
roster rows Keeps line noun f = record { rows = rows; Keeps = Keeps; line = line f; last = count_line f noun }

-- an order of the account, with the status and the name that are asked for
abbrev pub KeepsOrder : OrderFilter → Tables → OrderRow → Type 0
KeepsOrder filter T row =
    Allows filter.account row.account × Allows filter.status row.status × AsksFor filter.name (map (λ a. a.name) (listed_rows T row))

-- an authorization of the account, with the name that is asked for
abbrev pub KeepsAuthorization : AuthorizationFilter → AuthorizationRow → Type 0
KeepsAuthorization filter row = Allows filter.account row.account × IsNamed filter.name row.name

-- the three lists
abbrev pub orders_roster : OrderFilter → Form → Roster OrderRow
orders_roster filter f = roster (λ T. T.orders) (KeepsOrder filter) order_line (codes "orders") f

abbrev pub accounts_roster : Form → Roster AccountRow
accounts_roster f = roster (λ T. T.accounts) (λ T row. ⊤) account_line (codes "accounts") f

abbrev pub authorizations_roster : AuthorizationFilter → Form → Roster AuthorizationRow
authorizations_roster filter f =
    roster (λ T. T.authorizations) (λ T row. KeepsAuthorization filter row) authorization_line (codes "authorizations") f

-- ---- what is printed

module _ {X : Type 0} (Keeps : X → Type 0) (line : X → List ℕ) (was is : Option (List ℕ)) where
  -- a row is kept, its line was written, and the count is one more; or it is not, and nothing was
  abbrev pub Turns : X → (count next : ℕ) → Type 0
  Turns row count next =
      (Keeps row × Appends was is (line row) × (next ≡ min (count + 1) (2 ^ 64 - 1))) ⊎ ((Keeps row → ⊥) × (is ≡ was) × (next ≡ count))

  -- the lines of those rows that are kept were written, and so many there are
  pub record Prints (rows : List X) (count : ℕ) : Type 0 where
    pub listed : List X
    pub kept : AreKept Keeps rows listed
    pub written : Appends was is (flat_map line listed)
    pub counted : count ≡ min (length listed) (2 ^ 64 - 1)

-- the whole list was
pub record PrintsAll {X : Type 0} (r : Roster X) (was is : Option (List ℕ)) (T : Tables) : Type 0 where
  pub listed : List X
  pub kept : AreKept (r.Keeps T) (r.rows T) listed
  pub written : Appends was is (flat_map r.line listed ++ r.last (min (length listed) (2 ^ 64 - 1)))
