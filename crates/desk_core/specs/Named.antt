-- What replies take from the book, whatever is recorded.
use Rattle.std.specs.Prelude.{◌≡◌, map}
use Rattle.desk_model.specs.{Document.listed_rows, Tables.Tables, declared.rows.OrderRow.OrderRow}

-- the tables have the policy of the book's, and in them each order lists the same names
pub record IsNamedAs (T B : Tables) : Type 0 where
  pub policy : T.meta.policy ≡ B.meta.policy
  pub names : (row : OrderRow) → map (λ a. a.name) (listed_rows T row) ≡ map (λ a. a.name) (listed_rows B row)
