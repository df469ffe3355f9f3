-- The authorization that an order uses again is found by its number.
use Rattle.std.proofs.Common.{◌≡◌, ℕ, List, [], ◌∷◌, Some, refl, true, arith}
use Rattle.std.specs.List.{list_all}
use Rattle.desk_model.specs.{Allowed.may_want_on, Name.Name, Tables.Tables, declared.rows.AuthorizationRow.AuthorizationRow, Questions.authorization_on}
use Rattle.desk_model.specs.{Questions.serving_on, Rules.left_by, Rules.wanted}
use Rattle.model_laws.proofs.{Finds.each_found, Finds.found_passes, RowLists.ascends_found}
use Rattle.model_laws.specs.Ordered.{Ascends}

-- the row that serves is the one of its number
pub serving_found : (T : Tables) (account : ℕ) (name : Name) (row : AuthorizationRow) → Ascends (λ a. a.number) 1 T.authorizations →
    serving_on T account name ≡ Some row →
    authorization_on T row.number ≡ Some row
serving_found T account name row in_order found = grind (arith, each_found, ascends_found)

-- and so may each that an order of these names gets
pub all_may_be_wanted : (T : Tables) (account : ℕ) (names : List Name) (random : List ℕ) → Ascends (λ a. a.number) 1 T.authorizations →
    list_all (may_want_on T account) (wanted T account names random) ≡ true
all_may_be_wanted T account [] random in_order = refl
all_may_be_wanted T account (name ∷ names) random in_order = grind (
  arith,
  serving_found,
  found_passes,
  (all_may_be_wanted T account names (left_by (serving_on T account name) name random) in_order),
)
