-- When a part of the tables is enough for a call.
use Rattle.std.specs.Prelude.{◌≡◌, true}
use Rattle.desk_model.specs.{Tables.Tables, Touched.touched, Kept.EachOf, Kept.Kept, Kept.restricted, declared.call.Call.Call}

-- each of these rows is kept
pub record Keeps (k : Kept) (P : Tables) : Type 0 where
  pub nonces : EachOf (λ n. k.nonces n.serial ≡ true) P.nonces
  pub accounts : EachOf (λ a. k.accounts a.number ≡ true) P.accounts
  pub authorizations : EachOf (λ a. k.authorizations a.number ≡ true) P.authorizations
  pub orders : EachOf (λ o. k.orders o.number ≡ true) P.orders

-- the part is cut from the whole, and holds the rows that the call touches
pub record IsPartFor (call : Call) (whole part : Tables) : Type 0 where
  pub kept : Kept
  pub cut : part ≡ restricted kept whole
  pub holds : Keeps kept (touched whole call)
