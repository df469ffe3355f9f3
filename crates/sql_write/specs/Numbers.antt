-- Changes whose numbers the columns take.
use Rattle.std.specs.Prelude.{◌≢◌, List}
use Rattle.store_columns.specs.{Flat.owned_by, declared.columns.AnswerKey.AnswerKey}
use Rattle.desk_model.specs.declared.rows.Change.TheVariants.{PutMeta, PutNonce, RemoveNonce, PutAccount, PutAuthorization, PutOrder}
use Rattle.desk_model.specs.{Kept.EachOf, declared.rows.Change.Change, declared.rows.Meta.Meta}
use Rattle.sql_write.specs.declared.fault.{SaveFault.SaveFault, SaveFault.TheVariants.Row, WriteFault.TheVariants.TooLarge}
use Rattle.sql_write.specs.Fits.{Fits, FitsAccount, FitsAuthorization, FitsChallenge, FitsKey, FitsListed, FitsMeta, FitsNonce, FitsOrder}

-- each number of the change is at most 2^63 - 1
abbrev pub FitsColumns : Change → Type 0
FitsColumns (PutMeta x) = FitsMeta x
FitsColumns (PutNonce x) = FitsNonce x
FitsColumns (RemoveNonce serial) = Fits serial
FitsColumns (PutAccount x) = FitsAccount x
FitsColumns (PutAuthorization x) = FitsAuthorization x × EachOf FitsChallenge (owned_by x.number x.challenges)
FitsColumns (PutOrder x) = FitsOrder x × EachOf FitsListed (owned_by x.number x.listed)

-- and each of an upgrade
pub record FitsUpgrade (meta : Meta) (keys : List AnswerKey) : Type 0 where
  pub meta_row : FitsMeta meta
  pub each : EachOf FitsKey keys

-- the fault is not that a number is too large
abbrev pub IsNotTooLarge : SaveFault → Type 0
IsNotTooLarge why = why ≢ Row TooLarge
