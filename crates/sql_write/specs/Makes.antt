-- What puts of several rows, and changes, make of a database.
use Rattle.std.specs.Prelude.{◌≡◌, ℕ, List, [], ◌∷◌, Option, Some, None, IfSome, option_map}
use Rattle.sqlite.specs.{Effect.Database, Effect.IsDatabase, Order.Row}
use Rattle.sqlite_rules.specs.Lists.{Has}
use Rattle.store_columns.specs.{Columns.known_format, Columns.order_columns, Flat.key_rows, Flat.owned_by, declared.columns.AnswerKey.AnswerKey}
use Rattle.store_columns.specs.{declared.columns.Owned.Owned}
use Rattle.model_laws.specs.{Distinct.Distinct, Placing.puts}
use Rattle.desk_model.specs.Change.{applied, applied_one, put}
use Rattle.desk_model.specs.{Kept.EachOf, Tables.Tables, declared.rows.AuthorizationRow.AuthorizationRow, declared.rows.ChallengeRow.ChallengeRow}
use Rattle.desk_model.specs.{declared.rows.Change.Change, declared.rows.Listed.Listed, declared.rows.Meta.Meta, declared.rows.OrderRow.OrderRow}
use Rattle.sql_write.specs.{Fitting.AreFit, Fitting.IsFit, Stored.IsPartOf, Stored.stored_challenge, Stored.stored_key, declared.stored.Write.Write}
use Rattle.sql_write.specs.{declared.stored.Write.TheVariants.Upsert, declared.stored.Write.TheVariants.Insert, declared.stored.Write.TheVariants.Update}
use Rattle.sql_tables.specs.Effects.{Adds, Appends, Becomes, BecomesRows, Places, Puts, Renews, is_same_place}
use Rattle.sql_tables.specs.Layouts.{HasRows, Layout, authorization_layout, challenge_layout, formatted_layout, key_layout, listed_layout, order_layout}
use Rattle.sql_tables.specs.{Hidden.IsPlaced, Hidden.next, Hidden.number, Holds.Holds, Images.order_kept}

-- ---- several rows of one table

-- each of the rows stands in the place of the one with its key
abbrev pub PutsAll : {X : Type 0} → Layout X → List X → Database → Database → Type 0
PutsAll L xs old new = IsDatabase old → Becomes L (puts L.key xs) old new

-- what is known to stand in the places of these does
abbrev pub AreFoundUnder : {X : Type 0} → Layout X → (X → Option X) → List X → List X → Type 0
AreFoundUnder L stored rows xs = EachOf (λ x. IfSome (stored x) (λ y. Has rows y × (L.key y ≡ L.key x))) xs

-- each of the rows, no two with one key, stands in the place of the one with its key, where what is known stands there
abbrev pub PutsAllOver : {X : Type 0} → Layout X → (X → Option X) → List X → Database → Database → Type 0
PutsAllOver {X} L stored xs old new =
    IsDatabase old → (rows : List X) → HasRows L old rows → AreFoundUnder L stored rows xs → Distinct L.key xs → BecomesRows L (puts L.key xs rows) old new

-- and one row
abbrev pub PutsOver : {X : Type 0} → Layout X → Option X → X → Database → Database → Type 0
PutsOver {X} L stored row old new =
    IsDatabase old → (rows : List X) → HasRows L old rows → IfSome stored (λ y. Has rows y × (L.key y ≡ L.key row)) → BecomesRows L (put L.key row rows) old new

-- the challenge that is known, under its authorization
abbrev pub challenge_under : Option AuthorizationRow → Owned ChallengeRow → Option (Owned ChallengeRow)
challenge_under stored c = option_map (λ row. record { owner = c.owner; row = row }) (stored_challenge stored c.row.number)

-- the key that is known
abbrev pub key_under : Option AuthorizationRow → AnswerKey → Option AnswerKey
key_under stored k = stored_key stored k.challenge

-- the challenges of the authorization of this number, then the keys of their answers, over those that are known
abbrev pub PutsChallenges : Option AuthorizationRow → ℕ → List ChallengeRow → Database → Database → Type 0
PutsChallenges stored n cs old new =
    (mid : Database) × PutsAllOver challenge_layout (challenge_under stored) (owned_by n cs) old mid
    × PutsAllOver key_layout (key_under stored) (key_rows (owned_by n cs)) mid new

-- rows placed one after the other
abbrev pub ArePlaced : List (Owned Listed) → List (ℕ × Owned Listed) → List (ℕ × Owned Listed) → Type 0
ArePlaced [] before after = after ≡ before
ArePlaced (l ∷ ls) before after = (mid : List (ℕ × Owned Listed)) × IsPlaced is_same_place l before mid × ArePlaced ls mid after

-- each of the rows stands in the place of the one of its order and place
abbrev pub PlacesAll : List (Owned Listed) → Database → Database → Type 0
PlacesAll ls old new =
    IsDatabase old → (before : List (ℕ × Owned Listed)) → HasRows listed_layout old before →
    (after : List (ℕ × Owned Listed)) × ArePlaced ls before after × BecomesRows listed_layout after old new

-- rows appended one after the other
abbrev pub appended : List (Owned Listed) → List (ℕ × Owned Listed) → List (ℕ × Owned Listed)
appended [] before = before
appended (l ∷ ls) before = appended ls (put number (next before, l) before)

-- each of the rows is appended
abbrev pub AppendsAll : List (Owned Listed) → Database → Database → Type 0
AppendsAll ls old new =
    IsDatabase old → (before : List (ℕ × Owned Listed)) → HasRows listed_layout old before
    → BecomesRows listed_layout (appended ls before) old new

-- ---- a row by how it is written

-- in the place of another, as a new one, or renewed, where it keeps these columns
abbrev pub Writes : {X : Type 0} → Layout X → (X → Row) → Write → X → Database → Database → Type 0
Writes L kept Upsert row = Puts L row
Writes L kept Insert row = Adds L row
Writes L kept Update row = Renews L kept row

-- of a table whose rows are renewed or put
abbrev pub RenewsOrPuts : {X : Type 0} → Layout X → (X → Row) → Write → X → Database → Database → Type 0
RenewsOrPuts L kept Update row = Renews L kept row
RenewsOrPuts L kept Upsert row = Puts L row
RenewsOrPuts L kept Insert row = Puts L row

-- of one whose rows are inserted or put
abbrev pub AddsOrPuts : {X : Type 0} → Layout X → Write → X → Database → Database → Type 0
AddsOrPuts L Insert row = Adds L row
AddsOrPuts L Upsert row = Puts L row
AddsOrPuts L Update row = Puts L row

-- a row that is written so, if it is
abbrev pub Sets : {X : Type 0} → Layout X → (X → Row) → Option Write → X → Database → Database → Type 0
Sets L kept None row old new = new ≡ old
Sets L kept (Some write) row old new = Writes L kept write row old new

-- of what orders list
abbrev pub AppendsOrPlaces : Write → Owned Listed → Database → Database → Type 0
AppendsOrPlaces Insert row = Appends row
AppendsOrPlaces Upsert row = Places row
AppendsOrPlaces Update row = Places row

-- all that an order lists
abbrev pub WritesListed : Write → List (Owned Listed) → Database → Database → Type 0
WritesListed Insert ls = AppendsAll ls
WritesListed Upsert ls = PlacesAll ls
WritesListed Update ls = PlacesAll ls

-- what an order lists is as it was where the order is renewed
abbrev pub Lists : Write → OrderRow → Database → Database → Type 0
Lists Update row old new = new ≡ old
Lists Upsert row old new = PlacesAll (owned_by row.number row.listed) old new
Lists Insert row old new = AppendsAll (owned_by row.number row.listed) old new

-- an order, then what it lists
abbrev pub WritesOrder : Write → OrderRow → Database → Database → Type 0
WritesOrder write row old new =
    (mid : Database) × Writes order_layout (λ x. order_kept (order_columns x)) write row old mid × Lists write row mid new

-- the row of `meta`, over the one that is known
abbrev pub SavesMeta : Option Meta → Meta → Database → Database → Type 0
SavesMeta stored row = PutsOver formatted_layout (option_map (λ old. (known_format, old)) stored) (known_format, row)

-- an authorization over the one that is known, then its challenges over those of that
abbrev pub SavesAuthorization : Option AuthorizationRow → AuthorizationRow → Database → Database → Type 0
SavesAuthorization stored row old new =
    (mid : Database) × PutsOver authorization_layout stored row old mid × PutsChallenges stored row.number row.challenges mid new

-- an order, by how it differs from the one that is known
abbrev pub SavesOrder : Option OrderRow → OrderRow → Database → Database → Type 0
SavesOrder stored row old new =
    (write : Write) × WritesOrder write row old new
    × (write ≡ Update → (there : OrderRow) × (stored ≡ Some there) × (order_kept (order_columns there) ≡ order_kept (order_columns row)))

-- ---- changes

-- whatever tables the database holds, in which what is known stands, where the change fits them it then holds them with the change
abbrev pub Makes : Tables → Change → Database → Database → Type 0
Makes part change old new = (T : Tables) → Holds old T → IsPartOf part T → IsFit T change → Holds new (applied_one change T)

-- and of changes one after the other
abbrev pub MakesAll : Tables → List Change → Database → Database → Type 0
MakesAll part changes old new = (T : Tables) → Holds old T → IsPartOf part T → AreFit T changes → Holds new (applied changes T)
