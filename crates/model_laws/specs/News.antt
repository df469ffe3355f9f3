-- What a change puts, beside the row that stands in its place.
use Rattle.std.specs.Prelude.{◌==◌, ◌≡◌, ◌≢◌, List, [], ◌∷◌, Some, None, IfSome, IsTrue, find, is_some, map}
use Rattle.desk_model.specs.Questions.{authorization_on, owner_on}
use Rattle.desk_model.specs.declared.rows.Change.TheVariants.{PutNonce, PutAccount, PutAuthorization, PutOrder}
use Rattle.desk_model.specs.{Tables.Tables, Change.applied_one, Kept.EachOf, declared.rows.ChallengeRow.ChallengeRow, declared.rows.Change.Change}
use Rattle.model_laws.specs.Distinct.{Distinct}

-- a row that is put is not the one that stands in its place; the one row of a desk's own is always put
abbrev pub IsNews : Tables → Change → Type 0
IsNews T (PutNonce x) = find (λ n. n.serial == x.serial) T.nonces ≢ Some x
IsNews T (PutAccount x) = find (λ a. a.number == x.number) T.accounts ≢ Some x
IsNews T (PutAuthorization x) = find (λ a. a.number == x.number) T.authorizations ≢ Some x
IsNews T (PutOrder x) = find (λ o. o.number == x.number) T.orders ≢ Some x
IsNews T _ = Unit {0}

-- row by row, a challenge that was answered is answered
abbrev pub StayAnswered : List ChallengeRow → List ChallengeRow → Type 0
StayAnswered (c ∷ cs) (d ∷ ds) = (IsTrue (is_some c.answered) → IsTrue (is_some d.answered)) × StayAnswered cs ds
StayAnswered _ _ = Unit {0}

-- the same challenges, by number, none of which loses its answer
pub record KeepChallenges (old new : List ChallengeRow) : Type 0 where
  pub numbers : map (λ c. c.number) old ≡ map (λ c. c.number) new
  pub answers : StayAnswered old new

-- the row has the challenges of the one that stands in its place, or lists what it lists
abbrev pub KeepsChildren : Tables → Change → Type 0
KeepsChildren T (PutAuthorization x) =
    IfSome (find (λ a. a.number == x.number) T.authorizations) (λ a. KeepChallenges a.challenges x.challenges)
KeepsChildren T (PutOrder x) = IfSome (find (λ o. o.number == x.number) T.orders) (λ o. o.listed ≡ x.listed)
KeepsChildren T _ = Unit {0}

-- the row's challenges differ in number, and where it is new no authorization has one of them yet; what an order lists stands
-- under the order's own number, so that a new order's places stand nowhere and nothing is left to say
abbrev pub BringsNewChildren : Tables → Change → Type 0
BringsNewChildren T (PutAuthorization x) =
    Distinct (λ c. c.number) x.challenges × (authorization_on T x.number ≡ None → EachOf (λ c. owner_on T c.number ≡ None) x.challenges)
BringsNewChildren T _ = Unit {0}

-- one after the other: each change is so to the tables that those before it left
abbrev pub InTurn : (Tables → Change → Type 0) → Tables → List Change → Type 0
InTurn P T [] = Unit {0}
InTurn P T (c ∷ cs) = P T c × InTurn P (applied_one c T) cs

-- each row that is put differs from the one that the changes before it left in its place
abbrev pub AreNews : Tables → List Change → Type 0
AreNews T cs = InTurn IsNews T cs

-- each row that is put has the children of the one that the changes before it left in its place
abbrev pub AreKept : Tables → List Change → Type 0
AreKept T cs = InTurn KeepsChildren T cs

-- the challenges of each authorization that is new are new to what the changes before it left
abbrev pub AreNewChildren : Tables → List Change → Type 0
AreNewChildren T cs = InTurn BringsNewChildren T cs
