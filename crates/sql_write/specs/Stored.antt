-- What is known to stand in the tables: rows of a part.
use Rattle.std.specs.Prelude.{◌≡◌, ◌==◌, ℕ, List, Option, Some, IfSome, find, option_and_then}
use Rattle.sqlite_rules.specs.Lists.{Has}
use Rattle.store_columns.specs.{Columns.order_columns, Flat.answer_key, declared.columns.AnswerKey.AnswerKey}
use Rattle.desk_model.specs.{Kept.EachOf, Tables.Tables}
use Rattle.desk_model.specs.declared.rows.{AuthorizationRow.AuthorizationRow, ChallengeRow.ChallengeRow, OrderRow.OrderRow}
use Rattle.sql_tables.specs.Images.{order_kept}

-- ---- what it is

-- what is found among these rows is of what is found among those
abbrev pub AreFound : {X : Type 0} → (X → ℕ) → (X → X → Type 0) → List X → List X → Type 0
AreFound {X} key IsOf part rows =
    (n : ℕ) → IfSome (find (λ r. key r == n) part) (λ x. (y : X) × (find (λ r. key r == n) rows ≡ Some y) × IsOf x y)

-- the row itself
abbrev pub IsRow : {X : Type 0} → X → X → Type 0
IsRow x y = x ≡ y

-- an authorization with some of its challenges
pub record HasSome (x y : AuthorizationRow) : Type 0 where
  pub columns : record x { challenges = y.challenges } ≡ y
  pub challenges : EachOf (λ c. Has y.challenges c) x.challenges

-- an order that was made as the other: it may lack what that one lists, and what calls have recorded of it
abbrev pub IsMadeAs : OrderRow → OrderRow → Type 0
IsMadeAs x y = order_kept (order_columns x) ≡ order_kept (order_columns y)

-- the rows of the part stand in the tables; they may lack what belongs to them
pub record IsPartOf (part T : Tables) : Type 0 where
  pub meta : part.meta ≡ T.meta
  pub accounts : AreFound (λ a. a.number) IsRow part.accounts T.accounts
  pub authorizations : AreFound (λ a. a.number) HasSome part.authorizations T.authorizations
  pub orders : AreFound (λ o. o.number) IsMadeAs part.orders T.orders

-- ---- what is found of a row that is known

-- the challenge of this number, of an authorization
abbrev pub stored_challenge : Option AuthorizationRow → ℕ → Option ChallengeRow
stored_challenge stored n = option_and_then (λ (a : AuthorizationRow). find (λ c. c.number == n) a.challenges) stored

-- the key of its answer
abbrev pub stored_key : Option AuthorizationRow → ℕ → Option AnswerKey
stored_key stored n = option_and_then answer_key (stored_challenge stored n)
