-- Rows that are looked up at a moment: those that stand, with their statuses then.
use Rattle.std.proofs.Common.{◌≡◌, ℕ, ◌+◌, Option, Bool, true, false, cond, List, [], ◌∷◌, map, Some, refl, ◌∙◌, arith}
use Rattle.std.proofs.lemmas.Bool.Decides.{nat_tests}
use Rattle.std.specs.{Prelude.◌==◌, Prelude.◌||◌, Prelude.find, Prelude.is_some, List.list_any, Option.option_map}
use Rattle.desk_model.specs.Questions.{authorization_on, challenge_of, order_on, owner_on, serves, serving_on}
use Rattle.desk_model.specs.{Tables.Tables, Name.Name, declared.rows.AuthorizationRow.AuthorizationRow, declared.rows.ChallengeRow.ChallengeRow}
use Rattle.desk_model.specs.{declared.rows.OrderRow.OrderRow, Effect.has_row, Effect.swept, Effect.swept_authorization, Effect.swept_order}
use Rattle.model_laws.proofs.Basics.{find-map}

-- only the status of an authorization moves by the passing of time
pub swept_authorization-status : (m : ℕ) (row : AuthorizationRow) → record row { status = (swept_authorization m row).status } ≡ swept_authorization m row
swept_authorization-status m row = grind (arith, nat_tests)

-- and only that of an order
pub swept_order-status : (m : ℕ) (rows : List AuthorizationRow) (row : OrderRow)
    → record row { status = (swept_order m rows row).status } ≡ swept_order m rows row
swept_order-status m rows row = grind (arith, nat_tests)

-- a test that a move leaves passes the moved rows that it passed
pub find-moved : {X : Type 0} (test : X → Bool) (move : X → X) (xs : List X) → ((x : X) → test (move x) ≡ test x)
    → find test (map move xs) ≡ option_map move (find test xs)
find-moved test move xs same = find-map test move xs ∙ (λ i. option_map move (find (λ x. same x i) xs))

-- the authorization of a number, and the one that a challenge is of
pub swept_authorization_on : (m : ℕ) (T : Tables) (n : ℕ) → authorization_on (swept m T) n ≡ option_map (swept_authorization m) (authorization_on T n)
swept_authorization_on m T n = grind (arith, nat_tests, find-moved, swept_authorization-status)

-- the authorization of a challenge
pub swept_owner_on : (m : ℕ) (T : Tables) (n : ℕ) → owner_on (swept m T) n ≡ option_map (swept_authorization m) (owner_on T n)
swept_owner_on m T n = grind (arith, nat_tests, find-moved, swept_authorization-status)

-- the order of a number
pub swept_order_on : (m : ℕ) (T : Tables) (n : ℕ) → order_on (swept m T) n ≡ option_map (swept_order m T.authorizations) (order_on T n)
swept_order_on m T n = grind (arith, nat_tests, find-moved, swept_order-status)

-- an authorization that has a challenge of a number has one to be found
pub challenge_there : (n : ℕ) (a : AuthorizationRow) → is_some (challenge_of n a) ≡ has_row n a
challenge_there n a = by a.challenges
  where
    by : (cs : List ChallengeRow) → is_some (find (λ c. n == c.number) cs) ≡ list_any (λ c. n == c.number) cs
    by [] = refl
    by (c ∷ cs) = one (n == c.number) (by cs)
      where
        one : (b : Bool) → is_some (find (λ c. n == c.number) cs) ≡ list_any (λ c. n == c.number) cs →
            is_some (cond b (Some c) (find (λ c. n == c.number) cs)) ≡ (b || list_any (λ c. n == c.number) cs)
        one true ih = refl
        one false ih = ih

-- the authorization that serves, among the rows that stand
pub swept_serving_on : (m : ℕ) (T : Tables) (account : ℕ) (name : Name) (life : ℕ) (rows : List AuthorizationRow) (o : Option AuthorizationRow) →
    life ≡ T.meta.policy.order_life → rows ≡ T.authorizations → o ≡ find (λ r. serves account name (m + life) (swept_authorization m r)) rows →
    option_map (λ (r : AuthorizationRow). r.number) o ≡ option_map (λ (r : AuthorizationRow). r.number) (serving_on (swept m T) account name)
swept_serving_on m T account name life rows o lives stand is = grind (arith, nat_tests, find-map, swept_authorization-status)
