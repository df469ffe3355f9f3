-- Rows that differ so have the same columns, where they are to have them.
use Rattle.std.specs.Prelude.{option_map}
use Rattle.std.proofs.Common.{◌≡◌, ◌≢◌, ℕ, Option, Some, None, Bool, true, false, [], ap, ◌∙◌, arith, rules}
use Rattle.std.proofs.{lemmas.Bool.and_parts}
use Rattle.store_columns.specs.Columns.{account_columns, authorization_columns, challenge_columns, known_format, order_columns}
use Rattle.store_columns.specs.{Flat.bare_row, declared.columns.AnswerKey.AnswerKey, declared.columns.Owned.Owned}
use Rattle.desk_model.specs.declared.rows.{AccountRow.AccountRow, AuthorizationRow.AuthorizationRow, ChallengeRow.ChallengeRow, Meta.Meta, OrderRow.OrderRow}
use Rattle.sql_write.specs.Differences.{account_difference, authorization_difference, challenge_difference, key_difference, meta_difference}
use Rattle.sql_write.specs.Differences.{is_same_authorization, is_same_challenge, keeps_authorization, keeps_challenge, order_difference}
use Rattle.sql_write.specs.{Write.difference, Write.write, declared.stored.Write.Write, declared.stored.Difference.Difference}
use Rattle.sql_write.specs.{declared.stored.Write.TheVariants.Insert, declared.stored.Write.TheVariants.Update, declared.stored.Difference.TheVariants.Same}
use Rattle.sql_write.specs.{declared.stored.Difference.TheVariants.Moved}
use Rattle.sql_tables.specs.Images.{account_kept, authorization_image, authorization_kept, challenge_image, challenge_kept, formatted_columns}
use Rattle.sql_tables.specs.Images.{meta_kept, order_kept}
use Rattle.sql_tables.specs.Layouts.{account_layout, authorization_layout, challenge_layout, formatted_layout, key_layout}
use Rattle.sql_write.proofs.Over.{Differs, owner_is}

-- ---- what a difference tells

-- it is kept, where the row moved
moved_keeps : (kept same : Bool) → difference kept same ≡ Moved → kept ≡ true
moved_keeps kept same h = search rules

-- all is the same
same_is : (kept same : Bool) → difference kept same ≡ Same → (kept ≡ true) × (same ≡ true)
same_is kept same h = search rules

-- ---- what a row was made with

-- the account, the name and the dates of an authorization
authorization_is_kept : (old row : AuthorizationRow) → keeps_authorization old row ≡ true
    → authorization_kept (authorization_columns old) ≡ authorization_kept (authorization_columns row)
authorization_is_kept old row is = search rules

-- the type and the token of a challenge
challenge_is_kept : (n : ℕ) (old row : ChallengeRow) → keeps_challenge old row ≡ true
    → challenge_kept (challenge_columns (bare_row (record { owner = n; row = old })))
    ≡ challenge_kept (challenge_columns (bare_row (record { owner = n; row = row })))
challenge_is_kept n old row is = search rules

-- ---- rows that are as they were

-- an authorization
same_authorization : (old row : AuthorizationRow) → old.number ≡ row.number → keeps_authorization old row ≡ true → is_same_authorization old row ≡ true
    → authorization_image old ≡ authorization_image row
same_authorization old row number kept same = search (rules, and_parts)

-- a challenge of one authorization
same_challenge : (n : ℕ) (old row : ChallengeRow) → old.number ≡ row.number → keeps_challenge old row ≡ true → is_same_challenge old row ≡ true
    → challenge_image (record { owner = n; row = old }) ≡ challenge_image (record { owner = n; row = row })
same_challenge n old row number kept same = search (rules, and_parts)

-- ---- the row of `meta`

-- a row that is not new is not inserted
pub not_inserted : (d : Option Difference) (m : Write) → write d false ≡ Some m → m ≢ Insert
not_inserted d m h k = search rules

-- a row of which nothing is known is written
pub always_written : (new : Bool) → write None new ≡ None → ⊥
always_written new h = search rules

-- ---- orders

-- one that is renewed is known, and keeps what it was made with
pub order_keeps : (stored : Option OrderRow) (new : Bool) (row : OrderRow) (m : Write)
    → write (option_map (λ old. order_difference old row) stored) new ≡ Some m
    → m ≡ Update → (there : OrderRow) × (stored ≡ Some there) × (order_kept (order_columns there) ≡ order_kept (order_columns row))
order_keeps stored new row m h k = grind arith

-- ---- what is told of a row by how it differs

-- the row of `meta`
pub meta_differs : (row : Meta) (stored : Option Meta)
    → Differs formatted_layout (λ x. meta_kept (formatted_columns x)) (λ x. meta_difference x.1 row) (known_format, row)
    (option_map (λ m. (known_format, m)) stored)
meta_differs row stored = search rules

-- an account
pub account_differs : (row : AccountRow) (stored : Option AccountRow)
    → Differs account_layout (λ x. account_kept (account_columns x)) (λ old. account_difference old row) row stored
account_differs row stored = grind arith

-- an authorization
pub authorization_differs : (row : AuthorizationRow) (stored : Option AuthorizationRow)
    → Differs authorization_layout (λ x. authorization_kept (authorization_columns x)) (λ old. authorization_difference old row) row stored
authorization_differs row stored = search (rules, authorization_is_kept, same_is, same_authorization)

-- a challenge of this authorization
pub challenge_differs : (n : ℕ) (row : ChallengeRow) (stored : Option ChallengeRow)
    → Differs challenge_layout (λ c. challenge_kept (challenge_columns (bare_row c))) (λ (c : Owned ChallengeRow). challenge_difference c.row row)
    (record { owner = n; row = row }) (option_map (λ c. record { owner = n; row = c }) stored)
challenge_differs n row stored = record {
  updates = λ old stands is.
      ap (λ k. challenge_kept (challenge_columns (bare_row (record { owner = k; row = old.row })))) (owner_is n stored old stands)
      ∙ challenge_is_kept n old.row row (moved_keeps (keeps_challenge old.row row) (is_same_challenge old.row row) is);
  same = λ old stands number is. let all = same_is (keeps_challenge old.row row) (is_same_challenge old.row row) is in
      ap (λ k. challenge_image (record { owner = k; row = old.row })) (owner_is n stored old stands) ∙ same_challenge n old.row row number all.0 all.1;
}

-- the key of an answer
pub key_differs : (row : AnswerKey) (stored : Option AnswerKey) → Differs key_layout (λ _. []) (λ old. key_difference old row) row stored
key_differs row stored = search rules

-- ---- an order is always written

pub order_written : (stored : Option OrderRow) (new : Bool) (row : OrderRow) → write (option_map (λ old. order_difference old row) stored) new ≡ None → ⊥
order_written stored new row h = grind arith
