-- The rows that a call touches, by their numbers.
use Rattle.std.specs.Prelude.{◌≡◌, ℕ, ◌+◌, List, [], ◌∷◌, ◌++◌, map, take, false, Some, Err, codes}
use Rattle.std.specs.List.{flat_map}
use Rattle.desk_model.specs.{Tables.Tables, Tables.picture, Tables.tables_at, Touched.touched, declared.rows.OrderRow.OrderRow, declared.call.Call.Call}
use Rattle.desk_model.specs.declared.call.Ask.TheVariants as ask
use Rattle.desk_model.specs.declared.call.OfficeAsk.TheVariants as office
use Rattle.desk_model.specs.declared.call.FetchError.TheVariants as fetch
use Rattle.desk_model.specs.declared.call.Finding.TheVariants as found
use Rattle.desk_model.specs.declared.call.Target.TheVariants as to
use Rattle.model_examples.specs.Entries.{issued, opened, ordered, History}
use Rattle.model_examples.specs.Calls.{on, zeros, account_desk, default_terms, first_key, second_key, asked, signed, request, nonce_one, nonce_two, nonce_four}
use Rattle.model_examples.specs.Calls.{nonce_seven, wants}
use Rattle.model_examples.specs.{Endings.order_of, Endings.busy_desk, Keys.rsa_key, Offices.handed, KeyChanges.first_url, KeyChanges.rekey}

-- the numbers of the rows of tables; that of a nonce is its serial
pub record Numbers : Type 0 where
  pub nonces : List ℕ
  pub accounts : List ℕ
  pub authorizations : List ℕ
  pub challenges : List ℕ
  pub orders : List ℕ

-- nonces, accounts, authorizations, challenges and orders of these numbers
abbrev pub rows_of : (nonces accounts authorizations challenges orders : List ℕ) → Numbers
rows_of nonces accounts authorizations challenges orders =
    record { nonces = nonces; accounts = accounts; authorizations = authorizations; challenges = challenges; orders = orders }

-- those of these tables
abbrev pub numbers_in : Tables → Numbers
numbers_in T = rows_of (map (λ n. n.serial) T.nonces) (map (λ a. a.number) T.accounts) (map (λ a. a.number) T.authorizations)
    (map (λ c. c.number) (flat_map (λ a. a.challenges) T.authorizations)) (map (λ o. o.number) T.orders)

-- of these tables the call touches the rows of these numbers
abbrev pub Touches : Tables → Call → Numbers → Type 0
Touches T call rows = numbers_in (touched T call) ≡ rows

-- no row beside the meta row
abbrev pub no_rows : Numbers
no_rows = rows_of [] [] [] [] []

-- the first order with the two names that it is for, its account and the request's nonce
abbrev pub first_order_rows : Numbers
first_order_rows = rows_of (1 ∷ []) (1 ∷ []) (1 ∷ 2 ∷ []) (1 ∷ 2 ∷ 3 ∷ 4 ∷ []) (1 ∷ [])

-- orders 1, 3 and 4 of the first account, the first of two names, and order 2 of another; two open nonces
abbrev pub two_clients : History
two_clients = on 0 (order_of (codes "e.example")) ∷ on 0 (order_of (codes "d.example"))
    ∷ on 0 (ordered 2 (wants (codes "c.example") ∷ [])) ∷ on 0 (ordered 1 (wants (codes "a.example") ∷ wants (codes "b.example") ∷ []))
    ∷ on 0 (opened second_key []) ∷ on 0 (issued (zeros 16)) ∷ account_desk

-- its rows
abbrev pub client_rows : Tables
client_rows = picture two_clients

-- ---- accounts

-- newAccount by the key of the first account, with this nonce
abbrev pub knowing : List ℕ → Call
knowing nonce = asked 0 16 (signed first_key nonce to.NewAccount (codes "{}"))

-- what the first account has, with it and the request's nonce
abbrev pub first_account_rows : Numbers
first_account_rows = rows_of (1 ∷ []) (1 ∷ []) (1 ∷ 2 ∷ 4 ∷ 5 ∷ []) (1 ∷ 2 ∷ 3 ∷ 4 ∷ 7 ∷ 8 ∷ 9 ∷ 10 ∷ []) (1 ∷ 3 ∷ 4 ∷ [])

-- what both accounts have, with them and the request's nonce
abbrev pub both_accounts_rows : Numbers
both_accounts_rows = rows_of (1 ∷ []) (1 ∷ 2 ∷ []) (1 ∷ 2 ∷ 3 ∷ 4 ∷ 5 ∷ []) (1 ∷ 2 ∷ 3 ∷ 4 ∷ 5 ∷ 6 ∷ 7 ∷ 8 ∷ 9 ∷ 10 ∷ []) (1 ∷ 2 ∷ 3 ∷ 4 ∷ [])

-- ---- orders

-- newOrder touches the account and the nonce, and no order
abbrev pub NewOrder : Type 0
NewOrder = Touches client_rows (request to.NewOrder (codes "{\"identifiers\":[{\"type\":\"dns\",\"value\":\"f.example\"}]}"))
    (rows_of (1 ∷ []) (1 ∷ []) [] [] [])

-- ---- authorizations and challenges

-- a report of the validator on a challenge
abbrev pub report_on : ℕ → Call
report_on challenge = handed (office.Report challenge (found.Error fetch.Dns))

-- ---- orders that share authorizations

-- each order is of the second account, and lists the authorization of its number and the next
abbrev pub shared : OrderRow → OrderRow
shared o = record o { account = 2; listed = (record { place = 1; authorization = o.number }) ∷ (record { place = 2; authorization = o.number + 1 }) ∷ [] }

-- the rows with such orders
abbrev pub shared_rows : Tables
shared_rows = record client_rows { orders = map shared client_rows.orders }

-- ---- what falls by the passing of time

-- five orders to 604800, pending, ready, invalid, processing and valid; one of another account to 604801; nonces of two moments
abbrev pub ending_desk : History
ending_desk = on 601201 (issued (zeros 16)) ∷ on 601200 (issued (zeros 16)) ∷ on 601200 (issued (zeros 16))
    ∷ on 1 (ordered 2 (wants (codes "f.example") ∷ [])) ∷ on 1 (opened second_key []) ∷ busy_desk

-- its rows
abbrev pub ending_rows : Tables
ending_rows = picture ending_desk

-- newNonce at a moment
abbrev pub nonce_at : ℕ → Call
nonce_at moment = asked moment 16 (ask.NewNonce false)

-- the three orders that fall at 604801, what they list and their account, and the nonces past their life
abbrev pub fallen_rows : Numbers
fallen_rows = rows_of (2 ∷ 3 ∷ []) (1 ∷ []) (1 ∷ 2 ∷ 4 ∷ []) (1 ∷ 2 ∷ 3 ∷ 4 ∷ 7 ∷ 8 ∷ []) (1 ∷ 2 ∷ 4 ∷ [])

-- beside these the last nonce, and the order of the other account
abbrev pub more_rows : Numbers
more_rows = rows_of (2 ∷ 3 ∷ 4 ∷ []) (1 ∷ 2 ∷ []) (1 ∷ 2 ∷ 4 ∷ 6 ∷ []) (1 ∷ 2 ∷ 3 ∷ 4 ∷ 7 ∷ 8 ∷ 11 ∷ 12 ∷ []) (1 ∷ 2 ∷ 4 ∷ 6 ∷ [])

-- which rows a call touches: what it names, what falls by the passing of time, and what hangs on these
pub record RowsAreTouched : Type 0 where
  -- ---- all rows, and none
  -- the directory touches the meta row alone, whatever is past its end
  pub directory : touched client_rows (asked 2592001 0 (ask.Office office.Directory))
      ≡ (record {
        meta = record { policy = default_terms; counters = record { clock = 0; nonces = 2; accounts = 2; orders = 4; authorizations = 5; challenges = 10 } };
        nonces = [];
        accounts = [];
        authorizations = [];
        orders = [];
      })
  -- the list of challenges that wait touches all rows
  pub challenge_work : touched client_rows (handed office.ChallengeWork) ≡ client_rows
  -- and that of orders
  pub order_work : touched client_rows (handed office.OrderWork) ≡ client_rows
  -- newNonce names nothing
  pub new_nonce : Touches client_rows (asked 0 16 (ask.NewNonce false)) no_rows
  -- ---- accounts
  -- newAccount by a key that has none touches the nonce
  pub new_account : Touches client_rows (asked 0 16 (signed rsa_key nonce_two to.NewAccount (codes "{}"))) (rows_of (2 ∷ []) [] [] [] [])
  -- a key that cannot be read has no account
  pub bad_key :
      Touches client_rows (asked 0 16 (ask.Signed (record { target = to.NewAccount; key = Err (record {}); nonce = Some nonce_one; payload = codes "{}" })))
      (rows_of (1 ∷ []) [] [] [] [])
  -- the row of a nonce is found by its serial, whatever its random bytes are
  pub guessed_nonce : Touches client_rows (knowing (codes "AAAAAAAAAAEAAAAAAAAAAAAAAAAAAAAB")) (rows_of (1 ∷ []) (1 ∷ []) [] [] [])
  -- a nonce that was never issued has no row
  pub unknown_nonce : Touches client_rows (knowing nonce_seven) (rows_of [] (1 ∷ []) [] [] [])
  -- nor has a text that spells no nonce
  pub no_nonce_text : Touches client_rows (knowing (codes "AAAA")) (rows_of [] (1 ∷ []) [] [] [])
  -- an account that may end: all its authorizations, and the orders that list them
  pub account_ends : Touches client_rows (request (to.Account 1) (codes "{\"status\":\"deactivated\"}")) first_account_rows
  -- at the path of another account both count, that of the key and that of the path
  pub account_of_another : Touches client_rows (request (to.Account 2) []) both_accounts_rows
  -- the operator ends the other: no key, and no nonce
  pub account_revoked : Touches client_rows (handed (office.RevokeAccount 2)) (rows_of [] (2 ∷ []) (3 ∷ []) (5 ∷ 6 ∷ []) (2 ∷ []))
  -- the orders of an account, and what they list
  pub orders_of_account : Touches client_rows (request (to.Orders 1) []) first_account_rows
  -- those of both accounts, at the path of another's list
  pub orders_of_another : Touches client_rows (request (to.Orders 2) []) both_accounts_rows
  -- the key of an account: its row alone
  pub key_of_account : Touches client_rows (handed (office.KeyOf 2)) (rows_of [] (2 ∷ []) [] [] [])
  -- a change of keys touches the account that has the new key
  pub new_key_taken : Touches client_rows (request to.KeyChange (rekey first_url second_key first_key)) (rows_of (1 ∷ []) (1 ∷ 2 ∷ []) [] [] [])
  -- and no other where none has it
  pub new_key_free : Touches client_rows (request to.KeyChange (rekey first_url rsa_key first_key)) (rows_of (1 ∷ []) (1 ∷ []) [] [] [])
  -- a payload that gives no account names no key
  pub new_key_alone : Touches client_rows (request to.KeyChange (codes "{\"newKey\":" ++ (second_key ++ codes "}"))) (rows_of (1 ∷ []) (1 ∷ []) [] [] [])
  -- ---- orders
  pub new_order : NewOrder
  -- an order: its authorizations with their challenges, its account, and no other order
  pub one_order : Touches client_rows (request (to.Order 1) []) first_order_rows
  -- each of these rows is as it stands, and the meta row is beside them
  pub whole_rows : touched client_rows (request (to.Order 1) [])
      ≡ (record {
        meta = client_rows.meta;
        nonces = take 1 client_rows.nonces;
        accounts = take 1 client_rows.accounts;
        authorizations = take 2 client_rows.authorizations;
        orders = take 1 client_rows.orders;
      })
  -- an order of another account, with both accounts
  pub order_of_another : Touches client_rows (request (to.Order 2) []) (rows_of (1 ∷ []) (1 ∷ 2 ∷ []) (3 ∷ []) (5 ∷ 6 ∷ []) (2 ∷ []))
  -- an order that was never made
  pub unknown_order : Touches client_rows (request (to.Order 5) []) (rows_of (1 ∷ []) (1 ∷ []) [] [] [])
  -- finalize touches the order's rows
  pub finalize : Touches client_rows (request (to.Finalize 3) (codes "{\"csr\":\"AQID\"}")) (rows_of (1 ∷ []) (1 ∷ []) (4 ∷ []) (7 ∷ 8 ∷ []) (3 ∷ []))
  -- so does the path of its certificate
  pub certificate : Touches client_rows (request (to.Cert 1) []) first_order_rows
  -- and what the signing office hands in, without a nonce
  pub certifies : Touches client_rows (handed (office.Certify 1 (codes "chain"))) (record first_order_rows { nonces = [] })
  -- which may be why it makes no certificate
  pub fails : Touches client_rows (handed (office.FailOrder 2 (record { kind = codes "badCSR"; detail = codes "key too short" })))
      (rows_of [] (2 ∷ []) (3 ∷ []) (5 ∷ 6 ∷ []) (2 ∷ []))
  -- ---- authorizations and challenges
  -- an authorization: the order that lists it, and all that this order lists
  pub one_authorization : Touches client_rows (request (to.Authz 2) []) first_order_rows
  -- a challenge: that of its authorization
  pub one_challenge : Touches client_rows (request (to.Chall 3) (codes "{}")) first_order_rows
  -- the operator revokes an authorization
  pub authorization_revoked : Touches client_rows (handed (office.RevokeAuthz 4)) (rows_of [] (1 ∷ []) (4 ∷ []) (7 ∷ 8 ∷ []) (3 ∷ []))
  -- the authorization of the challenge, the order that lists it, what this order lists, and the account
  pub report : Touches client_rows (report_on 3) (record first_order_rows { nonces = [] })
  -- ---- orders that share authorizations
  -- all orders that list the authorization, with all that they list, but none that lists one of these alone
  pub shared_report : Touches shared_rows (report_on 3) (rows_of [] (1 ∷ 2 ∷ []) (1 ∷ 2 ∷ 3 ∷ []) (1 ∷ 2 ∷ 3 ∷ 4 ∷ 5 ∷ 6 ∷ []) (1 ∷ 2 ∷ []))
  -- an order takes what it lists, and not the orders that list that; its account counts beside theirs
  pub shared_order : Touches shared_rows (handed (office.Certify 1 (codes "chain"))) (rows_of [] (1 ∷ 2 ∷ []) (1 ∷ 2 ∷ []) (1 ∷ 2 ∷ 3 ∷ 4 ∷ []) (1 ∷ []))
  -- an account that may end takes the orders that list its authorizations, and not all of its own
  pub shared_account : Touches shared_rows (asked 0 16 (signed second_key nonce_one (to.Account 2) []))
      (rows_of (1 ∷ []) (1 ∷ 2 ∷ []) (2 ∷ 3 ∷ 4 ∷ []) (3 ∷ 4 ∷ 5 ∷ 6 ∷ 7 ∷ 8 ∷ []) (2 ∷ 3 ∷ []))
  -- an account with authorizations and without orders: its list of orders touches none of them
  pub no_orders : Touches shared_rows (request (to.Orders 1) []) (rows_of (1 ∷ []) (1 ∷ []) [] [] [])
  -- ---- what falls by the passing of time
  -- in the last second nothing falls
  pub last_second : Touches ending_rows (nonce_at 604800) no_rows
  -- a second later three orders end: a pending, a ready and a processing one
  pub orders_end : Touches ending_rows (nonce_at 604801) fallen_rows
  -- a request touches what it names beside these
  pub request_at_end : Touches ending_rows (asked 604801 16 (signed second_key nonce_four (to.Order 6) [])) more_rows
  -- a call with an earlier moment acts at the clock
  pub earlier_moment : Touches (record ending_rows { meta = record ending_rows.meta { counters = record ending_rows.meta.counters { clock = 604801 } } })
      (nonce_at 0) fallen_rows
  -- what has fallen falls no more
  pub fallen_once : Touches (tables_at ending_desk 604801) (nonce_at 604801) no_rows
  -- in the last second of its authorization a valid order is not touched
  pub authorizations_last : Touches ending_rows (nonce_at 2592000) more_rows
  -- a second later it is, by what it lists; an order that is invalid with its authorization is not
  pub authorizations_end : Touches ending_rows (nonce_at 2592001)
      (rows_of (2 ∷ 3 ∷ 4 ∷ []) (1 ∷ 2 ∷ []) (1 ∷ 2 ∷ 4 ∷ 5 ∷ 6 ∷ []) (1 ∷ 2 ∷ 3 ∷ 4 ∷ 7 ∷ 8 ∷ 9 ∷ 10 ∷ 11 ∷ 12 ∷ []) (1 ∷ 2 ∷ 4 ∷ 5 ∷ 6 ∷ []))
