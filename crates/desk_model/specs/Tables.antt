-- The tables of a history at a moment: a row for each object, with its dated columns and its status then.
use Rattle.std.specs.Prelude.{ℕ, ◌+◌, List, [], ◌∷◌, length, map, Option}
use Rattle.std.specs.List.{filter}
use Rattle.desk_model.specs.Account.{Account, accounts, account_end, account_status, contacts, key_of}
use Rattle.desk_model.specs.Authorization.{Authorization, AuthorizationEnd, Challenge, Answer, Report, authorizations, authorization_end, authorization_status}
use Rattle.desk_model.specs.Authorization.{report, answer, challenge_status, count_challenges}
use Rattle.desk_model.specs.Order.{Order, DatedBytes, DatedProblem, orders, csr, certificate, failure, order_status}
use Rattle.desk_model.specs.{Entry.History, History.clock, History.terms, Nonce.Nonce, Nonce.nonces, Nonce.is_open, declared.status.AuthzStatus.AuthzStatus}
use Rattle.desk_model.specs.{declared.status.ChallengeStatus.ChallengeStatus, declared.status.OrderStatus.OrderStatus}
pub use Rattle.desk_model.specs.declared.rows.Counters.{Counters}
pub use Rattle.desk_model.specs.declared.rows.Meta.{Meta}
pub use Rattle.desk_model.specs.declared.rows.AccountRow.{AccountRow}
pub use Rattle.desk_model.specs.declared.rows.ChallengeRow.{ChallengeRow}
pub use Rattle.desk_model.specs.declared.rows.AuthorizationRow.{AuthorizationRow}
pub use Rattle.desk_model.specs.declared.rows.OrderRow.{OrderRow}
pub use Rattle.desk_model.specs.declared.rows.Listed.{Listed}

-- an authorization's row holds those of its challenges, an order's row the places of its authorizations
pub record Tables : Type 0 where
  pub meta : Meta
  pub nonces : List Nonce
  pub accounts : List AccountRow
  pub authorizations : List AuthorizationRow
  pub orders : List OrderRow

abbrev pub account_row : History → Account → AccountRow
account_row F a =
    record { number = a.number; key = key_of a F; contacts = contacts a F; opened = a.opened; ended = account_end a F; status = account_status a F }

-- the row of a challenge with this answer, this report and this status
abbrev pub row_of_challenge : Challenge → Option Answer → Option Report → ChallengeStatus → ChallengeRow
row_of_challenge c answered reported status =
    record { number = c.number; kind = c.kind; token = c.token; answered = answered; reported = reported; status = status }

-- a challenge of the account of this number
abbrev pub challenge_row : History → ℕ → Challenge → ChallengeRow
challenge_row F account c = row_of_challenge c (answer account c.number F) (report c.number F) (challenge_status c.number F)

-- the row of an authorization with this end, these challenges and this status
abbrev pub row_of_authorization : Authorization → Option AuthorizationEnd → List ChallengeRow → AuthzStatus → AuthorizationRow
row_of_authorization a ended challenges status =
    record {
      number = a.number;
      account = a.account;
      name = a.name;
      made = a.made;
      expires = a.expires;
      ended = ended;
      challenges = challenges;
      status = status;
    }

abbrev pub authorization_row : History → ℕ → Authorization → AuthorizationRow
authorization_row F t a =
    row_of_authorization a (authorization_end a F) (map (challenge_row F a.account) a.challenges) (authorization_status a F t)

-- authorizations, by their numbers, in their places, counted from here
abbrev pub listed_from : ℕ → List ℕ → List Listed
listed_from place [] = []
listed_from place (n ∷ rest) = (record { place = place; authorization = n }) ∷ listed_from (place + 1) rest

-- the row of an order with this CSR, this certificate, this failure and this status
abbrev pub row_of_order : Order → (finalized certified : Option DatedBytes) → Option DatedProblem → OrderStatus → OrderRow
row_of_order o finalized certified failed status =
    record {
      number = o.number;
      account = o.account;
      made = o.made;
      expires = o.expires;
      listed = listed_from 1 o.authorizations;
      finalized = finalized;
      certified = certified;
      failed = failed;
      status = status;
    }

abbrev pub order_row : History → ℕ → Order → OrderRow
order_row F t o = row_of_order o (csr o.number F) (certificate o.number F) (failure o.number F) (order_status o F t)

-- the counters are the last numbers given; a nonce has a row while it is open
abbrev pub tables_at : History → ℕ → Tables
tables_at F t =
    record {
      meta = record {
        policy = terms F;
        counters = record {
          clock = t;
          nonces = length (nonces F);
          accounts = length (accounts F);
          orders = length (orders F);
          authorizations = length (authorizations F);
          challenges = count_challenges (authorizations F);
        };
      };
      nonces = filter (is_open F t) (nonces F);
      accounts = map (account_row F) (accounts F);
      authorizations = map (authorization_row F t) (authorizations F);
      orders = map (order_row F t) (orders F);
    }

-- what a desk keeps of a history: its tables at its clock
abbrev pub picture : History → Tables
picture F = tables_at F (clock F)
