-- The rows that a desk keeps, and which stored statuses are faults.
use Rattle.desk_model.specs.{declared.rows.ChallengeRow.ChallengeRow, declared.rows.AuthorizationRow.AuthorizationRow, declared.rows.AccountRow.AccountRow}
use Rattle.desk_model.specs.{declared.rows.OrderRow.OrderRow, declared.status.Kind.Kind, Tables.Tables, Tables.picture, Tables.tables_at, Derived.status_faults}
use Rattle.desk_model.specs.{Name.Name, declared.status.Kind.TheVariants.Http01 as http_01, declared.status.Kind.TheVariants.Dns01 as dns_01}
use Rattle.std.specs.Prelude.{◌≡◌, ℕ, List, [], ◌∷◌, map, Some, None, codes}
use Rattle.desk_model.specs.declared.rows.StatusFault.TheVariants as fault
use Rattle.desk_model.specs.declared.status.EndKind.TheVariants as kind
use Rattle.desk_model.specs.declared.status.AccountStatus.TheVariants as account
use Rattle.desk_model.specs.declared.status.OrderStatus.TheVariants as order
use Rattle.desk_model.specs.declared.status.AuthzStatus.TheVariants as authz
use Rattle.desk_model.specs.declared.status.ChallengeStatus.TheVariants as chall
use Rattle.model_examples.specs.Entries.{answered, reported, connection, authorization_ended, revoked, History}
use Rattle.model_examples.specs.Calls.{on, zeros, order_desk, default_terms, terms_of, first_key, simple}
use Rattle.model_examples.specs.{Accounts.with_account, Orders.with_order, Orders.any_example_org}

-- the row of a challenge as it is made
abbrev pub made_challenge : ℕ → Kind → ChallengeRow
made_challenge number kind = record { number = number; kind = kind; token = zeros 16; answered = None; reported = None; status = chall.Pending }

-- that of an authorization made at 0
abbrev pub made_authorization : ℕ → Name → List ChallengeRow → AuthorizationRow
made_authorization number name challenges =
    record { number = number; account = 1; name = name; made = 0; expires = 2592000; ended = None; challenges = challenges; status = authz.Pending }

-- a desk whose authorization ended by a bad report at 20
abbrev pub failed_desk : History
failed_desk = on 20 (reported 1 connection) ∷ on 10 (answered 1) ∷ order_desk (terms_of 3600 100 100)

-- ---- status faults

-- the rows with the first order stored as ready
abbrev pub with_ready : Tables → Tables
with_ready T = record T { orders = map (λ (o : OrderRow). record o { status = order.Ready }) T.orders }

-- the rows with other statuses of accounts, authorizations and challenges
abbrev pub with_statuses : Tables → Tables
with_statuses T =
    record T {
      accounts = map (λ (a : AccountRow). record a { status = account.Revoked }) T.accounts;
      authorizations =
          map (λ (a : AuthorizationRow). record a {
            status = authz.Expired;
            challenges = map (λ (c : ChallengeRow). record c { status = chall.Valid }) a.challenges;
          })
          T.authorizations;
    }

-- the rows that a desk keeps of its history, and which stored statuses are faults
pub record RowsAreKept : Type 0 where
  -- after the first account: the counters, the one open nonce and the account
  pub first_rows : picture with_account
      ≡ (record {
        meta = record { policy = default_terms; counters = record { clock = 0; nonces = 2; accounts = 1; orders = 0; authorizations = 0; challenges = 0 } };
        nonces = (record { serial = 2; random = zeros 16; issued = 0 }) ∷ [];
        accounts = (record { number = 1; key = first_key; contacts = codes "mailto:a@b.example" ∷ []; opened = 0; ended = None; status = account.Valid }) ∷ [];
        authorizations = [];
        orders = [];
      })
  -- the rows of the first order's authorizations: a wildcard has one of its own
  pub authorization_rows : (picture with_order).authorizations
      ≡ made_authorization 1 (simple (codes "example.org")) (made_challenge 1 http_01 ∷ made_challenge 2 dns_01 ∷ [])
      ∷ made_authorization 2 any_example_org (made_challenge 3 dns_01 ∷ []) ∷ []
  -- the row of the first order, with its authorizations in their places
  pub order_rows : (picture with_order).orders
      ≡ (record {
        number = 1;
        account = 1;
        made = 0;
        expires = 604800;
        listed = (record { place = 1; authorization = 1 }) ∷ (record { place = 2; authorization = 2 }) ∷ [];
        finalized = None;
        certified = None;
        failed = None;
        status = order.Pending;
      })
      ∷ []
  -- a nonce stands in its table to the end of its life, whether or not anything else happens
  pub nonce_gone : (tables_at with_account 3601).nonces ≡ []
  -- the end of an authorization by a bad report
  pub end_row : map (λ a. a.ended) (picture failed_desk).authorizations ≡ Some (record { date = 20; kind = kind.Invalid }) ∷ []
  -- the first end counts, and a later entry leaves it
  pub first_end_row :
      map (λ a. a.ended) (picture (on 30 (authorization_ended 1 revoked) ∷ failed_desk)).authorizations ≡ Some (record { date = 20; kind = kind.Invalid }) ∷ []
  -- one dated past the authorization's moment does not count
  pub late_end_row : map (λ a. a.ended) (picture (on 101 (authorization_ended 1 revoked) ∷ order_desk (terms_of 3600 100 100))).authorizations ≡ None ∷ []
  -- ---- status faults
  -- rows as they are kept have none
  pub no_faults : status_faults (picture with_order) ≡ []
  -- it ought to be pending
  pub order_fault : status_faults (with_ready (picture with_order)) ≡ fault.Order 1 order.Ready order.Pending ∷ []
  -- faults stand by kind, then number; an order ought to follow the stored statuses of its authorizations
  pub all_faults :
      status_faults (with_statuses (picture with_order)) ≡ fault.Account 1 account.Revoked account.Valid ∷ fault.Order 1 order.Pending order.Invalid
      ∷ fault.Authz 1 authz.Expired authz.Pending ∷ fault.Authz 2 authz.Expired authz.Pending
      ∷ fault.Chall 1 chall.Valid chall.Pending ∷ fault.Chall 2 chall.Valid chall.Pending ∷ fault.Chall 3 chall.Valid chall.Pending ∷ []
