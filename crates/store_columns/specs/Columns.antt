-- The columns of each row, in format 2. What stands in a table of its own is left out: the challenges of an
-- authorization, what an order lists, and the keys of answers.
use Rattle.std.specs.Prelude.{ℕ, ℤ, pos, List, map, Bool, if◌then◌else◌, Option, option_map}
use Rattle.desk_model.specs.Document.{account_status_text, authorization_status_text, challenge_status_text, kind_text, order_status_text}
use Rattle.desk_model.specs.Facts.{ending_text, end_kind_text, outcome_text}
use Rattle.desk_model.specs.declared.{objects.AccountEnd.AccountEnd, objects.AuthorizationEnd.AuthorizationEnd, objects.Nonce.Nonce, objects.Report.Report}
use Rattle.desk_model.specs.declared.{rows.AccountRow.AccountRow, rows.AuthorizationRow.AuthorizationRow, rows.DatedBytes.DatedBytes}
use Rattle.desk_model.specs.declared.{rows.DatedProblem.DatedProblem, rows.Listed.Listed, rows.Meta.Meta, rows.OrderRow.OrderRow}
use Rattle.store_columns.specs.Spelling.{contacts_text, problem_text}
use Rattle.store_columns.specs.declared.{columns.AccountColumns.AccountColumns, columns.AuthzColumns.AuthzColumns, columns.ChallColumns.ChallColumns}
use Rattle.store_columns.specs.declared.{columns.ChallKeyColumns.ChallKeyColumns, columns.MetaColumns.MetaColumns, columns.NonceColumns.NonceColumns}
use Rattle.store_columns.specs.declared.{columns.OrderAuthzColumns.OrderAuthzColumns, columns.OrderColumns.OrderColumns, columns.StoredRows.StoredRows}
use Rattle.store_columns.specs.declared.{columns.OrderSummaryColumns.OrderSummaryColumns, columns.AnswerKey.AnswerKey, columns.BareChallenge.BareChallenge}
use Rattle.store_columns.specs.declared.{columns.FlatRows.FlatRows, columns.Owned.Owned}

-- ---- the columns of one fact

-- a fact's date and what else it says, in two columns: both are NULL where there is no fact
abbrev pub dated_columns : {X Y : Type 0} → (date : X → ℕ) → (other : X → Y) → Option X → Option ℤ × Option Y
dated_columns date other fact = (option_map (λ x. pos (date x)) fact, option_map other fact)

-- `ended` and `end_kind` of an account
abbrev pub account_end_columns : Option AccountEnd → Option ℤ × Option (List ℕ)
account_end_columns end = dated_columns (λ e. e.date) (λ e. ending_text e.ending) end

-- `ended` and `end_kind` of an authorization
abbrev pub authorization_end_columns : Option AuthorizationEnd → Option ℤ × Option (List ℕ)
authorization_end_columns end = dated_columns (λ e. e.date) (λ e. end_kind_text e.kind) end

-- `finalized` and `csr`, or `certified` and `cert`
abbrev pub dated_bytes_columns : Option DatedBytes → Option ℤ × Option (List ℕ)
dated_bytes_columns kept = dated_columns (λ k. k.date) (λ k. k.bytes) kept

-- `failed` and `problem`
abbrev pub dated_problem_columns : Option DatedProblem → Option ℤ × Option (List ℕ)
dated_problem_columns failure = dated_columns (λ f. f.date) (λ f. problem_text f.problem) failure

-- `reported` and `outcome`
abbrev pub report_columns : Option Report → Option ℤ × Option (List ℕ)
report_columns report = dated_columns (λ r. r.date) (λ r. outcome_text r.outcome) report

-- ---- the columns of one row

-- the format of the tables
abbrev pub known_format : ℤ
known_format = pos 2

-- the one before it
abbrev pub first_format : ℤ
first_format = pos 1

-- those of `meta`
abbrev pub meta_columns : Meta → MetaColumns
meta_columns row =
    record {
      id = pos 1;
      format = known_format;
      base = row.policy.base;
      nonce_life = pos row.policy.nonce_life;
      order_life = pos row.policy.order_life;
      authz_life = pos row.policy.authz_life;
      clock = pos row.counters.clock;
      nonces = pos row.counters.nonces;
      accounts = pos row.counters.accounts;
      orders = pos row.counters.orders;
      authzs = pos row.counters.authorizations;
      challs = pos row.counters.challenges;
    }

-- those of `nonce`
abbrev pub nonce_columns : Nonce → NonceColumns
nonce_columns row = record { serial = pos row.serial; random = row.random; issued = pos row.issued }

-- those of `account`
abbrev pub account_columns : AccountRow → AccountColumns
account_columns row =
    record {
      num = pos row.number;
      jwk = row.key;
      contacts = contacts_text row.contacts;
      opened = pos row.opened;
      ended = (account_end_columns row.ended).0;
      end_kind = (account_end_columns row.ended).1;
      status = account_status_text row.status;
    }

-- those of `ord`
abbrev pub order_columns : OrderRow → OrderColumns
order_columns row =
    record {
      num = pos row.number;
      account = pos row.account;
      made = pos row.made;
      expires = pos row.expires;
      finalized = (dated_bytes_columns row.finalized).0;
      csr = (dated_bytes_columns row.finalized).1;
      certified = (dated_bytes_columns row.certified).0;
      cert = (dated_bytes_columns row.certified).1;
      failed = (dated_problem_columns row.failed).0;
      problem = (dated_problem_columns row.failed).1;
      status = order_status_text row.status;
    }

-- those of an order in summary
abbrev pub summary_columns : OrderRow → OrderSummaryColumns
summary_columns row =
    record {
      num = pos row.number;
      account = pos row.account;
      made = pos row.made;
      expires = pos row.expires;
      status = order_status_text row.status;
    }

-- 1 for a wildcard
abbrev pub wildcard_column : Bool → ℤ
wildcard_column wildcard = if wildcard then pos 1 else pos 0

-- those of `authz`
abbrev pub authorization_columns : AuthorizationRow → AuthzColumns
authorization_columns row =
    record {
      num = pos row.number;
      account = pos row.account;
      name = row.name.base;
      wildcard = wildcard_column row.name.wildcard;
      made = pos row.made;
      expires = pos row.expires;
      ended = (authorization_end_columns row.ended).0;
      end_kind = (authorization_end_columns row.ended).1;
      status = authorization_status_text row.status;
    }

-- those of `ord_authz`
abbrev pub listed_columns : Owned Listed → OrderAuthzColumns
listed_columns row = record { ord = pos row.owner; place = pos row.row.place; authz = pos row.row.authorization }

-- those of `chall`
abbrev pub challenge_columns : Owned BareChallenge → ChallColumns
challenge_columns row =
    record {
      num = pos row.row.number;
      authz = pos row.owner;
      kind = kind_text row.row.kind;
      token = row.row.token;
      answered = option_map (λ n. pos n) row.row.answered;
      reported = (report_columns row.row.reported).0;
      outcome = (report_columns row.row.reported).1;
      status = challenge_status_text row.row.status;
    }

-- those of `chall_key`
abbrev pub key_columns : AnswerKey → ChallKeyColumns
key_columns row = record { chall = pos row.challenge; thumb = row.thumb }

-- the columns of the rows of all tables
abbrev pub rows_columns : FlatRows → StoredRows
rows_columns rows =
    record {
      metas = map meta_columns rows.metas;
      nonces = map nonce_columns rows.nonces;
      accounts = map account_columns rows.accounts;
      orders = map order_columns rows.orders;
      authzs = map authorization_columns rows.authorizations;
      order_authzs = map listed_columns rows.listed;
      challs = map challenge_columns rows.challenges;
      chall_keys = map key_columns rows.keys;
    }
