-- What an entry, and what the passing of time, does to the rows.
use Rattle.std.specs.Prelude.{ℕ, ◌+◌, List, [], ◌∷◌, ◌++◌, length, map, Bool, true, false, not, cond, ◌&&◌, ◌||◌, ◌==◌, nat_lt}
use Rattle.std.specs.Prelude.{nat_le, Option, Some, None, find, is_some, unwrap_or}
use Rattle.std.specs.List.{filter, list_any}
use Rattle.desk_model.specs.Entry.{Entry, spent, contacts_changed, key_changed, account_ended, answered, reported, authorization_ended, finalized, certified}
use Rattle.desk_model.specs.Entry.{failed, Outcome}
use Rattle.desk_model.specs.Account.{Account, opened_by, AccountEnd, changing, rekeying, ends as account_ends, status_of as account_status_of}
use Rattle.desk_model.specs.Authorization.{Authorization, Challenge, AuthorizationEnd, Answer, Report, made_by, count_challenges, ends_by, in_time, is_live}
use Rattle.desk_model.specs.Authorization.{challenge_status_by}
use Rattle.desk_model.specs.Tables.{AccountRow, ChallengeRow, AuthorizationRow, OrderRow, Tables, row_of_authorization, row_of_challenge, row_of_order}
use Rattle.desk_model.specs.{Terms.Terms, Lookup.holds, Keys.thumbprint, History.terms_after, History.earlier, Nonce.Nonce, Nonce.issued_by, Order.Order}
use Rattle.desk_model.specs.{Order.ordered_by, Order.finalizing, Order.certifying, Order.failing, Derived.authorization_numbered, Derived.numbers_of}
use Rattle.desk_model.specs.{Derived.restated_authorization, Derived.restated_order, declared.status.OrderStatus.OrderStatus}
use Rattle.desk_model.specs.declared.status.AccountStatus.TheVariants as account
use Rattle.desk_model.specs.declared.status.OrderStatus.TheVariants as order
use Rattle.desk_model.specs.declared.status.AuthzStatus.TheVariants as authz
use Rattle.desk_model.specs.declared.status.ChallengeStatus.TheVariants as chall

-- ---- dated columns

abbrev pub noted_account : Entry → ℕ → AccountRow → AccountRow
noted_account e m row =
    let ended : Option AccountEnd = earlier row.ended (account_ends row.number e m) in
    record row {
      key = unwrap_or (rekeying row.number e) row.key;
      contacts = unwrap_or (changing row.number e) row.contacts;
      ended = ended;
      status = account_status_of ended;
    }

abbrev pub key_in : Option AccountRow → List ℕ
key_in None = []
key_in (Some row) = row.key

-- the key of the account of this number, empty where it has no row
abbrev pub key_numbered : ℕ → List AccountRow → List ℕ
key_numbered n rows = key_in (find (λ a. a.number == n) rows)

-- a challenge that is answered under this key
abbrev pub answered_challenge : ℕ → List ℕ → ChallengeRow → ChallengeRow
answered_challenge m key row =
    let was_answered : Option Answer = earlier row.answered (Some (record { date = m; thumb = thumbprint key })) in
    record row { answered = was_answered; status = challenge_status_by row.reported (is_some was_answered) }

abbrev pub reported_challenge : Outcome → ℕ → ChallengeRow → ChallengeRow
reported_challenge outcome m row =
    let was_reported : Option Report = earlier row.reported (Some (record { date = m; outcome = outcome })) in
    record row { reported = was_reported; status = challenge_status_by was_reported (is_some row.answered) }

-- a challenge of an account that has this key
abbrev pub noted_challenge : Entry → ℕ → List ℕ → ChallengeRow → ChallengeRow
noted_challenge (answered n) m key row = cond (n == row.number) (answered_challenge m key row) row
noted_challenge (reported n outcome) m key row = cond (n == row.number) (reported_challenge outcome m row) row
noted_challenge _ m key row = row

abbrev pub has_row : ℕ → AuthorizationRow → Bool
has_row number row = list_any (λ c. number == c.number) row.challenges

-- how the entry ends the authorization, if it does
abbrev pub row_ends : AuthorizationRow → Entry → ℕ → Option AuthorizationEnd
row_ends row = ends_by row.number row.account (λ n. has_row n row)

-- an authorization, beside the accounts as they stand
abbrev pub noted_authorization : Entry → ℕ → List AccountRow → AuthorizationRow → AuthorizationRow
noted_authorization e m accounts row =
    record row {
      ended = earlier row.ended (in_time row.expires (row_ends row e m));
      challenges = map (noted_challenge e m (key_numbered row.account accounts)) row.challenges;
    }

abbrev pub noted_order : Entry → ℕ → OrderRow → OrderRow
noted_order e m row =
    record row {
      finalized = earlier row.finalized (finalizing row.number e m);
      certified = earlier row.certified (certifying row.number e m);
      failed = earlier row.failed (failing row.number e m);
    }

-- ---- which rows an entry touches

abbrev pub touches_account : Entry → AccountRow → Bool
touches_account (contacts_changed number contacts) row = number == row.number
touches_account (key_changed number key) row = number == row.number
touches_account (account_ended number ending) row = number == row.number
touches_account _ row = false

abbrev pub touches_authorization : Entry → AuthorizationRow → Bool
touches_authorization (answered challenge) row = has_row challenge row
touches_authorization (reported challenge outcome) row = has_row challenge row
touches_authorization (authorization_ended number ending) row = number == row.number
touches_authorization (account_ended number ending) row = number == row.account
touches_authorization _ row = false

abbrev pub names_order : Entry → ℕ → Bool
names_order (finalized number csr) n = number == n
names_order (certified number certificate) n = number == n
names_order (failed number failure) n = number == n
names_order _ n = false

-- one of these numbers is that of a row that passes the test
abbrev pub lists_one : (AuthorizationRow → Bool) → List AuthorizationRow → List ℕ → Bool
lists_one test rows numbers = list_any (λ n. holds test (authorization_numbered n rows)) numbers

-- ---- the rows afterwards

abbrev pub moved_account : Entry → ℕ → AccountRow → AccountRow
moved_account e m row = cond (touches_account e row) (noted_account e m row) row

abbrev pub moved_authorization : Entry → ℕ → List AccountRow → AuthorizationRow → AuthorizationRow
moved_authorization e m accounts row =
    cond (touches_authorization e row) (restated_authorization m (noted_authorization e m accounts row)) row

-- an order that the entry names, or that lists an authorization that the entry touches
abbrev pub touches_order : Entry → List AuthorizationRow → OrderRow → Bool
touches_order e before row = names_order e row.number || lists_one (touches_authorization e) before (numbers_of row.listed)

abbrev pub moved_order : Entry → ℕ → (before after : List AuthorizationRow) → OrderRow → OrderRow
moved_order e m before after row = cond (touches_order e before row) (restated_order m after (noted_order e m row)) row

abbrev pub fresh_account : Account → AccountRow
fresh_account a = record { number = a.number; key = a.key; contacts = a.contacts; opened = a.opened; ended = None; status = account.Valid }

abbrev pub fresh_challenge : Challenge → ChallengeRow
fresh_challenge c = row_of_challenge c None None chall.Pending

abbrev pub fresh_authorization : Authorization → AuthorizationRow
fresh_authorization a = row_of_authorization a None (map fresh_challenge a.challenges) authz.Pending

abbrev pub fresh_order : Order → OrderRow
fresh_order o = row_of_order o None None None order.Pending

abbrev pub not_spent : Entry → Nonce → Bool
not_spent (spent serial) n = not (serial == n.serial)
not_spent _ n = true

-- the authorizations that the entry makes
abbrev pub new_authorizations : Tables → Entry → ℕ → List Authorization
new_authorizations T e m = made_by e m T.meta.policy.authz_life (T.meta.counters.authorizations + 1) (T.meta.counters.challenges + 1)

abbrev pub authorizations_after : Tables → Entry → ℕ → List AuthorizationRow
authorizations_after T e m =
    map (moved_authorization e m T.accounts) T.authorizations
    ++ map (λ a. restated_authorization m (fresh_authorization a)) (new_authorizations T e m)

-- the tables after the entry
abbrev pub effect : ℕ → Tables → Entry → Tables
effect m T e =
    let more : List Authorization = new_authorizations T e m in
    let after : List AuthorizationRow = authorizations_after T e m in
    let more_orders : List Order = ordered_by e m T.meta.policy (T.meta.counters.authorizations + 1) (T.meta.counters.orders + 1) in
    let more_accounts : List Account = opened_by e m (T.meta.counters.accounts + 1) in
    let more_nonces : List Nonce = issued_by e m (T.meta.counters.nonces + 1) in
    record {
      meta = record {
        policy = terms_after e T.meta.policy;
        counters = record {
          clock = m;
          nonces = T.meta.counters.nonces + length more_nonces;
          accounts = T.meta.counters.accounts + length more_accounts;
          orders = T.meta.counters.orders + length more_orders;
          authorizations = T.meta.counters.authorizations + length more;
          challenges = T.meta.counters.challenges + count_challenges more;
        };
      };
      nonces = filter (not_spent e) T.nonces ++ more_nonces;
      accounts = map (moved_account e m) T.accounts ++ map fresh_account more_accounts;
      authorizations = after;
      orders = map (moved_order e m T.authorizations after) T.orders ++ map (λ o. restated_order m after (fresh_order o)) more_orders;
    }

-- ---- the passing of time

abbrev pub is_live_order : OrderStatus → Bool
is_live_order order.Valid = false
is_live_order order.Invalid = false
is_live_order _ = true

abbrev pub is_overdue : ℕ → AuthorizationRow → Bool
is_overdue m row = is_live row.status && nat_lt row.expires m

abbrev pub swept_authorization : ℕ → AuthorizationRow → AuthorizationRow
swept_authorization m row = cond (is_overdue m row) (record row { status = authz.Expired }) row

abbrev pub falls : ℕ → List AuthorizationRow → OrderRow → Bool
falls m rows row = is_live_order row.status && (nat_lt row.expires m || lists_one (is_overdue m) rows (numbers_of row.listed))

-- an order that falls is invalid
abbrev pub swept_order : ℕ → List AuthorizationRow → OrderRow → OrderRow
swept_order m rows row = cond (falls m rows row) (record row { status = order.Invalid }) row

abbrev pub lasts : Terms → ℕ → Nonce → Bool
lasts t m n = nat_le m (n.issued + t.nonce_life)

abbrev pub swept : ℕ → Tables → Tables
swept m T =
    record {
      meta = record T.meta { counters = record T.meta.counters { clock = m } };
      nonces = filter (lasts T.meta.policy m) T.nonces;
      accounts = T.accounts;
      authorizations = map (swept_authorization m) T.authorizations;
      orders = map (swept_order m T.authorizations) T.orders;
    }

-- ---- several entries, one after the other

abbrev pub effects : ℕ → Tables → List Entry → Tables
effects m T [] = T
effects m T (e ∷ es) = effects m (effect m T e) es
