-- The columns that a row of an answer spells, and the rows whose values are of the kinds that the columns have.
use Rattle.std.specs.Prelude.{ℕ, ℤ, pos, ◌+◌, List, [], Option, None, Some, option_map, IfSome, ◌<◌, length, IsUtf8, ⊤}
use Rattle.sqlite.specs.declared.types.Value.TheVariants.{Int, Text, Blob, Null}
use Rattle.sqlite.specs.{declared.types.Value.Value, Order.Row, Order.column}
use Rattle.store_columns.specs.declared.columns.{AccountColumns.AccountColumns, AuthzColumns.AuthzColumns, ChallColumns.ChallColumns}
use Rattle.store_columns.specs.declared.columns.{ChallKeyColumns.ChallKeyColumns, MetaColumns.MetaColumns, NonceColumns.NonceColumns}
use Rattle.store_columns.specs.declared.columns.{OrderAuthzColumns.OrderAuthzColumns, OrderColumns.OrderColumns, OrderSummaryColumns.OrderSummaryColumns}

-- ---- values, read

-- the number that a value is; any other value counts as 0
abbrev pub number_in : Value → ℤ
number_in (Int n) = n
number_in _ = pos 0

-- the bytes of a text or of a blob; any other value counts as none
abbrev pub bytes_in : Value → List ℕ
bytes_in (Text t) = t
bytes_in (Blob b) = b
bytes_in _ = []

-- a number, or none for NULL
abbrev pub number_or_none : Value → Option ℤ
number_or_none (Int n) = Some n
number_or_none _ = None

-- a text or a blob, or none for NULL
abbrev pub bytes_or_none : Value → Option (List ℕ)
bytes_or_none (Text t) = Some t
bytes_or_none (Blob b) = Some b
bytes_or_none _ = None

-- ---- rows, read

-- of `meta`
abbrev pub meta_in : Row → MetaColumns
meta_in r =
    record {
      id = number_in (column r 0);
      format = number_in (column r 1);
      base = bytes_in (column r 2);
      nonce_life = number_in (column r 3);
      order_life = number_in (column r 4);
      authz_life = number_in (column r 5);
      clock = number_in (column r 6);
      nonces = number_in (column r 7);
      accounts = number_in (column r 8);
      orders = number_in (column r 9);
      authzs = number_in (column r 10);
      challs = number_in (column r 11);
    }

-- of `nonce`
abbrev pub nonce_in : Row → NonceColumns
nonce_in r = record { serial = number_in (column r 0); random = bytes_in (column r 1); issued = number_in (column r 2) }

-- of `account`
abbrev pub account_in : Row → AccountColumns
account_in r =
    record {
      num = number_in (column r 0);
      jwk = bytes_in (column r 1);
      contacts = bytes_in (column r 2);
      opened = number_in (column r 3);
      ended = number_or_none (column r 4);
      end_kind = bytes_or_none (column r 5);
      status = bytes_in (column r 6);
    }

-- of `ord`
abbrev pub order_in : Row → OrderColumns
order_in r =
    record {
      num = number_in (column r 0);
      account = number_in (column r 1);
      made = number_in (column r 2);
      expires = number_in (column r 3);
      finalized = number_or_none (column r 4);
      csr = bytes_or_none (column r 5);
      certified = number_or_none (column r 6);
      cert = bytes_or_none (column r 7);
      failed = number_or_none (column r 8);
      problem = bytes_or_none (column r 9);
      status = bytes_in (column r 10);
    }

-- of an order in summary
abbrev pub summary_in : Row → OrderSummaryColumns
summary_in r =
    record {
      num = number_in (column r 0);
      account = number_in (column r 1);
      made = number_in (column r 2);
      expires = number_in (column r 3);
      status = bytes_in (column r 4);
    }

-- of `authz`, in a row from this place on
abbrev pub authorization_from : ℕ → Row → AuthzColumns
authorization_from n r =
    record {
      num = number_in (column r n);
      account = number_in (column r (n + 1));
      name = bytes_in (column r (n + 2));
      wildcard = number_in (column r (n + 3));
      made = number_in (column r (n + 4));
      expires = number_in (column r (n + 5));
      ended = number_or_none (column r (n + 6));
      end_kind = bytes_or_none (column r (n + 7));
      status = bytes_in (column r (n + 8));
    }

-- of `authz`
abbrev pub authorization_in : Row → AuthzColumns
authorization_in = authorization_from 0

-- of `ord_authz`
abbrev pub listed_in : Row → OrderAuthzColumns
listed_in r = record { ord = number_in (column r 0); place = number_in (column r 1); authz = number_in (column r 2) }

-- of `ord_authz`, beside `authz`
abbrev pub place_in : Row → OrderAuthzColumns × AuthzColumns
place_in r = (listed_in r, authorization_from 3 r)

-- of `chall`
abbrev pub challenge_in : Row → ChallColumns
challenge_in r =
    record {
      num = number_in (column r 0);
      authz = number_in (column r 1);
      kind = bytes_in (column r 2);
      token = bytes_in (column r 3);
      answered = number_or_none (column r 4);
      reported = number_or_none (column r 5);
      outcome = bytes_or_none (column r 6);
      status = bytes_in (column r 7);
    }

-- of `chall_key`, in a row from this place on
abbrev pub key_from : ℕ → Row → ChallKeyColumns
key_from n r = record { chall = number_in (column r n); thumb = bytes_in (column r (n + 1)) }

-- of `chall_key`
abbrev pub key_in : Row → ChallKeyColumns
key_in = key_from 0

-- none where its number is NULL
abbrev pub key_or_none : ℕ → Row → Option ChallKeyColumns
key_or_none n r = option_map (λ _. key_from n r) (number_or_none (column r n))

-- of a challenge, beside the key of its answer, where it has one
abbrev pub keyed_in : Row → ChallColumns × Option ChallKeyColumns
keyed_in r = (challenge_in r, key_or_none 8 r)

-- of a challenge, beside its authorization, and beside the key of its answer, where it has one
abbrev pub joined_in : Row → (ChallColumns × AuthzColumns) × Option ChallKeyColumns
joined_in r = ((challenge_in r, authorization_from 8 r), key_or_none 17 r)

-- ---- values of the kinds that columns have

-- a number
abbrev pub HoldsInt : Value → Type 0
HoldsInt (Int n) = ⊤
HoldsInt _ = ⊥

-- a text that is UTF-8
abbrev pub HoldsText : Value → Type 0
HoldsText (Text t) = IsUtf8 t
HoldsText _ = ⊥

-- a blob
abbrev pub HoldsBlob : Value → Type 0
HoldsBlob (Blob b) = ⊤
HoldsBlob _ = ⊥

-- a number or NULL
abbrev pub HoldsIntOrNull : Value → Type 0
HoldsIntOrNull Null = ⊤
HoldsIntOrNull (Int n) = ⊤
HoldsIntOrNull _ = ⊥

-- a text that is UTF-8, or NULL
abbrev pub HoldsTextOrNull : Value → Type 0
HoldsTextOrNull Null = ⊤
HoldsTextOrNull (Text t) = IsUtf8 t
HoldsTextOrNull _ = ⊥

-- a blob or NULL
abbrev pub HoldsBlobOrNull : Value → Type 0
HoldsBlobOrNull Null = ⊤
HoldsBlobOrNull (Blob b) = ⊤
HoldsBlobOrNull _ = ⊥

-- the row has such a value at this place
abbrev pub HasAt : (Value → Type 0) → Row → ℕ → Type 0
HasAt Holds r at = (at < length r) × Holds (column r at)

-- ---- rows of such values

-- of `meta`
abbrev pub FitsMeta : Row → Type 0
FitsMeta r =
    HasAt HoldsInt r 0 × HasAt HoldsInt r 1 × HasAt HoldsText r 2 × HasAt HoldsInt r 3 × HasAt HoldsInt r 4 × HasAt HoldsInt r 5 × HasAt HoldsInt r 6
    × HasAt HoldsInt r 7 × HasAt HoldsInt r 8 × HasAt HoldsInt r 9 × HasAt HoldsInt r 10 × HasAt HoldsInt r 11

-- of `nonce`
abbrev pub FitsNonce : Row → Type 0
FitsNonce r = HasAt HoldsInt r 0 × HasAt HoldsBlob r 1 × HasAt HoldsInt r 2

-- of `account`
abbrev pub FitsAccount : Row → Type 0
FitsAccount r =
    HasAt HoldsInt r 0 × HasAt HoldsText r 1 × HasAt HoldsText r 2 × HasAt HoldsInt r 3 × HasAt HoldsIntOrNull r 4 × HasAt HoldsTextOrNull r 5
    × HasAt HoldsText r 6

-- of `ord`
abbrev pub FitsOrder : Row → Type 0
FitsOrder r =
    HasAt HoldsInt r 0 × HasAt HoldsInt r 1 × HasAt HoldsInt r 2 × HasAt HoldsInt r 3 × HasAt HoldsIntOrNull r 4 × HasAt HoldsBlobOrNull r 5
    × HasAt HoldsIntOrNull r 6 × HasAt HoldsBlobOrNull r 7 × HasAt HoldsIntOrNull r 8 × HasAt HoldsTextOrNull r 9 × HasAt HoldsText r 10

-- of an order in summary
abbrev pub FitsSummary : Row → Type 0
FitsSummary r = HasAt HoldsInt r 0 × HasAt HoldsInt r 1 × HasAt HoldsInt r 2 × HasAt HoldsInt r 3 × HasAt HoldsText r 4

-- of `authz`, from this place on
abbrev pub FitsAuthorizationFrom : ℕ → Row → Type 0
FitsAuthorizationFrom n r =
    HasAt HoldsInt r n × HasAt HoldsInt r (n + 1) × HasAt HoldsText r (n + 2) × HasAt HoldsInt r (n + 3) × HasAt HoldsInt r (n + 4)
    × HasAt HoldsInt r (n + 5) × HasAt HoldsIntOrNull r (n + 6) × HasAt HoldsTextOrNull r (n + 7) × HasAt HoldsText r (n + 8)

-- of `authz`
abbrev pub FitsAuthorization : Row → Type 0
FitsAuthorization = FitsAuthorizationFrom 0

-- of `ord_authz`
abbrev pub FitsListed : Row → Type 0
FitsListed r = HasAt HoldsInt r 0 × HasAt HoldsInt r 1 × HasAt HoldsInt r 2

-- of `ord_authz`, beside `authz`
abbrev pub FitsPlace : Row → Type 0
FitsPlace r = FitsListed r × FitsAuthorizationFrom 3 r

-- of `chall`
abbrev pub FitsChallenge : Row → Type 0
FitsChallenge r =
    HasAt HoldsInt r 0 × HasAt HoldsInt r 1 × HasAt HoldsText r 2 × HasAt HoldsBlob r 3 × HasAt HoldsIntOrNull r 4 × HasAt HoldsIntOrNull r 5
    × HasAt HoldsTextOrNull r 6 × HasAt HoldsText r 7

-- of `chall_key`, from this place on
abbrev pub FitsKeyFrom : ℕ → Row → Type 0
FitsKeyFrom n r = HasAt HoldsInt r n × HasAt HoldsBlob r (n + 1)

-- of `chall_key`
abbrev pub FitsKey : Row → Type 0
FitsKey = FitsKeyFrom 0

-- where its number is not NULL
abbrev pub FitsKeyOrNone : ℕ → Row → Type 0
FitsKeyOrNone n r = HasAt HoldsIntOrNull r n × IfSome (number_or_none (column r n)) (λ _. FitsKeyFrom n r)

-- of a challenge, beside the key of its answer, where it has one
abbrev pub FitsKeyed : Row → Type 0
FitsKeyed r = FitsChallenge r × FitsKeyOrNone 8 r

-- of a challenge, beside its authorization, and beside the key of its answer, where it has one
abbrev pub FitsJoined : Row → Type 0
FitsJoined r = FitsChallenge r × FitsAuthorizationFrom 8 r × FitsKeyOrNone 17 r
