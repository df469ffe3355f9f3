-- Different rows have different columns.
use Rattle.std.proofs.Common.{◌≡◌, ℕ, pos, List, [], ◌∷◌, map, Option, refl, sym, ap, ◌∙◌, arith}
use Rattle.std.proofs.{lemmas.Option.same_Some, lemmas.Bool.Decides.nat_tests}
use Rattle.serde_json.specs.{Data.string, View.items_of}
use Rattle.desk_model.specs.{Kept.EachOf, declared.call.OrderProblem.OrderProblem, declared.objects.AccountEnd.AccountEnd, declared.rows.DatedBytes.DatedBytes}
use Rattle.desk_model.specs.{declared.rows.DatedProblem.DatedProblem, Document.account_status_text, Document.order_status_text}
use Rattle.store_columns.specs.Columns.{account_columns, account_end_columns, authorization_columns, challenge_columns, dated_bytes_columns, dated_columns}
use Rattle.store_columns.specs.Columns.{dated_problem_columns, key_columns, listed_columns, meta_columns, nonce_columns, order_columns, rows_columns}
use Rattle.store_columns.specs.Columns.{summary_columns}
use Rattle.store_columns.specs.Limits.{AreStored, IsStoredAccount, IsStoredAuthorization, IsStoredChallenge, IsStoredKey, IsStoredListed, IsStoredMeta}
use Rattle.store_columns.specs.Limits.{IsStoredNonce, IsStoredOrder, IsStoredSummary}
use Rattle.store_columns.specs.{Laws.AreToldApart, Laws.ColumnsTellRowsApart, Spelling.contacts_text, Spelling.problem_text}
use Rattle.store_columns.proofs.SpellingApart.{account_statuses, order_statuses, told_apart}
use Rattle.store_columns.proofs.{JsonTexts.read-contacts_text, ProblemTexts.spelled}

pos-apart : (m n : ℕ) → pos m ≡ pos n → m ≡ n
pos-apart m n same = cc same

-- ---- the JSON columns

strings-apart : (a b : List (List ℕ)) → items_of (map string a) ≡ items_of (map string b) → a ≡ b
strings-apart [] [] same = refl
strings-apart [] (s ∷ ss) same = absurd (cc same)
strings-apart (s ∷ ss) [] same = absurd (cc same)
strings-apart (s ∷ ss) (t ∷ ts) same =
    let first : s ≡ t = cc same in
    let rest : items_of (map string ss) ≡ items_of (map string ts) = cc same in
    λ i. first i ∷ strings-apart ss ts rest i

contacts_text-apart : (a b : List (List ℕ)) → contacts_text a ≡ contacts_text b → a ≡ b
contacts_text-apart a b same = grind (arith, nat_tests, same_Some, read-contacts_text, strings-apart, (read-contacts_text a))

problem_text-apart : (p q : OrderProblem) → problem_text p ≡ problem_text q → p ≡ q
problem_text-apart p q same = same_Some p q (sym (spelled (problem_text p) p refl) ∙ spelled (problem_text p) q same)

-- ---- the columns of one fact

-- a fact is told by its date and what else it says
dated-apart : {X Y : Type 0} (date : X → ℕ) (other : X → Y) → ((x y : X) → date x ≡ date y → other x ≡ other y → x ≡ y)
    → (x y : Option X) → dated_columns date other x ≡ dated_columns date other y → x ≡ y
dated-apart date other h x y k = grind (arith, nat_tests)

account_end-apart : (x y : Option AccountEnd) → account_end_columns x ≡ account_end_columns y → x ≡ y
account_end-apart x y same = grind (arith, nat_tests)

dated_bytes-apart : (x y : Option DatedBytes) → dated_bytes_columns x ≡ dated_bytes_columns y → x ≡ y
dated_bytes-apart x y same = grind (arith, nat_tests)

dated_problem-apart : (x y : Option DatedProblem) → dated_problem_columns x ≡ dated_problem_columns y → x ≡ y
dated_problem-apart x y same =
    dated-apart (λ f. f.date) (λ f. problem_text f.problem)
    (λ f g date text. λ i. record { date = date i; problem = problem_text-apart f.problem g.problem text i }) x y same

-- ---- rows

pub metas-apart : AreToldApart meta_columns IsStoredMeta
metas-apart row other kept kept2 same = grind (arith, nat_tests)

pub nonces-apart : AreToldApart nonce_columns IsStoredNonce
nonces-apart row other kept kept2 same = grind (arith, nat_tests)

pub accounts-apart : AreToldApart account_columns IsStoredAccount
accounts-apart row other kept kept2 same =
    λ i. record {
      number = pos-apart _ _ (ap (λ c. c.num) same) i;
      key = ap (λ c. c.jwk) same i;
      contacts = contacts_text-apart row.contacts other.contacts (ap (λ c. c.contacts) same) i;
      opened = pos-apart _ _ (ap (λ c. c.opened) same) i;
      ended = account_end-apart row.ended other.ended (λ j. (ap (λ c. c.ended) same j, ap (λ c. c.end_kind) same j)) i;
      status = told_apart account_status_text _ account_statuses row.status other.status (ap (λ c. c.status) same) i;
    }

pub orders-apart : AreToldApart order_columns IsStoredOrder
orders-apart row other kept kept2 same =
    λ i. record {
      number = pos-apart _ _ (ap (λ c. c.num) same) i;
      account = pos-apart _ _ (ap (λ c. c.account) same) i;
      made = pos-apart _ _ (ap (λ c. c.made) same) i;
      expires = pos-apart _ _ (ap (λ c. c.expires) same) i;
      listed = (kept.listed ∙ sym kept2.listed) i;
      finalized = dated_bytes-apart row.finalized other.finalized (λ j. (ap (λ c. c.finalized) same j, ap (λ c. c.csr) same j)) i;
      certified = dated_bytes-apart row.certified other.certified (λ j. (ap (λ c. c.certified) same j, ap (λ c. c.cert) same j)) i;
      failed = dated_problem-apart row.failed other.failed (λ j. (ap (λ c. c.failed) same j, ap (λ c. c.problem) same j)) i;
      status = told_apart order_status_text _ order_statuses row.status other.status (ap (λ c. c.status) same) i;
    }

pub summaries-apart : AreToldApart summary_columns IsStoredSummary
summaries-apart row other kept kept2 same = grind (arith, nat_tests)

pub authorizations-apart : AreToldApart authorization_columns IsStoredAuthorization
authorizations-apart row other kept kept2 same = grind (arith, nat_tests)

pub listed-apart : AreToldApart listed_columns IsStoredListed
listed-apart row other kept kept2 same = grind (arith, nat_tests)

pub challenges-apart : AreToldApart challenge_columns IsStoredChallenge
challenges-apart row other kept kept2 same = grind (arith, nat_tests)

pub keys-apart : AreToldApart key_columns IsStoredKey
keys-apart row other kept kept2 same = λ i. record { challenge = pos-apart _ _ (ap (λ c. c.chall) same) i; thumb = ap (λ c. c.thumb) same i }

-- a table's rows are told apart where each row is
pub table-apart : {C R : Type 0} (write : R → C) (P : R → Type 0) → AreToldApart write P
    → (rows others : List R) → EachOf P rows → EachOf P others → map write rows ≡ map write others → rows ≡ others
table-apart write P apart [] [] kept kept2 same = refl
table-apart write P apart [] (o ∷ os) kept kept2 same = absurd (cc same)
table-apart write P apart (r ∷ rs) [] kept kept2 same = absurd (cc same)
table-apart write P apart (r ∷ rs) (o ∷ os) kept kept2 same =
    let first : write r ≡ write o = cc same in
    let rest : map write rs ≡ map write os = cc same in
    λ i. apart r o kept.0 kept2.0 first i ∷ table-apart write P apart rs os kept.1 kept2.1 rest i

pub rows-apart : AreToldApart rows_columns AreStored
rows-apart rows others kept kept2 same =
    λ i. record {
      metas = table-apart meta_columns IsStoredMeta metas-apart rows.metas others.metas kept.metas kept2.metas (ap (λ c. c.metas) same) i;
      nonces = table-apart nonce_columns IsStoredNonce nonces-apart rows.nonces others.nonces kept.nonces kept2.nonces (ap (λ c. c.nonces) same) i;
      accounts = table-apart account_columns IsStoredAccount accounts-apart rows.accounts others.accounts kept.accounts kept2.accounts
          (ap (λ c. c.accounts) same) i;
      orders = table-apart order_columns IsStoredOrder orders-apart rows.orders others.orders kept.orders kept2.orders (ap (λ c. c.orders) same) i;
      authorizations = table-apart authorization_columns IsStoredAuthorization authorizations-apart rows.authorizations
          others.authorizations kept.authorizations kept2.authorizations
          (ap (λ c. c.authzs) same) i;
      listed = table-apart listed_columns IsStoredListed listed-apart rows.listed others.listed kept.listed kept2.listed (ap (λ c. c.order_authzs) same) i;
      challenges = table-apart challenge_columns IsStoredChallenge challenges-apart rows.challenges others.challenges kept.challenges
          kept2.challenges (ap (λ c. c.challs) same) i;
      keys = table-apart key_columns IsStoredKey keys-apart rows.keys others.keys kept.keys kept2.keys (ap (λ c. c.chall_keys) same) i;
    }

pub all_apart : ColumnsTellRowsApart
all_apart =
    record {
      metas = metas-apart;
      nonces = nonces-apart;
      accounts = accounts-apart;
      orders = orders-apart;
      summaries = summaries-apart;
      authorizations = authorizations-apart;
      listed = listed-apart;
      challenges = challenges-apart;
      keys = keys-apart;
      rows = rows-apart;
    }
