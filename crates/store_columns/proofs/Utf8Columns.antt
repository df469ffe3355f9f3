-- Each TEXT column of rows that hold texts is UTF-8.
use Rattle.std.proofs.Common.{ℕ, List, [], ◌∷◌, map, Option, Some, option_map, Bool, false, IsUtf8, IfSome, subst, refl, ◌≡◌, true, cond, arith, rules}
use Rattle.std.proofs.{lemmas.Bool.and_parts, lemmas.Option.same_Some, lemmas.Str.IsUtf8-append, lemmas.Str.IsUtf8-nil, lemmas.Bool.Decides.nat_tests}
use Rattle.std.specs.{List.list_all, Prelude.bytes_eq, Prelude.codes}
use Rattle.store_columns.proofs.SpellingApart.{AreSpelled, found_by, account_statuses, authorization_statuses, challenge_statuses}
use Rattle.store_columns.proofs.SpellingApart.{end_kinds, endings, kinds, order_statuses, outcomes}
use Rattle.json.specs.{Token.Token, Print.print_from, Print.ends, Print.token_text}
use Rattle.json.specs.Tree as tree
use Rattle.json.proofs.Printed.Utf8.{are_ascii, IsUtf8-are_ascii, IsUtf8-key, IsUtf8-quoted, IsUtf8-separator}
use Rattle.serde_json.specs.{Data.Data, Data.string, View.items_of, Written.compact_text, Written.items_outline, Written.outline}
use Rattle.serde_json.proofs.Texts.{print-outline}
use Rattle.desk_model.specs.Document.{account_status_text, authorization_status_text, challenge_status_text, kind_text, order_status_text}
use Rattle.desk_model.specs.Texts.{AreTexts, HoldsTextAccount, HoldsTextAuthorization, HoldsTextOrder, IsTextProblem}
use Rattle.desk_model.specs.{Json.list, Kept.EachOf, declared.call.OrderProblem.OrderProblem, Facts.ending_text, Facts.end_kind_text, Facts.outcome_text}
use Rattle.desk_model.specs.declared.rows.{AccountRow.AccountRow, AuthorizationRow.AuthorizationRow, DatedProblem.DatedProblem, OrderRow.OrderRow}
use Rattle.store_columns.specs.Columns.{account_columns, authorization_columns, challenge_columns, order_columns, rows_columns}
use Rattle.store_columns.specs.TextColumns.{HasTextAccount, HasTextAuthorization, HasTextChallenge, HasTextOrder, ColumnsAreTexts, RowsHoldTexts}
use Rattle.store_columns.specs.{Laws.TextsAreWritten, Spelling.contacts_text, Spelling.problem_document, Spelling.problem_text}
use Rattle.store_columns.specs.{declared.columns.BareChallenge.BareChallenge, declared.columns.FlatRows.FlatRows, declared.columns.Owned.Owned}

-- ---- JSON

-- the token is written as a text
abbrev IsTextToken : Token → Type 0
IsTextToken t = IsUtf8 (token_text t)

-- tokens that are written as texts, one after another
printed_text : (after_value : Bool) (ts : List Token) → EachOf IsTextToken ts → IsUtf8 (print_from after_value ts)
unfolding print_from
printed_text after_value [] h = IsUtf8-nil
printed_text after_value (t ∷ ts) h = grind (arith, nat_tests, IsUtf8-append, IsUtf8-separator, (printed_text (ends t) ts h.1))

-- the compact text of a value whose tokens are written as texts
compact_is_text : (d : Data) → EachOf IsTextToken (tree.json_tokens (outline d)) → IsUtf8 (compact_text d)
compact_is_text d h = subst IsUtf8 (print-outline d) (printed_text false (tree.json_tokens (outline d)) h)

-- strings, and the end of their list
strings_text : (texts : List (List ℕ)) → AreTexts texts → EachOf IsTextToken (tree.items_tokens (items_outline (items_of (map string texts))))
strings_text [] h = (IsUtf8-are_ascii _ refl, tt)
strings_text (s ∷ rest) h = (IsUtf8-quoted s h.0, strings_text rest h.1)

-- contacts are written as a text
contacts_is_text : (contacts : List (List ℕ)) → AreTexts contacts → IsUtf8 (contacts_text contacts)
contacts_is_text contacts h = compact_is_text (list (map string contacts)) (IsUtf8-are_ascii _ refl, strings_text contacts h)

-- and so is a problem
problem_is_text : (problem : OrderProblem) → IsTextProblem problem → IsUtf8 (problem_text problem)
problem_is_text problem h =
    compact_is_text (problem_document problem) (
      IsUtf8-are_ascii _ refl,
      (
        IsUtf8-key (codes "detail") (IsUtf8-are_ascii _ refl),
        (
          IsUtf8-quoted problem.detail h.detail,
          (IsUtf8-key (codes "type") (IsUtf8-are_ascii _ refl), (IsUtf8-quoted problem.kind h.kind, (IsUtf8-are_ascii _ refl, tt))),
        ),
      ),
    )

-- ---- words

-- what is found by its text, among those whose texts are ASCII, has a text
found_is_text : {X : Type 0} (text : X → List ℕ) (all : List X) (x : X) → found_by text all (text x) ≡ Some x
    → list_all (λ y. are_ascii (text y)) all ≡ true → IsUtf8 (text x)
found_is_text text [] x is ascii = absurd (cc is)
found_is_text text (y ∷ ys) x is ascii =
    let parts = and_parts (are_ascii (text y)) (list_all (λ z. are_ascii (text z)) ys) ascii in
    by (bytes_eq (text y) (text x)) is (λ later. found_is_text text ys x later parts.1) (IsUtf8-are_ascii (text y) parts.0)
  where
    by : (b : Bool) → cond b (Some y) (found_by text ys (text x)) ≡ Some x → (found_by text ys (text x) ≡ Some x → IsUtf8 (text x))
        → IsUtf8 (text y) → IsUtf8 (text x)
    by b h k l = grind (arith, nat_tests, same_Some)

-- so each that is spelled so does
spelled_is_text : {X : Type 0} (text : X → List ℕ) (all : List X) → AreSpelled text all → list_all (λ x. are_ascii (text x)) all ≡ true
    → (x : X) → IsUtf8 (text x)
unfolding AreSpelled
spelled_is_text text all found ascii x = found_is_text text all x (found x) ascii

-- what is written of a fact, if it is recorded
written : {X : Type 0} (P : X → Type 0) (write : X → List ℕ) → ((x : X) → P x → IsUtf8 (write x)) → (o : Option X) → IfSome o P →
    IfSome (option_map write o) IsUtf8
written P write h o k = grind (arith, nat_tests)

-- and of one whose words are always texts
worded : {X : Type 0} (write : X → List ℕ) → ((x : X) → IsUtf8 (write x)) → (o : Option X) → IfSome (option_map write o) IsUtf8
worded write h o = grind (arith, nat_tests)

-- ---- rows

-- a row of `account`
account_written : (row : AccountRow) → HoldsTextAccount row → HasTextAccount (account_columns row)
account_written row h =
    record {
      jwk = h.canonical;
      contacts = contacts_is_text row.contacts h.contact;
      end_kind = worded _ (λ e. spelled_is_text ending_text _ endings refl e.ending) row.ended;
      status = spelled_is_text account_status_text _ account_statuses refl row.status;
    }

-- a row of `ord`
order_written : (row : OrderRow) → HoldsTextOrder row → HasTextOrder (order_columns row)
order_written row h =
    record {
      problem = written (λ (f : DatedProblem). IsTextProblem f.problem) _ (λ f k. problem_is_text f.problem k) row.failed h;
      status = spelled_is_text order_status_text _ order_statuses refl row.status;
    }

-- a row of `authz`
authorization_written : (row : AuthorizationRow) → HoldsTextAuthorization row → HasTextAuthorization (authorization_columns row)
authorization_written row h =
    record {
      name = h;
      end_kind = worded _ (λ e. spelled_is_text end_kind_text _ end_kinds refl e.kind) row.ended;
      status = spelled_is_text authorization_status_text _ authorization_statuses refl row.status;
    }

-- a row of `chall`
challenge_written : (row : Owned BareChallenge) → HasTextChallenge (challenge_columns row)
challenge_written row =
    record {
      kind = spelled_is_text kind_text _ kinds refl row.row.kind;
      outcome = worded _ (λ r. spelled_is_text outcome_text _ outcomes refl r.outcome) row.row.reported;
      status = spelled_is_text challenge_status_text _ challenge_statuses refl row.row.status;
    }

-- ---- tables

-- what is written of each row
each_written : {R C : Type 0} (P : R → Type 0) (Q : C → Type 0) (write : R → C) → ((row : R) → P row → Q (write row)) → (rows : List R) → EachOf P rows →
    EachOf Q (map write rows)
each_written P Q write text [] h = tt
each_written P Q write text (row ∷ rows) h = (text row h.0, each_written P Q write text rows h.1)

-- whatever the rows hold
all_written : {R C : Type 0} (Q : C → Type 0) (write : R → C) → ((row : R) → Q (write row)) → (rows : List R) → EachOf Q (map write rows)
all_written Q write text [] = tt
all_written Q write text (row ∷ rows) = (text row, all_written Q write text rows)

-- the rows of all tables
rows_written : (rows : FlatRows) → RowsHoldTexts rows → ColumnsAreTexts (rows_columns rows)
rows_written rows h = search (rules, each_written, account_written, order_written, authorization_written, all_written, challenge_written)

-- rows are written as texts, one by one and all together
pub texts_are_written : TextsAreWritten
texts_are_written = search (rules, account_written, order_written, authorization_written, challenge_written, rows_written)
