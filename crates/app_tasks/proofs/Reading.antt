-- The document by which a report is asked for is read as what its words ask for.
use Rattle.std.proofs.Common.{◌≡◌, ◌∙◌, ℕ, List, Bool, true, false, Option, None, Some, ap, refl, sym}
use Rattle.std.specs.Prelude.{codes, option_map}
use Rattle.app_words.specs.declared.command.Report.TheVariants as report
use Rattle.desk_model.specs.{Document.order_status_text, Name.Name, Names.name_of, declared.status.OrderStatus.OrderStatus}
use Rattle.desk_model.specs.declared.status.OrderStatus.TheVariants as order
use Rattle.http_routes.specs.Looked.{authorizations_by, object_number, orders_by, report_in, status_named}
use Rattle.http_routes.specs.declared.looked.Looked.TheVariants as looked
use Rattle.app_tasks.specs.Filters.{AsksForName, AsksForStatus, Given}
use Rattle.app_tasks.specs.Looking.{LooksAreRead, asked_form, form_word, given, rows_document}

-- what is read of a member that may be missing
abbrev number_read : Option ℕ → Option (Option ℕ)
number_read None = Some None
number_read (Some n) = option_map Some (object_number n)

abbrev status_read : Option (List ℕ) → Option (Option OrderStatus)
status_read None = Some None
status_read (Some text) = option_map Some (status_named text)

abbrev name_read : Option (List ℕ) → Option (Option Name)
name_read None = Some None
name_read (Some text) = option_map Some (name_of text)

-- the members are read one by one
orders_read : (json : Bool) (account : Option ℕ) (status name : Option (List ℕ))
    → report_in (rows_document (codes "orders") (Some (form_word json)) account status name)
    ≡ orders_by (number_read account) (status_read status) (name_read name) (asked_form json)
orders_read true None None None = refl
orders_read true None None (Some text) = refl
orders_read true None (Some word) None = refl
orders_read true None (Some word) (Some text) = refl
orders_read true (Some n) None None = refl
orders_read true (Some n) None (Some text) = refl
orders_read true (Some n) (Some word) None = refl
orders_read true (Some n) (Some word) (Some text) = refl
orders_read false None None None = refl
orders_read false None None (Some text) = refl
orders_read false None (Some word) None = refl
orders_read false None (Some word) (Some text) = refl
orders_read false (Some n) None None = refl
orders_read false (Some n) None (Some text) = refl
orders_read false (Some n) (Some word) None = refl
orders_read false (Some n) (Some word) (Some text) = refl

authorizations_read : (json : Bool) (account : Option ℕ) (name : Option (List ℕ))
    → report_in (rows_document (codes "authorizations") (Some (form_word json)) account None name)
    ≡ authorizations_by (number_read account) (name_read name) (asked_form json)
authorizations_read true None None = refl
authorizations_read true None (Some text) = refl
authorizations_read true (Some n) None = refl
authorizations_read true (Some n) (Some text) = refl
authorizations_read false None None = refl
authorizations_read false None (Some text) = refl
authorizations_read false (Some n) None = refl
authorizations_read false (Some n) (Some text) = refl

accounts_read : (json : Bool) → report_in (rows_document (codes "accounts") (Some (form_word json)) None None None) ≡ Some (looked.Accounts (asked_form json))
accounts_read true = refl
accounts_read false = refl

check_read : (json : Bool) → report_in (rows_document (codes "check") (Some (form_word json)) None None None) ≡ Some (looked.Check (asked_form json))
check_read true = refl
check_read false = refl

-- the status of each text is the one that has it
status_back : (s : OrderStatus) → status_named (order_status_text s) ≡ Some s
status_back order.Pending = refl
status_back order.Ready = refl
status_back order.Processing = refl
status_back order.Valid = refl
status_back order.Invalid = refl

-- what is read is what is asked for
status_is : (word : Given) (s : Option OrderStatus) → AsksForStatus word s → status_read (given word) ≡ Some s
status_is word None is = ap (λ w. status_read (given w)) is
status_is word (Some s) it =
    ap (λ w. status_read (given w)) it.1 ∙ (ap (λ text. option_map Some (status_named text)) (sym it.2) ∙ ap (option_map Some) (status_back s))

name_is : (text : Given) (n : Option Name) → AsksForName text n → name_read (given text) ≡ Some n
name_is text None is = ap (λ t. name_read (given t)) is
name_is text (Some n) it = ap (λ t. name_read (given t)) it.1 ∙ ap (option_map Some) it.2

number_is : (account : Option ℕ) → ((n : ℕ) → account ≡ Some n → object_number n ≡ Some n) → number_read account ≡ Some account
number_is None fits = refl
number_is (Some n) fits = ap (option_map Some) (fits n refl)

pub looks_are_read : LooksAreRead
looks_are_read report.About it fits wants = sym (ap Some wants)
looks_are_read report.Page it fits wants = wants
looks_are_read (report.Orders l) it fits wants =
    orders_read l.json l.account (given l.status) (given l.name)
    ∙ (ap (λ a. orders_by a (status_read (given l.status)) (name_read (given l.name)) (asked_form l.json))
    (number_is l.account fits ∙ ap Some (sym wants.1.account))
    ∙ (ap (λ s. orders_by (Some wants.0.account) s (name_read (given l.name)) (asked_form l.json)) (status_is l.status wants.0.status wants.1.status)
    ∙ (ap (λ n. orders_by (Some wants.0.account) (Some wants.0.status) n (asked_form l.json)) (name_is l.name wants.0.name wants.1.name)
    ∙ sym (ap Some wants.2))))
looks_are_read (report.Accounts json) it fits wants = accounts_read json ∙ sym (ap Some wants)
looks_are_read (report.Authorizations l) it fits wants =
    authorizations_read l.json l.account (given l.name)
    ∙ (ap (λ a. authorizations_by a (name_read (given l.name)) (asked_form l.json)) (number_is l.account fits ∙ ap Some (sym wants.1.account))
    ∙ (ap (λ n. authorizations_by (Some wants.0.account) n (asked_form l.json)) (name_is l.name wants.0.name wants.1.name) ∙ sym (ap Some wants.2)))
looks_are_read (report.Check json) it fits wants = check_read json ∙ sym (ap Some wants)
