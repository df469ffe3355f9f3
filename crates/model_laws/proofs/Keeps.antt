-- What every legal history keeps.
use Rattle.std.proofs.Common.{◌≡◌, ◌≢◌, ◌≤◌, ℕ, ◌+◌, List, [], ◌∷◌, length, filter, Option, Some, None, refl, sym, ap, ◌∙◌, true, false, Bool, cond, arith}
use Rattle.std.proofs.{lemmas.Bool.and_parts, lemmas.Slice.Eq.bytes_eq-Decides, lemmas.Bool.Decides.nat_tests}
use Rattle.std.specs.Prelude.{◌==◌, IfSome, IsTrue, find, is_none, is_some, bytes_eq, unwrap_or}
use Rattle.desk_model.specs.Account.{account_by_key, accounts, key_of, opened_by, rekeying}
use Rattle.desk_model.specs.Authorization.{authorizations, report, reporting}
use Rattle.desk_model.specs.Legal.{EachFollows, IsFormed, BeginsMade, Legal, may_follow, numbers_fit}
use Rattle.desk_model.specs.{BaseName.is_base_name, Contact.contacts_pass, Entry.History, Keys.IsKeyText, Kept.EachOf, History.latest, History.terms}
use Rattle.desk_model.specs.{Limits.last_end, Limits.last_moment, Limits.longest_life, Nonce.nonces, Order.orders, Tables.account_row, Tables.authorization_row}
use Rattle.desk_model.specs.{Tables.tables_at, Terms.Terms, Terms.are_terms, declared.objects.Account.Account}
use Rattle.desk_model.specs.declared.entry.{Dated.Dated, Entry.Entry, Entry.TheVariants.Opened as opened, Entry.TheVariants.KeyChanged as key_changed}
use Rattle.model_laws.specs.{Distinct.Distinct, Given.counts, LegalLaws.CountersFit, LegalLaws.EndsInTime, LegalLaws.reports_on}
use Rattle.model_laws.proofs.{Basics.each, Basics.each_both, Basics.each-append, Basics.each-map, Distinctness.ascends_distinct, Distinctness.distinct-append}
use Rattle.model_laws.proofs.{Distinctness.distinct-map, Fresh.new_account_key, RowLists.numbered_ascends, StatedFacts.latest_holds, StatedFacts.now_holds}
use Rattle.model_laws.proofs.{NewOrders.each_authorization, Numbers.accounts_numbered, Numbers.all_named, Numbers.first_no, Numbers.no_latest}

-- ---- reports

-- where no item has the fact, none is left
none_pass : {X Y : Type 0} (fact : X → Option Y) (xs : List X) → EachOf (λ x. fact x ≡ None) xs → filter (λ x. is_some (fact x)) xs ≡ []
none_pass fact [] h = refl
none_pass fact (x ∷ xs) h = ap (λ o. cond (is_some o) (x ∷ filter (λ y. is_some (fact y)) xs) (filter (λ y. is_some (fact y)) xs)) h.0 ∙ none_pass fact xs h.1

-- a challenge is reported on at most once
pub reported_once : (F : History) → EachFollows F → (n : ℕ) → length (filter (reports_on n) F) ≤ 1
reported_once [] h n = omega arith
reported_once (e ∷ F) h n = by (reports_on n e) refl (reported_once F h.1 n)
  where
    unreported : (entry : Entry) (m : ℕ) → may_follow F entry m ≡ true → is_some (reporting n entry m) ≡ true → report n F ≡ None
    unreported l m g k = grind arith

    by : (b : Bool) → reports_on n e ≡ b → length (filter (reports_on n) F) ≤ 1 → length (cond b (e ∷ filter (reports_on n) F) (filter (reports_on n) F)) ≤ 1
    by true p ih =
        let none : filter (reports_on n) F ≡ [] =
        none_pass (λ d. reporting n d.entry d.date) F (first_no (λ d. reporting n d.entry d.date) F (unreported e.entry e.date h.0.allowed p)) in
        let empty : length (filter (reports_on n) F) ≡ 0 = ap length none in
        omega arith
    by false p ih = ih

-- ---- keys

-- where none is found by a key, each has another
none_found : {X : Type 0} (value : X → List ℕ) (key : List ℕ) (xs : List X) → is_none (find (λ x. bytes_eq (value x) key) xs) ≡ true →
    EachOf (λ x. value x ≢ key) xs
none_found value key [] h = tt
none_found value key (x ∷ xs) h = grind (arith, bytes_eq-Decides, (none_found value key xs))

-- values that are equal differ alike
distinct_alike : {X Y : Type 0} (f g : X → Y) (xs : List X) → ((x : X) → f x ≡ g x) → Distinct g xs → Distinct f xs
distinct_alike f g xs h k = grind arith

-- the key of an account after an entry
key_moves : (e : Dated) (F : History) (a : Account) → key_of a (e ∷ F) ≡ unwrap_or (rekeying a.number e.entry) (key_of a F)
key_moves e F a = grind arith

-- one item gets a value that none has
one_changed : {X : Type 0} (number : X → ℕ) (value : X → List ℕ) (n : ℕ) (key : List ℕ) (xs : List X) → Distinct number xs → Distinct value xs →
    EachOf (λ x. value x ≢ key) xs → Distinct (λ x. unwrap_or (cond {A = Option (List ℕ)} (n == number x) (Some key) None) (value x)) xs
one_changed number value n key [] numbers values free = tt
one_changed number value n key (x ∷ xs) numbers values free = (
  each _ _ xs (λ y p. differ y p.0 p.1.0 p.1.1) (each_both _ _ xs numbers.0 (each_both _ _ xs values.0 free.1)),
  one_changed number value n key xs numbers.1 values.1 free.1,
)
  where
    differ : (y : _) → number x ≢ number y → value x ≢ value y → value y ≢ key →
        unwrap_or (cond {A = Option (List ℕ)} (n == number x) (Some key) None) (value x)
        ≢ unwrap_or (cond {A = Option (List ℕ)} (n == number y) (Some key) None) (value y)
    differ g h k l = grind arith

-- no two accounts have the same key
pub keys_differ : (F : History) → EachFollows F → Distinct (λ a. key_of a F) (accounts F)
keys_differ [] h = tt
keys_differ (e ∷ F) h =
    distinct-append (λ a. key_of a (e ∷ F)) (accounts F) _
    (distinct_alike (λ a. key_of a (e ∷ F)) (λ a. unwrap_or (rekeying a.number e.entry) (key_of a F)) (accounts F) (key_moves e F)
    (old e.entry h.0.allowed (keys_differ F h.1)))
    (one e.entry) (others e.entry refl h.0.allowed)
  where
    numbers : Distinct (λ a. a.number) (accounts F)
    numbers = ascends_distinct (λ (a : Account). a.number) 1 (accounts F) (numbered_ascends (λ a. a.number) 1 (accounts F) (accounts_numbered F))

    old : (entry : Entry) → may_follow F entry e.date ≡ true → Distinct (λ a. key_of a F) (accounts F) →
        Distinct (λ a. unwrap_or (rekeying a.number entry) (key_of a F)) (accounts F)
    old (key_changed n key) may ih =
        one_changed (λ a. a.number) (λ a. key_of a F) n key (accounts F) numbers ih
        (none_found (λ a. key_of a F) key (accounts F) (and_parts _ (is_none (account_by_key key F)) may).1)
    old _ may ih = ih

    one : (entry : Entry) → Distinct (λ a. key_of a (e ∷ F)) (opened_by entry e.date (length (accounts F) + 1))
    one (opened key cs) = (tt, tt)
    one _ = tt

    nothing : (xs : List Account) → EachOf (λ x. EachOf (λ (y : Account). key_of x (e ∷ F) ≢ key_of y (e ∷ F)) []) xs
    nothing [] = tt
    nothing (x ∷ xs) = (tt, nothing xs)

    -- a new account has the key that it was opened with, and the others have those that they had
    new_key : (key : List ℕ) (cs : List (List ℕ)) → (d : Dated) → d.entry ≡ opened key cs → (x : Account) → key_of x F ≢ key →
        key_of x (d ∷ F) ≢ key_of (record { number = length (accounts F) + 1; key = key; contacts = cs; opened = d.date }) (d ∷ F)
    new_key key cs d is x differs same =
        let n : ℕ = length (accounts F) + 1 in
        let a : Account = record { number = n; key = key; contacts = cs; opened = d.date } in
        let none : latest (λ c. rekeying n c.entry) F ≡ None =
        no_latest (λ c. rekeying n c.entry) F (each _ _ F (λ d. new_account_key (counts F) n (omega arith) d.entry) (all_named F h.1)) in
        let kept : key_of x (d ∷ F) ≡ key_of x F = key_moves d F x ∙ ap (λ entry. unwrap_or (rekeying x.number entry) (key_of x F)) is in
        let given : key_of a (d ∷ F) ≡ key =
        key_moves d F a ∙ ap (λ entry. unwrap_or (rekeying n entry) (key_of a F)) is ∙ ap (λ o. unwrap_or o key) none in
        differs (sym kept ∙ same ∙ given)

    others : (entry : Entry) → e.entry ≡ entry → may_follow F entry e.date ≡ true →
        EachOf (λ x. EachOf (λ y. key_of x (e ∷ F) ≢ key_of y (e ∷ F)) (opened_by entry e.date (length (accounts F) + 1))) (accounts F)
    others (opened key cs) is may =
        each _ _ (accounts F) (λ x k. (new_key key cs e is x k, tt))
        (none_found (λ a. key_of a F) key (accounts F) (and_parts _ (contacts_pass cs) may).0)
    others _ is may = nothing (accounts F)

-- and so in their rows
pub row_keys_differ : (F : History) → EachFollows F → (t : ℕ) → Distinct (λ a. a.key) (tables_at F t).accounts
row_keys_differ F h t = distinct-map (λ a. a.key) (account_row F) (accounts F) (keys_differ F h)

-- ---- counters

-- where the numbers fit, so do the counters
pub counters_fit : (F : History) → IsTrue (numbers_fit F) → (t : ℕ) → CountersFit (tables_at F t).meta.counters
counters_fit F h t = grind arith

-- where the counters fit, so do the numbers
pub numbers_fit_counters : (F : History) (t : ℕ) → CountersFit (tables_at F t).meta.counters → IsTrue (numbers_fit F)
numbers_fit_counters F t h = grind arith

-- ---- terms

-- a history that begins with the making of the desk has terms within their limits
pub begun_terms : (F : History) → BeginsMade F → EachFollows F → are_terms (terms F) ≡ true
begun_terms [] b h = absurd b
begun_terms (e ∷ []) b h = grind arith
begun_terms (e ∷ f ∷ F) b h = grind (arith, (begun_terms (f ∷ F) b h.1))

-- the terms of a legal history
pub terms_in_limits : (F : History) → Legal F → IsTrue (are_terms (terms F))
terms_in_limits F h = begun_terms F h.begins h.each

-- no life is longer than ten years
pub record LivesFit (t : Terms) : Type 0 where
  pub nonces : t.nonce_life ≤ longest_life
  pub orders : t.order_life ≤ longest_life
  pub authorizations : t.authz_life ≤ longest_life

-- the lives of a desk
pub lives_fit : (F : History) → EachFollows F → LivesFit (terms F)
lives_fit [] h = record { nonces = omega arith; orders = omega arith; authorizations = omega arith }
lives_fit (e ∷ F) h = grind (arith, nat_tests, and_parts, (lives_fit F h.1))

-- ---- ends

-- each nonce was issued by the last moment
pub nonces_dated : (F : History) → EachFollows F → EachOf (λ n. n.issued ≤ last_moment) (nonces F)
nonces_dated [] h = tt
nonces_dated (e ∷ F) h = grind (arith, each-append, (nonces_dated F h.1))

-- each authorization ends in time
pub authorizations_end : (F : History) → EachFollows F → EachOf (λ a. a.expires ≤ last_end) (authorizations F)
authorizations_end =
    each_authorization (λ F a. a.expires ≤ last_end) (λ e F a p. p)
    (λ F account m ws h name tokens n c few is. let fits = (lives_fit F h.1).authorizations in omega (arith, h.0.in_time))

-- each order ends in time
pub orders_end : (F : History) → EachFollows F → EachOf (λ o. o.expires ≤ last_end) (orders F)
orders_end [] h = tt
orders_end (e ∷ F) h = grind (arith, each-append, lives_fit, (orders_end F h.1))

-- what holds of each item holds of those that are left
pub each-filter : {X : Type 0} (P : X → Type 0) (test : X → Bool) (xs : List X) → EachOf P xs → EachOf P (filter test xs)
each-filter P test [] h = tt
each-filter P test (x ∷ xs) h = grind (arith, (each-filter P test xs h.1))

-- nothing of a desk lives longer than a life after the last moment
pub all_end : (F : History) → EachFollows F → (t : ℕ) → EndsInTime (tables_at F t)
all_end F h t = grind (arith, each-filter, each, lives_fit, nonces_dated, each-map, authorizations_end, orders_end)

-- ---- keys and names

-- each entry is formed
pub each_formed : (F : History) → EachFollows F → EachOf (λ d. IsFormed d.entry) F
each_formed [] h = tt
each_formed (e ∷ F) h = (h.0.formed, each_formed F h.1)

-- each account's first key is a canonical text
pub keys_formed : (F : History) → EachFollows F → EachOf (λ a. IsKeyText a.key) (accounts F)
keys_formed [] h = tt
keys_formed (e ∷ F) h = grind (arith, each-append, (keys_formed F h.1))

-- a key that an account gets is a canonical text
rekeying_formed : (n : ℕ) (entry : Entry) → IsFormed entry → IfSome (rekeying n entry) IsKeyText
rekeying_formed n entry h = grind arith

-- each account's key is a canonical text
pub keys_now_formed : (F : History) → EachFollows F → EachOf (λ a. IsKeyText (key_of a F)) (accounts F)
keys_now_formed F h =
    each _ _ (accounts F)
    (λ a. now_holds IsKeyText (latest (λ d. rekeying a.number d.entry) F) a.key
    (latest_holds IsKeyText _ F (each _ _ F (λ d. rekeying_formed a.number d.entry) (each_formed F h)))) (keys_formed F h)

-- each authorization's name is well formed
pub names_formed : (F : History) → EachFollows F → EachOf (λ a. IsTrue (is_base_name a.name.base)) (authorizations F)
names_formed =
    each_authorization (λ F a. IsTrue (is_base_name a.name.base)) (λ e F a p. p)
    (λ F account m ws h name tokens n c few is. (and_parts (is_base_name name.base) _ is).0)

-- and so in the rows
pub row_keys_formed : (F : History) → EachFollows F → (t : ℕ) → EachOf (λ a. IsKeyText a.key) (tables_at F t).accounts
row_keys_formed F h t = each-map _ (account_row F) (accounts F) (keys_now_formed F h)

-- and so in the rows, for names
pub row_names_formed : (F : History) → EachFollows F → (t : ℕ) → EachOf (λ a. IsTrue (is_base_name a.name.base)) (tables_at F t).authorizations
row_names_formed F h t = each-map _ (authorization_row F t) (authorizations F) (names_formed F h)
