-- What is made new has no facts yet: an entry names only what was made before it.
use Rattle.std.proofs.Common.{◌≡◌, ◌≤◌, ◌<◌, ℕ, ◌+◌, List, [], ◌∷◌, length, map, None, refl, ap, ◌∙◌, true, false, arith}
use Rattle.std.proofs.lemmas.Bool.{eqb-true}
use Rattle.std.specs.{Prelude.◌==◌, Prelude.◌||◌, Prelude.find, Prelude.is_some, List.list_any}
use Rattle.desk_model.specs.Account.{accounts, opened_by, account_by_number, account_key, account_status, ends as account_ends, is_valid as is_valid_account}
use Rattle.desk_model.specs.Account.{rekeying}
use Rattle.desk_model.specs.Authorization.{authorizations, has_challenge, count_challenges, authorization_end, answering, when_answered, challenge_status_by}
use Rattle.desk_model.specs.Authorization.{kinds_of, ends, in_time, reporting, answer, answer_by, report}
use Rattle.desk_model.specs.Tables.{account_row, challenge_row, authorization_row, order_row, row_of_challenge}
use Rattle.desk_model.specs.Effect.{names_order, fresh_account, fresh_challenge, fresh_authorization, fresh_order}
use Rattle.desk_model.specs.{Entry.History, Kept.EachOf, History.terms, History.first, History.earlier, Order.orders, Order.ordered_by, Order.listed_by}
use Rattle.desk_model.specs.{Lookup.holds, declared.objects.Account.Account, declared.objects.Authorization.Authorization, declared.objects.Challenge.Challenge}
use Rattle.desk_model.specs.{Legal.EachFollows, Derived.restated_authorization, Derived.restated_order, declared.entry.Dated.Dated, declared.entry.Entry.Entry}
use Rattle.desk_model.specs.{declared.objects.Order.Order, declared.rows.AuthorizationRow.AuthorizationRow, declared.entry.Entry.TheVariants.Ordered as ordered}
use Rattle.model_laws.proofs.Numbers.{no_first, no_latest, first_no, made_now, challenges_numbered, all_named}
use Rattle.model_laws.proofs.{Basics.less_differs, Basics.each, Basics.each_both, Basics.map-each, Basics.IsNumbered, OrderDates.order_unnoted}
use Rattle.model_laws.proofs.{RowFacts.authorization_stated, OrderFacts.order_stated, NewOrders.each_made, NewOrders.made_one, NewOrders.may_be_ordered}
use Rattle.model_laws.specs.Given.{Counts, counts, NamesGiven}

-- ---- new rows

-- no entry names an order of a number that was not given
new_order_unnamed : (c : Counts) (n : ℕ) → c.orders < n → (e : Entry) → NamesGiven c e → names_order e n ≡ false
new_order_unnamed c n h e k = grind arith

-- an order that no entry names is as it was made
order_unnamed : (F : History) (t m : ℕ) (rows : List AuthorizationRow) (o : Order) → EachOf (λ d. names_order d.entry o.number ≡ false) F →
    restated_order m rows (order_row F t o) ≡ restated_order m rows (fresh_order o)
order_unnamed [] t m rows o h = refl
order_unnamed (e ∷ F) t m rows o h = ap (restated_order m rows) (order_unnoted e.entry e.date (order_row F t o) h.0) ∙ order_unnamed F t m rows o h.1

-- a challenge of a number that was not given has no answer
new_challenge_answer : (c : Counts) (n : ℕ) → c.challenges < n → (e : Entry) (m : ℕ) → NamesGiven c e → answering n e m ≡ None
new_challenge_answer c n h e m k = grind arith

-- and no report
new_challenge_report : (c : Counts) (n : ℕ) → c.challenges < n → (e : Entry) (m : ℕ) → NamesGiven c e → reporting n e m ≡ None
new_challenge_report c n h e m k = grind arith

-- an account of a number that was not given gets no other key
pub new_account_key : (c : Counts) (n : ℕ) → c.accounts < n → (e : Entry) → NamesGiven c e → rekeying n e ≡ None
new_account_key c n h e k = grind arith

-- a new order
pub orders_fresh : (F : History) (e : Entry) (m : ℕ) → EachFollows (record { date = m; entry = e } ∷ F) →
    (let G : History = record { date = m; entry = e } ∷ F in
    EachOf (λ o. order_row G m o ≡ restated_order m (map (authorization_row G m) (authorizations G)) (fresh_order o))
    (ordered_by e m (terms F) (length (authorizations F) + 1) (length (orders F) + 1)))
orders_fresh F (ordered k ws) m h =
    let n : ℕ = length (orders F) + 1 in
    let G : History = record { date = m; entry = ordered k ws } ∷ F in
    let o : Order =
    record { number = n; account = k; made = m; expires = m + (terms F).order_life; authorizations = listed_by ws (length (authorizations F) + 1) } in
    let new : length (orders F) < n = omega arith in
    let unnamed = each _ _ F (λ d. new_order_unnamed (counts F) n new d.entry) (all_named F h.1) in
    (order_stated G m m o ∙ order_unnamed G m m (map (authorization_row G m) (authorizations G)) o (refl, unnamed), tt)
orders_fresh F _ m h = tt

-- a new account
pub accounts_fresh : (F : History) (e : Entry) (m : ℕ) → EachFollows (record { date = m; entry = e } ∷ F) →
    EachOf (λ a. account_row (record { date = m; entry = e } ∷ F) a ≡ fresh_account a) (opened_by e m (length (accounts F) + 1))
accounts_fresh F e m h = grind (arith, all_named, no_first, each, no_latest)

-- ---- new authorizations

-- no number below is among challenges that count up from there
from_numbered : (n k : ℕ) (cs : List Challenge) → k < n → IsNumbered (λ c. c.number) n cs → list_any (λ c. k == c.number) cs ≡ false
from_numbered n k [] lt h = refl
from_numbered n k (c ∷ cs) lt h =
    let start : c.number ≡ n = h.0 in
    ap (λ b. b || list_any (λ d. k == d.number) cs) (less_differs k c.number (omega arith)) ∙ from_numbered (n + 1) k cs (omega arith) h.1

-- no entry ends an authorization that is not made yet, if its account has not ended
no_end : (c : Counts) (a : Authorization) → c.authorizations < a.number → ((k : ℕ) → k ≤ c.challenges → has_challenge k a ≡ false) →
    (d : Dated) → NamesGiven c d.entry → account_ends a.account d.entry d.date ≡ None → ends a d.entry d.date ≡ None
no_end c a new free d named alive = grind arith

-- where no entry answers a challenge it has no answer
unanswered : (account n : ℕ) (F : History) → EachOf (λ d. answering n d.entry d.date ≡ None) F → answer account n F ≡ None
unanswered account n [] h = refl
unanswered account n (e ∷ F) h = λ i. earlier (unanswered account n F h.1 i) (answer_by (account_key account F) (h.0 i))

-- new challenges
pub challenges_fresh : (F : History) (account n : ℕ) (cs : List Challenge) → EachFollows F → count_challenges (authorizations F) < n →
    IsNumbered (λ c. c.number) n cs → EachOf (λ c. challenge_row F account c ≡ fresh_challenge c) cs
challenges_fresh F account n [] h lt numbered = tt
challenges_fresh F account n (c ∷ cs) h lt numbered =
    let start : c.number ≡ n = numbered.0 in
    let new : count_challenges (authorizations F) < c.number = omega arith in
    let named = all_named F h in
    let never = each _ _ F (λ d. new_challenge_answer (counts F) c.number new d.entry d.date) named in
    let answered_none : answer account c.number F ≡ None = unanswered account c.number F never in
    let when_none : when_answered c.number F ≡ None = no_first (λ d. answering c.number d.entry d.date) F never in
    let reported_none : report c.number F ≡ None =
    no_first (λ d. reporting c.number d.entry d.date) F (each _ _ F (λ d. new_challenge_report (counts F) c.number new d.entry d.date) named) in (
      (λ i. row_of_challenge c (answered_none i) (reported_none i) (challenge_status_by (reported_none i) (is_some (when_none i)))),
      challenges_fresh F account (n + 1) cs h (omega arith) numbered.1,
    )

-- a new authorization has no end, and its challenges no facts
authorization_fresh : (F : History) (e : Entry) (m : ℕ) (a : Authorization) (c : ℕ) → EachFollows F →
    first (λ d. account_ends a.account d.entry d.date) F ≡ None →
    length (authorizations F) < a.number → count_challenges (authorizations F) < c → IsNumbered (λ x. x.number) c a.challenges →
    (authorization_end a F ≡ None) × (map (challenge_row F a.account) a.challenges ≡ map fresh_challenge a.challenges)
authorization_fresh F e m a c h alive new free numbered = (
  ap (in_time a.expires) (no_first (λ d. ends a d.entry d.date) F
      (each _ _ F (λ d p. no_end (counts F) a new (λ k below. from_numbered c k a.challenges (omega arith) numbered) d p.0 p.1)
      (each_both _ _ F (all_named F h) (first_no (λ d. account_ends a.account d.entry d.date) F alive)))),
  map-each (challenge_row F a.account) fresh_challenge a.challenges (challenges_fresh F a.account c a.challenges h free numbered),
)

-- an account that is valid has not ended
account_alive : (F : History) (n : ℕ) → holds (λ a. is_valid_account (account_status a F)) (account_by_number n F) ≡ true →
    first (λ d. account_ends n d.entry d.date) F ≡ None
account_alive F n h = by (accounts F) h
  where
    by : (xs : List Account) → holds (λ a. is_valid_account (account_status a F)) (find (λ a. a.number == n) xs) ≡ true →
        first (λ d. account_ends n d.entry d.date) F ≡ None
    by [] h = cc
    by (x ∷ xs) h = grind (arith, eqb-true, (by xs))

-- new authorizations
pub authorizations_fresh : (F : History) (e : Entry) (m : ℕ) → EachFollows (record { date = m; entry = e } ∷ F) →
    EachOf (λ a. authorization_row (record { date = m; entry = e } ∷ F) m a ≡ restated_authorization m (fresh_authorization a))
    (made_now (record { date = m; entry = e }) F)
authorizations_fresh F (ordered k ws) m h =
    let G : History = record { date = m; entry = ordered k ws } ∷ F in
    let order = may_be_ordered F m k ws h.0.allowed in
    each_made _ k m _ ws _ _ order.wanted
    (λ name tokens n c (low : length (authorizations F) + 1 ≤ n) (few : count_challenges (authorizations F) + 1 ≤ c) is.
    let a : Authorization = made_one k m (m + (terms F).authz_life) name tokens n c in
    let p = authorization_fresh F (ordered k ws) m a c h.1 (account_alive F k order.holder) (omega arith) (omega arith)
    (challenges_numbered c (kinds_of name) tokens) in
    authorization_stated G h m m a ∙ (λ i. restated_authorization m (record (authorization_row G m a) { ended = p.0 i; challenges = p.1 i })))
authorizations_fresh F _ m h = tt
