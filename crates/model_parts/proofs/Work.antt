-- The lists of work are answered from the rows that they list and those that decide their statuses.
use Rattle.std.proofs.Common.{◌≡◌, ℕ, max, List, [], ◌∷◌, ◌++◌, map, filter, refl, sym, ap, subst, ◌∙◌, true, false, Bool, arith}
use Rattle.std.proofs.lemmas.Bool.{and_from}
use Rattle.std.specs.{Prelude.◌==◌, Prelude.◌&&◌, Prelude.codes, List.flat_map, List.list_any}
use Rattle.serde_json.specs.Data.{Data, number, string, unsigned}
use Rattle.desk_model.specs.{Document.bytes_of, Document.work_of, Kept.restricted, Asked.asks_orders, Derived.numbers_of, Names.shown_name, Tokens.base64url}
use Rattle.desk_model.specs.{Document.challenge_work, declared.rows.AuthorizationRow.AuthorizationRow, declared.verdict.Verdict.TheVariants.Answers as answers}
use Rattle.desk_model.specs.{Document.order_work, Order.is_processing, declared.call.Ask.Ask, declared.call.Call.Call, Effect.swept, Effect.swept_authorization}
use Rattle.desk_model.specs.{Document.order_work_document, declared.call.OfficeAsk.OfficeAsk, declared.rows.OrderRow.OrderRow, declared.verdict.Shows.Shows}
use Rattle.desk_model.specs.{Kept.EachOf, Kept.IsClosed, Kept.Kept, Tables.Tables, Touched.lists, Json.document, Json.list, Shown.ok, Shown.reply_of}
use Rattle.model_laws.specs.Ordered.{IsOrdered}
use Rattle.model_laws.proofs.Basics.{each, each_all, each_both, each-map, map-each}
use Rattle.model_laws.proofs.{Local.filter_part, Local.swept_part, SweptParts.swept_closed}
use Rattle.model_parts.specs.AnswersAs.{AnswersAs, CarriesOutAs, SettlesAs}
use Rattle.model_parts.specs.IsEnough.{IsEnoughFor, challenge_work_rows, enough, enough_at, has_work, is_worked_on, order_work_rows}
use Rattle.model_parts.specs.Thinned.{Thinning, all_whole, in_whole, no_challenges, thin, thinned, waiting_challenges, with_challenges}
use Rattle.model_parts.specs.{MinimalPart.IsStatedFor, MinimalPart.needed_rows, IsPart.IsPartFor}
use Rattle.model_parts.proofs.Thin.{all_falling, bare_authorizations, carries_thin, rows_thin, swept_thin, thin_ordered, thinned_whole, whole_orders}
use Rattle.model_parts.proofs.{Between.carries_by, Between.none_listed, Between.parts_answer, Cut.at_number, Cut.no_part, Cut.no_rows, Cut.numbered}
use Rattle.model_parts.proofs.{Enough.answers_at, Enough.restricted_ordered, Fewer.minimal_issue, Fewer.minimal_kept, Fewer.minimal_pass, Fewer.minimal_settle}
use Rattle.model_parts.proofs.{Grown.grown, Grown.grown_closed, Grown.grown_part, Listed.KeepsListed, Replies.rows_same, Walks.IsNoWork}
use Rattle.model_parts.proofs.{TrimmedVerdicts.IsNoList, ListedAlone.all_needed, ListedAlone.needed_pass, Needed.needed, Needed.needed_answers}
use Rattle.model_parts.proofs.{Needed.needed_cut, Lists.each_member, Lists.filter_nothing, Lists.filter_same, Lists.same_number}
use Rattle.desk_model.specs.declared.call.Ask.TheVariants as ask
use Rattle.desk_model.specs.declared.call.OfficeAsk.TheVariants as office
use Rattle.desk_model.specs.declared.verdict.Listing.TheVariants as listing
use Rattle.desk_model.specs.declared.verdict.Shows.TheVariants as show

-- ---- parts are enough

-- a part for a call is enough for it
pub part_enough : (T P : Tables) (call : Call) → IsOrdered T → IsPartFor call T P → IsEnoughFor call T P
part_enough T P call h part =
    record { kept = in_whole part.kept; cut = part.cut ∙ sym (thinned_whole part.kept T); answers = parts_answer T P call h part }

-- what is enough is cut from the whole, and stands by number as it does
pub enough_ordered : (T P : Tables) (call : Call) → IsOrdered T → IsEnoughFor call T P → IsOrdered P
enough_ordered T P call h part =
    subst IsOrdered (sym part.cut) (thin_ordered part.kept.challenges part.kept.whole (restricted part.kept.rows T) (restricted_ordered part.kept.rows T h))

-- ---- what shows something and records nothing

-- a part that shows the same is carried out as the whole
shows_as : (k : Kept) (T : Tables) (m : ℕ) (what : Shows) → IsOrdered T → reply_of (swept m (restricted k T)) what ≡ reply_of (swept m T) what
    → CarriesOutAs m T (restricted k T) (answers what)
shows_as k T m what h same = carries_by k T m (answers what) h tt (λ index. same)

-- ---- the work of the validator

-- a test that no item passes leaves nothing
none_pass : {X : Type 0} (p : X → Bool) (xs : List X) → list_any p xs ≡ false → filter p xs ≡ []
none_pass p [] h = refl
none_pass p (x ∷ xs) h = grind (arith, (none_pass p xs))

-- an authorization without work shows none, at no moment
no_work : (m : ℕ) (r : AuthorizationRow) → has_work r ≡ false → work_of (swept_authorization m r) ≡ []
no_work m r h = grind (arith, none_pass)

-- so what is left without it shows the same
work_left : (m : ℕ) (kept : AuthorizationRow → Bool) (rows : List AuthorizationRow) → EachOf (λ r. kept r ≡ has_work r) rows →
    flat_map work_of (map (swept_authorization m) (filter kept rows)) ≡ flat_map work_of (map (swept_authorization m) rows)
work_left m kept [] h = refl
work_left m kept (r ∷ rows) h = grind (arith, no_work, (work_left m kept rows h.1))

-- the numbers of the authorizations with work
abbrev validator_kept : Tables → Kept
validator_kept T =
    record {
      nonces = λ n. false;
      accounts = λ n. false;
      authorizations = at_number (λ (r : AuthorizationRow). r.number) has_work T.authorizations;
      orders = λ n. false;
    }

-- the numbers of authorizations are those of the ones with work
validator_same : (T : Tables) → IsOrdered T → EachOf (λ r. (validator_kept T).authorizations r.number ≡ has_work r) T.authorizations
validator_same T h = numbered (λ (r : AuthorizationRow). r.number) has_work 1 T.authorizations h.authorizations.0

-- with the challenges that wait alone
abbrev validator_thinning : Tables → Thinning
validator_thinning T = record { rows = validator_kept T; challenges = waiting_challenges; whole = all_whole }

-- the rows of the list are cut from the tables
validator_cut : (T : Tables) → IsOrdered T → challenge_work_rows T ≡ thinned (validator_thinning T) T
validator_cut T h =
    λ i. record {
      meta = T.meta;
      nonces = filter_nothing T.nonces i;
      accounts = filter_nothing T.accounts i;
      authorizations = map (with_challenges waiting_challenges)
          (filter_same has_work _ T.authorizations (each _ _ T.authorizations (λ r e. sym e) (validator_same T h)) i);
      orders = (filter_nothing T.orders ∙ sym (whole_orders (restricted (validator_kept T) T).orders)) i;
    }

-- a part of these numbers settles the list
validator_settles : (T : Tables) (m : ℕ) → IsOrdered T → SettlesAs m office.ChallengeWork T (restricted (validator_kept T) T)
validator_settles T m h = grind (arith, shows_as, work_left, validator_same)

-- what passes a test passes it again
filter_again : {X : Type 0} (p : X → Bool) (xs : List X) → filter p (filter p xs) ≡ filter p xs
filter_again p [] = refl
filter_again p (x ∷ xs) = grind (arith, (filter_again p xs))

-- an authorization shows no challenge but those that wait
work_thin : (r : AuthorizationRow) → work_of (with_challenges waiting_challenges r) ≡ work_of r
work_thin r = grind (arith, filter_again)

-- the list shows no other challenges than those that wait
challenge_work_thin : (S : Tables) → challenge_work (thin waiting_challenges all_whole S) ≡ challenge_work S
challenge_work_thin S = ap (λ (items : List Data). document ((codes "challenges", list items) ∷ [])) (items S.authorizations)
  where
    items : (rows : List AuthorizationRow) → flat_map work_of (map (with_challenges waiting_challenges) rows) ≡ flat_map work_of rows
    items [] = refl
    items (r ∷ rows) = λ i. work_thin r i ++ items rows i

-- so it needs no others
validator_thin : (T P : Tables) (m : ℕ) → SettlesAs m office.ChallengeWork T P → SettlesAs m office.ChallengeWork T (thin waiting_challenges all_whole P)
validator_thin T P m h = grind (arith, carries_thin, (swept_thin waiting_challenges all_whole m P (all_falling m P)), (challenge_work_thin (swept m P)))

-- ---- the work of the issuer

-- the numbers of these orders, and of what they list
abbrev issuer_kept : Tables → Kept
issuer_kept T =
    record {
      nonces = λ n. false;
      accounts = λ n. false;
      authorizations = λ n. list_any (λ o. is_processing o.status && lists o n) T.orders;
      orders = at_number (λ (o : OrderRow). o.number) (λ o. is_processing o.status) T.orders;
    }

-- the numbers of orders are those of the ones that wait
issuer_same : (T : Tables) → IsOrdered T → EachOf (λ o. (issuer_kept T).orders o.number ≡ is_processing o.status) T.orders
issuer_same T h = numbered (λ (o : OrderRow). o.number) (λ o. is_processing o.status) 1 T.orders h.orders.0

-- without challenges
abbrev issuer_thinning : Tables → Thinning
issuer_thinning T = record { rows = issuer_kept T; challenges = no_challenges; whole = all_whole }

-- the rows of the list are cut from the tables
issuer_cut : (T : Tables) → IsOrdered T → order_work_rows T ≡ thinned (issuer_thinning T) T
issuer_cut T h =
    λ i. record {
      meta = T.meta;
      nonces = filter_nothing T.nonces i;
      accounts = filter_nothing T.accounts i;
      authorizations = sym (bare_authorizations (filter (is_worked_on T) T.authorizations)) i;
      orders = (filter_same (λ o. is_processing o.status) _ T.orders (each _ _ T.orders (λ o e. sym e) (issuer_same T h))
          ∙ sym (whole_orders (restricted (issuer_kept T) T).orders)) i;
    }

-- with an order what it lists
issuer_listed : (T : Tables) → IsOrdered T → KeepsListed (issuer_kept T) T
issuer_listed T h =
    each _ _ T.orders (λ o p kept.
    each _ _ (numbers_of o.listed) (λ n member. p.1 (λ y. is_processing y.status && lists y n)
    (and_from _ _ (sym p.0 ∙ kept) (member (λ j. j == n) (same_number n))))
    (each_member (numbers_of o.listed)))
    (each_both _ _ T.orders (issuer_same T h) (each_member T.orders))

-- items that pass a test, by two functions that agree on them
same_passing : {X Y : Type 0} (f g : X → Y) (p : X → Bool) (xs : List X) → EachOf (λ x. p x ≡ true → f x ≡ g x) xs → map f (filter p xs) ≡ map g (filter p xs)
same_passing f g p [] h = refl
same_passing f g p (x ∷ xs) h = grind (arith, (same_passing f g p xs h.1))

-- the document of an order with these names
abbrev names_document : List Data → OrderRow → Data
names_document names o =
    document (
    (codes "csr", string (base64url (bytes_of o.finalized)))
    ∷ (codes "names", list names)
    ∷ (codes "order", number (unsigned o.number))
    ∷ []
    )

-- an order of which all that it lists is kept shows the same
document_left : (k : Kept) (S : Tables) (o : OrderRow) → EachOf (λ n. k.authorizations n ≡ true) (numbers_of o.listed) →
    order_work_document (restricted k S) o ≡ order_work_document S o
document_left k S o h = grind (arith, rows_same)

-- the list of a part that keeps these orders and what they list
issues_left : (k : Kept) (S : Tables) → EachOf (λ o. is_processing o.status ≡ true → k.orders o.number ≡ true) S.orders → KeepsListed k S →
    map (order_work_document (restricted k S)) (filter (λ o. is_processing o.status) (restricted k S).orders)
    ≡ map (order_work_document S) (filter (λ o. is_processing o.status) S.orders)
issues_left k S h listed = grind (
  arith,
  filter_part,
  (same_passing (order_work_document (restricted k S)) (order_work_document S) (λ o. is_processing o.status) S.orders
      (each _ _ S.orders (λ o p yes. document_left k S o (p.1 (p.0 yes))) (each_both _ _ S.orders h listed))),
)

-- a part of these numbers settles the list
issuer_settles : (T : Tables) (m : ℕ) → IsOrdered T → SettlesAs m office.OrderWork T (restricted (issuer_kept T) T)
issuer_settles T m h =
    record {
      judged = refl;
      verdict = shows_as (issuer_kept T) T m (show.List listing.OrderWork) h
          (ap (λ (P : Tables). reply_of (swept m P) (show.List listing.OrderWork)) (sym (grown_part (issuer_kept T) T))
          ∙ ap (λ (P : Tables). reply_of P (show.List listing.OrderWork)) (swept_part k T m closed)
          ∙ ap (λ (items : List Data). ok 200 (document ((codes "orders", list items) ∷ [])))
          (issues_left k (swept m T) waits (swept_closed k T m closed).listed));
      records = refl;
    }
  where
    k : Kept
    k = grown (issuer_kept T) T

    closed : IsClosed k T
    closed = grown_closed (issuer_kept T) T h (issuer_listed T h)

    waits : EachOf (λ o. is_processing o.status ≡ true → k.orders o.number ≡ true) (swept m T).orders
    waits = grind (arith, each-map, each, issuer_same)

-- the list shows no challenge
order_work_thin : (S : Tables) → order_work (thin no_challenges all_whole S) ≡ order_work S
order_work_thin S =
    ap (λ (items : List Data). document ((codes "orders", list items) ∷ []))
    (ap (λ os. map (order_work_document (thin no_challenges all_whole S)) (filter (λ o. is_processing o.status) os)) (whole_orders S.orders)
    ∙ map-each (order_work_document (thin no_challenges all_whole S)) (order_work_document S) (filter (λ o. is_processing o.status) S.orders)
    (each_all _ (filter (λ o. is_processing o.status) S.orders) (λ o.
    ap (λ names. names_document names o)
    (rows_thin (λ (a : AuthorizationRow). string (shown_name a.name)) no_challenges (λ r. refl) S.authorizations (numbers_of o.listed)))))

-- so it needs none
issuer_thin : (T P : Tables) (m : ℕ) → SettlesAs m office.OrderWork T P → SettlesAs m office.OrderWork T (thin no_challenges all_whole P)
issuer_thin T P m h = grind (arith, carries_thin, (swept_thin no_challenges all_whole m P (all_falling m P)), (order_work_thin (swept m P)))

-- ---- each call

-- what is cut so and answers is enough
thinned_by : (T : Tables) (call : Call) (a : Ask) (t : Thinning) → call.ask ≡ a → enough_at T (max call.at T.meta.counters.clock) a ≡ thinned t T →
    AnswersAs (max call.at T.meta.counters.clock) a T (thinned t T) → IsEnoughFor call T (enough T call)
thinned_by T call a t is cut settles = grind arith

-- so are rows in whole
enough_by : (T : Tables) (call : Call) (a : Ask) (k : Kept) → call.ask ≡ a → enough_at T (max call.at T.meta.counters.clock) a ≡ restricted k T →
    AnswersAs (max call.at T.meta.counters.clock) a T (restricted k T) → IsEnoughFor call T (enough T call)
enough_by T call a k is cut settles =
    thinned_by T call a (in_whole k) is (cut ∙ sym (thinned_whole k T))
    (subst (AnswersAs (max call.at T.meta.counters.clock) a T) (sym (thinned_whole k T)) settles)

-- so are the few rows, as they are needed, where no list of orders is asked for
needed_by : (T : Tables) (call : Call) (a : Ask) → IsNoList a → IsOrdered T → call.ask ≡ a → asks_orders a ≡ false →
    enough_at T (max call.at T.meta.counters.clock) a ≡ needed_rows T (max call.at T.meta.counters.clock) a →
    AnswersAs (max call.at T.meta.counters.clock) a T (restricted (minimal_kept T (max call.at T.meta.counters.clock) a) T) → IsEnoughFor call T (enough T call)
needed_by T call a no_list h is none here settles =
    let m : ℕ = max call.at T.meta.counters.clock in
    thinned_by T call a (needed T m a) is (here ∙ needed_cut T m a h)
    (needed_answers T m a h no_list (subst (AnswersAs m a T) (sym (all_needed T m a h none)) settles))

-- the few rows are enough for each call
pub minimal_enough : (T : Tables) (call : Call) → IsOrdered T → IsStatedFor call.ask (max call.at T.meta.counters.clock) T → IsEnoughFor call T (enough T call)
minimal_enough T call h stated = by call.ask refl
  where
    m : ℕ
    m = max call.at T.meta.counters.clock

    few : (a : OfficeAsk) → IsNoWork a → call.ask ≡ ask.Office a → enough_at T m (ask.Office a) ≡ needed_rows T m (ask.Office a) →
        IsEnoughFor call T (enough T call)
    few a none is here = needed_by T call (ask.Office a) none h is refl here (minimal_settle T m a none h)

    by : (a : Ask) → call.ask ≡ a → IsEnoughFor call T (enough T call)
    by (ask.Office office.ChallengeWork) is =
        thinned_by T call (ask.Office office.ChallengeWork) (validator_thinning T) is (validator_cut T h)
        (validator_thin T (restricted (validator_kept T) T) m (validator_settles T m h))
    by (ask.Office office.OrderWork) is = thinned_by T call (ask.Office office.OrderWork) (issuer_thinning T) is (issuer_cut T h)
        (issuer_thin T (restricted (issuer_kept T) T) m (issuer_settles T m h))
    by (ask.Office office.Directory) is =
        enough_by T call (ask.Office office.Directory) no_rows is (no_part T)
        (answers_at no_rows T m (ask.Office office.Directory) h (none_listed T) (record { nonces = tt; accounts = tt; authorizations = tt; orders = tt }))
    by (ask.NewNonce head) is = needed_by T call (ask.NewNonce head) tt h is refl refl (minimal_issue T m (ask.NewNonce head) h refl refl refl)
    by (ask.Signed s) is =
        thinned_by T call (ask.Signed s) (needed T m (ask.Signed s)) is (needed_cut T m (ask.Signed s) h)
        (needed_answers T m (ask.Signed s) h tt (needed_pass T m s h (minimal_pass T m s h (subst (λ a. IsStatedFor a m T) is stated))))
    by (ask.Office a) is = few a tt is refl
