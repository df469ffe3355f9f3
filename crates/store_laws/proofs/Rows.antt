-- The rows of a legal history are in the limits of their columns.
use Rattle.std.proofs.Common.{◌≡◌, ◌≤◌, ◌<◌, ℕ, ◌+◌, List, [], ◌∷◌, length, Option, option_map, refl, true, arith, rules}
use Rattle.std.proofs.{lemmas.List.Elements.filter_map-append, lemmas.Bool.and_parts}
use Rattle.std.specs.{Prelude.◌==◌, Prelude.IfSome, Prelude.IsSome, Prelude.IsTrue, Prelude.find, List.flat_map}
use Rattle.sha2.proofs.Facts256.{length-sha256}
use Rattle.store_columns.specs.Limits.{AreStored, IfRecorded, IsDatedProblem, IsMoment, IsNumber, IsStoredAccount, IsStoredChallenge, IsStoredKey}
use Rattle.store_columns.specs.Limits.{IsStoredListed, IsStoredMeta, IsStoredNonce}
use Rattle.store_columns.specs.Flat.{bare_row, challenge_rows, flat, key_rows, owned_by, without_challenges, without_listed}
use Rattle.desk_model.specs.{Legal.has_length, declared.objects.Answer.Answer, declared.rows.ChallengeRow.ChallengeRow, declared.rows.DatedProblem.DatedProblem}
use Rattle.desk_model.specs.{Legal.is_problem, Account.account_key, Authorization.answer, Limits.last_moment, Limits.last_number, Questions.account_on}
use Rattle.desk_model.specs.{Legal.is_problem_kind, Legal.Legal, BaseName.is_base_name, Authorization.answer_by, Authorization.answering, Limits.longest_detail}
use Rattle.desk_model.specs.{Legal.may_follow, History.earlier, Kept.Kept, Kept.restricted, Limits.last_end, Tables.order_row, Tables.picture, Tables.tables_at}
use Rattle.desk_model.specs.{Change.spent_by, declared.entry.Entry.Entry, declared.rows.Listed.Listed, Authorization.authorizations, Questions.authorization_on}
use Rattle.desk_model.specs.{Entry.History, Order.orders, History.clock, Kept.EachOf, Nonce.is_open, Nonce.nonce, Nonce.nonces, Tables.Tables}
use Rattle.desk_model.specs.{declared.entry.Entry.TheVariants.Spent as spent, declared.rows.AuthorizationRow.AuthorizationRow, declared.rows.OrderRow.OrderRow}
use Rattle.model_laws.proofs.Basics.{each, each-append, each-map, each_all, each_both, there}
use Rattle.model_laws.proofs.Keeps.{all_end, counters_fit, each-filter, row_keys_formed, row_names_formed, terms_in_limits}
use Rattle.model_laws.proofs.{Dates.clock_in_time, Dates.no_date_later, Forms.nonces_drawn, Forms.problem_formed, Forms.tokens_drawn, Numbers.nonces_numbered}
use Rattle.model_laws.proofs.{Recorded.numbered_below, RowLists.ascends_above, RowLists.numbered_ascends}
use Rattle.model_laws.specs.{DateLaws.IsAuthorizationDatedBy, DateLaws.IsChallengeDatedBy, DateLaws.IsOrderDatedBy, Ordered.Ascends, Ordered.Below}
use Rattle.store_laws.proofs.Books.{tables_book}
use Rattle.store_laws.specs.InLimits.{AreInLimits, IsAuthorizationInLimits, IsOrderInLimits}
use Rattle.store_book.specs.IsBook.{ListsFound}

-- ---- numbers

-- numbers that ascend from 1 and are not above a counter that fits
numbers_in_limits : {X : Type 0} (number : X → ℕ) (last : ℕ) (xs : List X) → Ascends number 1 xs → Below number (last + 1) xs → last ≤ last_number →
    EachOf (λ x. IsNumber (number x)) xs
numbers_in_limits number last xs up below fits = grind (arith, each, each_both, (ascends_above number 0 1 xs (omega arith) up))

-- the number of a row that is found
pub found_in_limits : {X : Type 0} (number : X → ℕ) (n : ℕ) (xs : List X) → EachOf (λ x. IsNumber (number x)) xs →
    IsSome (find (λ x. number x == n) xs) → IsNumber n
found_in_limits number n [] h is = cc
found_in_limits number n (x ∷ xs) h is = grind (arith, (found_in_limits number n xs h.1))

-- ---- dates

-- what follows of a fact that is recorded
if_recorded : {X : Type 0} (P Q : X → Type 0) → ((x : X) → P x → Q x) → (o : Option X) → IfSome o P → IfRecorded Q o
if_recorded P Q h o k = search rules

-- two things that hold of a value
if_both : {X : Type 0} (P Q : X → Type 0) (o : Option X) → IfSome o P → IfSome o Q → IfSome o (λ x. P x × Q x)
if_both P Q o h k = search rules

-- a date that is not after the latest recorded moment
moment_of : (F : History) → Legal F → (n : ℕ) → n ≤ clock F → IsMoment n
moment_of F h n le = let last : clock F ≤ last_moment = clock_in_time F h.each in omega arith

-- and so one that is recorded
dated : {X : Type 0} (F : History) → Legal F → (date : X → ℕ) (o : Option X) → IfSome o (λ x. date x ≤ clock F) → IfRecorded (λ x. IsMoment (date x)) o
dated F h date o = if_recorded (λ x. date x ≤ clock F) (λ x. IsMoment (date x)) (λ x. moment_of F h (date x)) o

-- ---- the one row of a desk's own, nonces and accounts

-- the row of a desk's own
meta_stored : (F : History) → Legal F → (t : ℕ) → t ≤ last_moment → IsStoredMeta (tables_at F t).meta
meta_stored F h t le = search (rules, terms_in_limits)

-- each nonce
nonces_stored : (F : History) → Legal F → (t : ℕ) → EachOf IsStoredNonce (tables_at F t).nonces
nonces_stored F h t =
    let T = tables_at F t in
    let book = tables_book F h.each t in
    each _ _ T.nonces (λ n p. record { serial = p.0; random = p.1.0; issued = moment_of F h n.issued p.1.1 })
    (each_both _ _ T.nonces
    (numbers_in_limits (λ n. n.serial) T.meta.counters.nonces T.nonces book.in_order.nonces book.sound.counters.nonces (counters_fit F h.numbered t).nonces)
    (each_both _ _ T.nonces (each-filter _ (is_open F t) (nonces F) (nonces_drawn F h.each)) (no_date_later F t).nonces))

-- the nonce that an entry spends has a serial in its limits
pub spent_in_limits : (F : History) (e : Entry) (m : ℕ) → Legal F → may_follow F e m ≡ true → EachOf IsNumber (spent_by e)
spent_in_limits F (spent n) m h may =
    let numbered = nonces_numbered F in
    let last : ℕ = length (nonces F) in (
      found_in_limits (λ x. x.serial) n (nonces F)
          (numbers_in_limits (λ x. x.serial) last (nonces F) (numbered_ascends (λ x. x.serial) 1 (nonces F) numbered)
          (numbered_below (λ x. x.serial) 1 (last + 1) (nonces F) (omega arith) numbered) (counters_fit F h.numbered (clock F)).nonces)
          (there (is_open F m) (nonce n F) may),
      tt,
    )
spent_in_limits F _ m h may = tt

-- the number of each account
account_numbers : (F : History) → Legal F → (t : ℕ) → EachOf (λ a. IsNumber a.number) (tables_at F t).accounts
account_numbers F h t =
    let T = tables_at F t in
    let book = tables_book F h.each t in
    numbers_in_limits (λ a. a.number) T.meta.counters.accounts T.accounts book.in_order.accounts book.sound.counters.accounts
    (counters_fit F h.numbered t).accounts

-- each account
accounts_stored : (F : History) → Legal F → (t : ℕ) → EachOf IsStoredAccount (tables_at F t).accounts
accounts_stored F h t =
    let T = tables_at F t in
    each _ _ T.accounts (λ a p. record {
      number = p.0;
      key = p.1.0;
      opened = moment_of F h a.opened p.1.1.opened;
      ended = dated F h (λ e. e.date) a.ended p.1.1.ended;
    })
    (each_both _ _ T.accounts (account_numbers F h t) (each_both _ _ T.accounts (row_keys_formed F h.each t) (no_date_later F t).accounts))

-- ---- authorizations

-- the number of each authorization
authorization_numbers : (F : History) → Legal F → (t : ℕ) → EachOf (λ a. IsNumber a.number) (tables_at F t).authorizations
authorization_numbers F h t =
    let T = tables_at F t in
    let book = tables_book F h.each t in
    numbers_in_limits (λ a. a.number) T.meta.counters.authorizations T.authorizations book.in_order.authorizations book.sound.counters.authorizations
    (counters_fit F h.numbered t).authorizations

-- the date of an answer, in a column of its own
date_recorded : (o : Option Answer) → IfRecorded (λ a. IsMoment a.date) o → IfRecorded IsMoment (option_map (λ a. a.date) o)
date_recorded o h = search rules

-- the thumbprint of an answer has 32 bytes
abbrev HasThumb : Option Answer → Type 0
HasThumb o = IfSome o (λ a. length a.thumb ≡ 32)

-- an answer has a thumbprint, whether it was given before or is now
first_thumb : (key : List ℕ) (before : Option Answer) (now : Option ℕ) → HasThumb before → HasThumb (earlier before (answer_by key now))
first_thumb key before now h = search (rules, length-sha256)

-- so each answer has one
answer_thumbs : (account n : ℕ) (F : History) → HasThumb (answer account n F)
answer_thumbs account n [] = tt
answer_thumbs account n (e ∷ F) = first_thumb (account_key account F) (answer account n F) (answering n e.entry e.date) (answer_thumbs account n F)

-- so it is row by row
row_thumbs : (F : History) (t : ℕ) → EachOf (λ a. EachOf (λ c. HasThumb c.answered) a.challenges) (tables_at F t).authorizations
row_thumbs F t = search (rules, each-map, each_all, answer_thumbs)

-- the keys of the answers of challenges whose numbers are in their limits
keys_stored : (owner : ℕ) (cs : List ChallengeRow) → EachOf (λ c. IsNumber c.number) cs → EachOf (λ c. HasThumb c.answered) cs
    → EachOf IsStoredKey (key_rows (owned_by owner cs))
keys_stored owner [] numbers thumbs = tt
keys_stored owner (c ∷ cs) numbers thumbs = grind (arith, (keys_stored owner cs numbers.1 thumbs.1))

-- challenges of an authorization whose number is in its limits
challenges_stored : (F : History) → Legal F → (owner last : ℕ) → IsNumber owner → last ≤ last_number → (cs : List ChallengeRow) →
    Ascends (λ c. c.number) 1 cs → Below (λ c. c.number) (last + 1) cs → EachOf (λ c. length c.token ≡ 16) cs →
    EachOf (IsChallengeDatedBy (clock F)) cs → EachOf (λ c. IsStoredChallenge (bare_row c)) (owned_by owner cs)
challenges_stored F h owner last is fits cs up below tokens dates =
    each-map (λ c. IsStoredChallenge (bare_row c)) (λ c. record { owner = owner; row = c }) cs
    (each _ _ cs (λ c p. record {
      number = p.0;
      authorization = is;
      token = p.1.0;
      answered = date_recorded c.answered (dated F h (λ a. a.date) c.answered p.1.1.answered);
      reported = dated F h (λ r. r.date) c.reported p.1.1.reported;
    }) (each_both _ _ cs (numbers_in_limits (λ c. c.number) last cs up below fits) (each_both _ _ cs tokens dates)))

-- each token has 16 bytes, row by row
row_tokens : (F : History) → Legal F → (t : ℕ) → EachOf (λ a. EachOf (λ c. length c.token ≡ 16) a.challenges) (tables_at F t).authorizations
row_tokens F h t = search (rules, each-map, each, tokens_drawn)

-- what is known of an authorization is enough for it and its challenges
authorization_stored : (F : History) → Legal F → (t : ℕ) (row : AuthorizationRow) →
    IsNumber row.number × (IsSome (account_on (tables_at F t) row.account) × (IsTrue (is_base_name row.name.base) × ((row.expires ≤ last_end)
    × (IsAuthorizationDatedBy (clock F) row × (Ascends (λ c. c.number) 1 row.challenges
    × (Below (λ c. c.number) ((tables_at F t).meta.counters.challenges + 1) row.challenges
    × (EachOf (λ c. length c.token ≡ 16) row.challenges × EachOf (λ c. HasThumb c.answered) row.challenges))))))) →
    IsAuthorizationInLimits row
authorization_stored F h t row (number, (account, (name, (expires, (dates, (up, (below, (tokens, thumbs)))))))) =
    let last = (tables_at F t).meta.counters.challenges in
    let fits = (counters_fit F h.numbered t).challenges in
    record {
      columns = record {
        number = number;
        account = found_in_limits (λ b. b.number) row.account (tables_at F t).accounts (account_numbers F h t) account;
        name = name;
        made = moment_of F h row.made dates.made;
        expires = expires;
        ended = dated F h (λ e. e.date) row.ended dates.ended;
        challenges = refl;
      };
      challenges = challenges_stored F h row.number last number fits row.challenges up below tokens dates.challenges;
      keys = keys_stored row.number row.challenges (numbers_in_limits (λ c. c.number) last row.challenges up below fits) thumbs;
    }

-- each authorization
authorizations_stored : (F : History) → Legal F → (t : ℕ) → EachOf IsAuthorizationInLimits (tables_at F t).authorizations
authorizations_stored F h t =
    let rows : List AuthorizationRow = (tables_at F t).authorizations in
    let book = tables_book F h.each t in
    let both : (P Q : AuthorizationRow → Type 0) → EachOf P rows → EachOf Q rows → EachOf (λ a. P a × Q a) rows = λ P Q. each_both P Q rows in
    each _ _ rows (authorization_stored F h t)
    (both _ _ (authorization_numbers F h t)
    (both _ _ book.sound.references.authorizations
    (both _ _ (row_names_formed F h.each t)
    (both _ _ (all_end F h.each t).authorizations
    (both _ _ (no_date_later F t).authorizations
    (both _ _ book.in_order.challenges
    (both _ _ book.sound.counters.challenges
    (both _ _ (row_tokens F h t) (row_thumbs F t)))))))))

-- ---- orders

-- what an order lists, where its places count up and the authorizations are there
listed_stored : (T : Tables) (owner : ℕ) → EachOf (λ a. IsNumber a.number) T.authorizations → IsNumber owner → (ls : List Listed) →
    Ascends (λ l. l.place) 1 ls → EachOf (λ l. IsSome (authorization_on T l.authorization)) ls → EachOf IsStoredListed (owned_by owner ls)
listed_stored T owner numbers is ls up found =
    each-map IsStoredListed (λ l. record { owner = owner; row = l }) ls
    (each _ _ ls (λ l p. record {
      order = is;
      place = (let low : 0 < l.place = p.0 in omega arith);
      authorization = found_in_limits (λ a. a.number) l.authorization T.authorizations numbers p.1;
    }) (each_both _ _ ls (ascends_above (λ l. l.place) 0 1 ls (omega arith) up) found))

-- why an order failed
failure_stored : (F : History) → Legal F → (o : Option DatedProblem) → IfSome o (λ f. f.date ≤ clock F) →
    IfSome o (λ f. is_problem f.problem ≡ true) → IfRecorded IsDatedProblem o
failure_stored F h o dates formed =
    if_recorded (λ f. (f.date ≤ clock F) × (is_problem f.problem ≡ true)) IsDatedProblem
    (λ f p. (moment_of F h f.date p.0, (and_parts (is_problem_kind f.problem.kind) (has_length 1 longest_detail f.problem.detail) p.1).0)) o
    (if_both _ _ o dates formed)

-- what is known of an order is enough for it and what it lists
order_stored : (F : History) → Legal F → (t : ℕ) (row : OrderRow) →
    IsNumber row.number × (IsSome (account_on (tables_at F t) row.account) × ((row.expires ≤ last_end) × (IsOrderDatedBy (clock F) row
    × (IfSome row.failed (λ f. is_problem f.problem ≡ true) × (Ascends (λ l. l.place) 1 row.listed × ListsFound (tables_at F t) row))))) →
    IsOrderInLimits row
order_stored F h t row (number, (account, (expires, (dates, (formed, (up, found)))))) =
    record {
      columns = record {
        number = number;
        account = found_in_limits (λ b. b.number) row.account (tables_at F t).accounts (account_numbers F h t) account;
        made = moment_of F h row.made dates.made;
        expires = expires;
        listed = refl;
        finalized = dated F h (λ b. b.date) row.finalized dates.finalized;
        certified = dated F h (λ b. b.date) row.certified dates.certified;
        failed = failure_stored F h row.failed dates.failed formed;
      };
      listed = listed_stored (tables_at F t) row.number (authorization_numbers F h t) number row.listed up found;
    }

-- the number of each order
order_numbers : (F : History) → Legal F → (t : ℕ) → EachOf (λ o. IsNumber o.number) (tables_at F t).orders
order_numbers F h t =
    let T = tables_at F t in
    let book = tables_book F h.each t in
    numbers_in_limits (λ o. o.number) T.meta.counters.orders T.orders book.in_order.orders book.sound.counters.orders (counters_fit F h.numbered t).orders

-- each failure is by a problem that the signing office may hand in, row by row
row_problems : (F : History) → Legal F → (t : ℕ) → EachOf (λ o. IfSome o.failed (λ f. is_problem f.problem ≡ true)) (tables_at F t).orders
row_problems F h t = each-map _ (order_row F t) (orders F) (each_all _ (orders F) (λ o. problem_formed o.number F h.each))

-- each order
orders_stored : (F : History) → Legal F → (t : ℕ) → EachOf IsOrderInLimits (tables_at F t).orders
orders_stored F h t =
    let rows : List OrderRow = (tables_at F t).orders in
    let book = tables_book F h.each t in
    let both : (P Q : OrderRow → Type 0) → EachOf P rows → EachOf Q rows → EachOf (λ o. P o × Q o) rows = λ P Q. each_both P Q rows in
    each _ _ rows (order_stored F h t)
    (both _ _ (order_numbers F h t)
    (both _ _ book.sound.references.orders
    (both _ _ (all_end F h.each t).orders
    (both _ _ (no_date_later F t).orders
    (both _ _ (row_problems F h t)
    (both _ _ book.in_order.places book.sound.references.listed))))))

-- ---- all rows

-- each row of a legal history is in its limits, at each moment that a clock may show
pub tables_in_limits : (F : History) → Legal F → (t : ℕ) → t ≤ last_moment → AreInLimits (tables_at F t)
tables_in_limits F h t le = search (rules, meta_stored, nonces_stored, accounts_stored, authorizations_stored, orders_stored)

-- what holds of the lists of all rows
each_flat : {X Y : Type 0} (P : Y → Type 0) (part : X → List Y) (xs : List X) → EachOf (λ x. EachOf P (part x)) xs → EachOf P (flat_map part xs)
each_flat P part [] h = tt
each_flat P part (x ∷ xs) h = each-append P (part x) (flat_map part xs) h.0 (each_flat P part xs h.1)

-- and of the keys of all answers
keys_each : (rows : List AuthorizationRow) → EachOf (λ a. EachOf IsStoredKey (key_rows (owned_by a.number a.challenges))) rows
    → EachOf IsStoredKey (key_rows (challenge_rows rows))
keys_each [] h = tt
keys_each (a ∷ rows) h = grind (arith, filter_map-append, each-append, (keys_each rows h.1))

-- rows in their limits are so table by table
pub flat_stored : (T : Tables) → AreInLimits T → AreStored (flat T)
flat_stored T h =
    record {
      metas = (h.meta, tt);
      nonces = h.nonces;
      accounts = h.accounts;
      orders = each-map _ without_listed T.orders (each _ _ T.orders (λ o k. k.columns) h.orders);
      authorizations = each-map _ without_challenges T.authorizations (each _ _ T.authorizations (λ a k. k.columns) h.authorizations);
      listed = each_flat _ (λ (o : OrderRow). owned_by o.number o.listed) T.orders (each _ _ T.orders (λ o k. k.listed) h.orders);
      challenges = each-map IsStoredChallenge bare_row (challenge_rows T.authorizations)
          (each_flat _ (λ (a : AuthorizationRow). owned_by a.number a.challenges) T.authorizations
          (each _ _ T.authorizations (λ a k. k.challenges) h.authorizations));
      keys = keys_each T.authorizations (each _ _ T.authorizations (λ a k. k.keys) h.authorizations);
    }

-- and so are those of a desk's picture
pub picture_stored : (F : History) → Legal F → AreStored (flat (picture F))
picture_stored F h = flat_stored (picture F) (tables_in_limits F h (clock F) (clock_in_time F h.each))

-- a part of rows in their limits
pub parts_in_limits : (k : Kept) (T : Tables) → AreInLimits T → AreInLimits (restricted k T)
parts_in_limits k T h = search (rules, each-filter)
