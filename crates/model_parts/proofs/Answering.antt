-- An answer to a challenge changes no order, where each status is the one that its row gives: so the orders that list its authorization may lack.
use Rattle.std.proofs.Common.{◌≡◌, ◌≤◌, ℕ, List, [], ◌∷◌, ◌++◌, map, refl, sym, ap, subst, ◌∙◌, true, false, Bool, cond, arith, rules}
use Rattle.std.proofs.lemmas.Bool.{or_left}
use Rattle.std.specs.{Prelude.◌==◌, Prelude.◌&&◌, Prelude.◌||◌, List.list_any}
use Rattle.desk_model.specs.Change.{all_changes, changes, order_differs, recorded_changes}
use Rattle.desk_model.specs.Derived.{and_status, authorization_numbered, numbers_of, restated_authorization, restated_order, stored_statuses}
use Rattle.desk_model.specs.Effect.{answered_challenge, authorizations_after, effect, effects, moved_authorization, noted_challenge, noted_order, touches_order}
use Rattle.desk_model.specs.Effect.{has_row, swept}
use Rattle.desk_model.specs.Kept.{CoversSweep, EachOf, HoldersKept, IsClosed, Kept, restricted}
use Rattle.desk_model.specs.declared.entry.Entry.TheVariants.{Answered as answered, Issued as issued, Spent as spent}
use Rattle.desk_model.specs.declared.verdict.Verdict.TheVariants.{Refused as refused, KeyTaken as key_taken, Answers as answers, Moves as moves}
use Rattle.desk_model.specs.{Rules.signed_verdict, Tables.authorization_row, Shown.moved_reply, declared.call.Ask.Ask, Authorization.is_good, Legal.EachFollows}
use Rattle.desk_model.specs.{Tables.Tables, Tables.order_row, Tables.picture, Entry.History, History.clock, Lookup.holds, Shown.reply_of, Order.orders}
use Rattle.desk_model.specs.{Decide.entries_of, declared.rows.AccountRow.AccountRow, declared.verdict.Verdict.Verdict, declared.status.AuthzStatus.AuthzStatus}
use Rattle.desk_model.specs.{Authorization.authorizations, declared.call.Signed.Signed, declared.rows.OrderRow.OrderRow, declared.call.Target.Target}
use Rattle.desk_model.specs.{declared.rows.AuthorizationRow.AuthorizationRow, declared.rows.Change.TheVariants.PutMeta, declared.rows.ChallengeRow.ChallengeRow}
use Rattle.model_laws.proofs.Local.{changes_local, kept_after, moved_number, restated_same, sweep_changes_local, swept_part, touches_same}
use Rattle.model_laws.proofs.Plain.{covers_issued, covers_spent, issued_closed, issued_effect, nonces_covered, spent_closed, spent_effect}
use Rattle.model_laws.proofs.{Basics.each, Basics.each_all, Basics.each_both, Basics.each-map, Chain.recorded_local, Step.sweep, SweptParts.swept_closed}
use Rattle.model_laws.proofs.{Chain.effect_part, Differing.order_differs_not, RowFacts.authorization_stated, OrderFacts.order_stated, OrderFacts.restated_alike}
use Rattle.model_lives.proofs.Judged.{OfAccount, OfRequest, request_judged, sent}
use Rattle.model_parts.proofs.{Grown.KeepsNamed, Between.bare, Enough.carried_by, Ready.swept_names}
use Rattle.model_parts.proofs.{Grown.KeepsRestated, Grown.keeps_falling, Lists.filtered_each, Verdicts.nonce_same, Replies.owner_after, Unlisted.moves_order}
use Rattle.model_parts.proofs.{Grown.target_answers, Verdicts.signed_same, Replies.client_challenge_shown, Unlisted.bare_changes}
use Rattle.model_parts.specs.{AnswersAs.CarriesOutAs, AnswersAs.PassesAs, MinimalPart.IsStated, MinimalPart.IsStatedFor, MinimalPart.IsStatedTo}
use Rattle.desk_model.specs.declared.call.Target.TheVariants as to
use Rattle.desk_model.specs.declared.entry.Move.TheVariants as move

-- ---- statuses stand

-- at each moment the statuses of a picture are those that its rows give
pub pictures_stated : (F : History) (m : ℕ) → EachFollows F → clock F ≤ m → IsStated m (swept m (picture F))
pictures_stated F m h le =
    subst (IsStated m) (sweep F (clock F) m le)
    (record {
      authorizations = each-map _ (authorization_row F m) (authorizations F) (each_all _ (authorizations F) (λ a. sym (authorization_stated F h m m a)));
      orders = each-map _ (order_row F m) (orders F) (each_all _ (orders F) (λ o. sym (order_stated F m m o)));
    })

-- so they are what is asked of them, whatever the ask
pub stated_for : (a : Ask) (m : ℕ) (T : Tables) → IsStated m (swept m T) → IsStatedFor a m T
stated_for a m T h = grind arith

-- the first row of a number, moved or not, gives the same status
same_status : (move : AuthorizationRow → AuthorizationRow) (n : ℕ) (xs : List AuthorizationRow) (others rest : List AuthzStatus) →
    EachOf (λ r. ((move r).number ≡ r.number) × ((move r).status ≡ r.status)) xs → others ≡ rest →
    and_status (authorization_numbered n (map move xs ++ [])) others ≡ and_status (authorization_numbered n xs) rest
same_status move n [] others rest h same = same
same_status move n (x ∷ xs) others rest h same = grind (arith, (same_status move n xs others rest h.1 same))

-- rows that move, but keep number and status, give orders the same statuses
same_statuses : (move : AuthorizationRow → AuthorizationRow) (rows : List AuthorizationRow) →
    EachOf (λ r. ((move r).number ≡ r.number) × ((move r).status ≡ r.status)) rows → (ns : List ℕ) →
    stored_statuses (map move rows ++ []) ns ≡ stored_statuses rows ns
same_statuses move rows h ns = grind (arith, same_status)

-- an answer reports nothing
still_proved : (n m : ℕ) (key : List ℕ) (cs : List ChallengeRow) →
    list_any (λ c. holds (λ r. is_good r.outcome) c.reported) (map (noted_challenge (answered n) m key) cs)
    ≡ list_any (λ c. holds (λ r. is_good r.outcome) c.reported) cs
still_proved n m key [] = refl
still_proved n m key (c ∷ cs) = λ i. one (n == c.number) i || still_proved n m key cs i
  where
    one : (b : Bool) → holds (λ r. is_good r.outcome) (cond b (answered_challenge m key c) c).reported ≡ holds (λ r. is_good r.outcome) c.reported
    one b = grind arith

-- so an authorization keeps its status
status_stands : (m n : ℕ) (accounts : List AccountRow) (r : AuthorizationRow) → restated_authorization m r ≡ r →
    (moved_authorization (answered n) m accounts r).status ≡ r.status
status_stands m n accounts r stated = grind (arith, still_proved)

-- so no order moves
orders_stand : (m n : ℕ) (S : Tables) → IsStated m S → EachOf (λ o. moves_order m S (answered n) o ≡ false) S.orders
orders_stand m n S h =
    each _ _ S.orders
    (λ o stated.
    let statuses : stored_statuses (authorizations_after S (answered n) m) (numbers_of o.listed) ≡ stored_statuses S.authorizations (numbers_of o.listed) =
    same_statuses (moved_authorization (answered n) m S.accounts) S.authorizations
    (each _ _ S.authorizations (λ r s. (moved_number (answered n) m S.accounts r, status_stands m n S.accounts r s)) h.authorizations) (numbers_of o.listed) in
    let same : restated_order m (authorizations_after S (answered n) m) (noted_order (answered n) m o) ≡ o =
    restated_alike m _ _ o statuses ∙ stated in
    ap (λ x. touches_order (answered n) S.authorizations o && order_differs o x) same
    ∙ ap (λ b. touches_order (answered n) S.authorizations o && b) (order_differs_not o)
    ∙ neither (touches_order (answered n) S.authorizations o)) h.orders
  where
    neither : (b : Bool) → (b && false) ≡ false
    neither true = refl
    neither false = refl

-- nor in a part
part_stands : (k : Kept) (m n : ℕ) (S : Tables) → IsClosed k S → HoldersKept k S (answered n) → IsStated m S →
    EachOf (λ o. moves_order m (restricted k S) (answered n) o ≡ false) (restricted k S).orders
part_stands k m n S closed holders h =
    filtered_each _ (λ (o : OrderRow). k.orders o.number) S.orders
    (each _ _ S.orders (λ o p kept.
    (λ i. touches_same k S (answered n) o (p.1 kept) i
    && order_differs o (restated_same m (authorizations_after (restricted k S) (answered n) m) (authorizations_after S (answered n) m)
    (noted_order (answered n) m o) (kept_after k S (answered n) m (numbers_of o.listed) holders (p.1 kept)) i))
    ∙ p.0) (each_both _ _ S.orders (orders_stand m n S h) closed.listed))

-- ---- what is recorded

-- the authorizations of the challenge are kept
abbrev OwnersKept : Kept → Tables → ℕ → Type 0
OwnersKept k S n = EachOf (λ r. has_row n r ≡ true → k.authorizations r.number ≡ true) S.authorizations

-- the part changes as the whole, whatever orders it lacks
answered_same : (k : Kept) (m n : ℕ) (S : Tables) → IsClosed k S → HoldersKept k S (answered n) → OwnersKept k S n → IsStated m S →
    changes m (restricted k S) (answered n) ≡ changes m S (answered n)
answered_same k m n S closed holders owners h = grind (
  arith,
  (bare_changes m (restricted k S) (answered n) (part_stands k m n S closed holders h)),
  (changes_local k (bare S) m (answered n)
      (record {
        listed = tt;
        new_nonces = closed.new_nonces;
        new_accounts = closed.new_accounts;
        new_authorizations = closed.new_authorizations;
        new_orders =
            closed.new_orders;
      }) (record { accounts = each_all _ S.accounts (λ a t. cc); authorizations = owners; orders = tt; holders = holders }) tt),
  (bare_changes m S (answered n) (orders_stand m n S h)),
)

-- also behind the nonces
entries_same : (k : Kept) (m n : ℕ) (r : List ℕ) (j : ℕ) (S : Tables) → IsClosed k S → HoldersKept k S (answered j) → OwnersKept k S j → IsStated m S →
    all_changes m (restricted k S) (spent n ∷ issued r ∷ answered j ∷ []) ≡ all_changes m S (spent n ∷ issued r ∷ answered j ∷ [])
entries_same k m n r j S closed holders owners h =
    λ i. changes_local k S m (spent n) closed (covers_spent k S n) tt i
    ++ (ap (λ P. all_changes m P (issued r ∷ answered j ∷ [])) (effect_part k S m (spent n) closed (covers_spent k S n).holders tt)
    ∙ (λ l. changes_local k S1 m (issued r) closed1 (covers_issued k S1 r) tt l
    ++ (ap (λ P. all_changes m P (answered j ∷ [])) (effect_part k S1 m (issued r) closed1 (covers_issued k S1 r).holders tt)
    ∙ (λ q. answered_same k m j S2 closed2 holders2 owners2 stated2 q ++ [])) l)) i
  where
    S1 : Tables
    S1 = effect m S (spent n)

    S2 : Tables
    S2 = effect m S1 (issued r)

    closed1 : IsClosed k S1
    closed1 = spent_closed k m S n closed

    closed2 : IsClosed k S2
    closed2 = issued_closed k m S1 r closed1

    -- what speaks of authorizations and orders alone stands after both
    stands : (P : Tables → Type 0) → P (record S { meta = S2.meta; nonces = S2.nonces }) → P S2
    stands P = subst P (sym (ap (λ U. effect m U (issued r)) (spent_effect m S n) ∙ issued_effect m (record S { meta = S1.meta; nonces = S1.nonces }) r))

    holders2 : HoldersKept k S2 (answered j)
    holders2 = stands (λ U. HoldersKept k U (answered j)) holders

    owners2 : OwnersKept k S2 j
    owners2 = stands (λ U. OwnersKept k U j) owners

    stated2 : IsStated m S2
    stated2 = stands (IsStated m) (record { authorizations = h.authorizations; orders = h.orders })

-- ---- what is shown

-- a verdict on an answer, by a part: what it shows is the same, and what its entry reads is kept
abbrev IsReplied : Kept → ℕ → Tables → Verdict → Type 0
IsReplied k m S (refused why subproblems) = Unit {0}
IsReplied k m S (key_taken account) = Unit {0}
IsReplied k m S (answers what) = reply_of (restricted k S) what ≡ reply_of S what
IsReplied k m S (moves (move.Answered n)) =
    (HoldersKept k S (answered n) × OwnersKept k S n)
    × (moved_reply (restricted k (effect m S (answered n))) (move.Answered n) ≡ moved_reply (effect m S (answered n)) (move.Answered n))
IsReplied k m S _ = ⊥

-- a verdict on an answer, by an account: the authorization of the challenge and its account are kept
account_way : (k : Kept) (m : ℕ) (S : Tables) (r : List ℕ) (n : ℕ) (p : List ℕ) (j : ℕ) (v : Verdict) → IsClosed k S → HoldersKept k S (answered j)
    → OwnersKept k S j → OfAccount S r n p (to.Chall j) v → IsReplied k m S v
account_way k m S r n p j v closed holders owners (OfAccount.turned_away t why ss) = tt
account_way k m S r n p j v closed holders owners (OfAccount.challenge_read i a found) = client_challenge_shown k S j owners
account_way k m S r n p j v closed holders owners (OfAccount.challenge_answered i a found is waits) =
    ((holders, owners), client_challenge_shown k (effect m S (answered j)) j (owner_after k S m (answered j) j closed owners))

-- a verdict on an answer, by a request
request_way : (k : Kept) (m : ℕ) (S : Tables) (r : List ℕ) (s : Signed) (j : ℕ) (v : Verdict) → IsClosed k S → HoldersKept k S (answered j)
    → OwnersKept k S j → OfRequest S r s (to.Chall j) v → IsReplied k m S v
request_way k m S r s j v closed holders owners (OfRequest.unheld t why) = tt
request_way k m S r s j v closed holders owners (OfRequest.held t w key x is found valid way) =
    account_way k m S r x.number s.payload j v closed holders owners way

-- so by each signed request
signed_replied : (k : Kept) (m : ℕ) (S : Tables) (r : List ℕ) (s : Signed) (j : ℕ) → IsClosed k S → HoldersKept k S (answered j) → OwnersKept k S j →
    IsReplied k m S (signed_verdict S r (record s { target = to.Chall j }))
signed_replied k m S r s j closed holders owners = request_way k m S r _ j _ closed holders owners (request_judged S r (record s { target = to.Chall j }))

-- ---- the request

-- such a verdict is carried out by the part as by the whole
carried_answer : (k : Kept) (T : Tables) (m : ℕ) (v : Verdict) → IsClosed k T → IsReplied k m (swept m T) v → CarriesOutAs m T (restricted k T) v
carried_answer k T m (refused why ss) closed h = carried_by k T m (refused why ss) (swept_part k T m closed) (λ index. refl)
carried_answer k T m (key_taken account) closed h = carried_by k T m (key_taken account) (swept_part k T m closed) (λ index. refl)
carried_answer k T m (answers what) closed h = carried_by k T m (answers what) (swept_part k T m closed) (λ index. h)
carried_answer k T m (moves (move.Answered j)) closed h =
    carried_by k T m (moves (move.Answered j))
    (ap (λ P. effect m P (answered j)) (swept_part k T m closed) ∙ effect_part k (swept m T) m (answered j) (swept_closed k T m closed) h.0.0 tt)
    (λ index. h.1)
carried_answer k T m _ closed h = absurd h

-- the part records the same of nonces
nonces_same : (k : Kept) (T : Tables) (m : ℕ) → IsClosed k T → CoversSweep k T m → (n : ℕ) (fresh : List ℕ) →
    recorded_changes m (restricted k T) (spent n ∷ issued fresh ∷ []) ≡ recorded_changes m T (spent n ∷ issued fresh ∷ [])
nonces_same k T m closed covers n fresh = search (rules, recorded_local, nonces_covered, swept_closed)

-- and of all that the verdict records
records_answer : (k : Kept) (T : Tables) (m : ℕ) (v : Verdict) → IsClosed k T → CoversSweep k T m → IsStated m (swept m T) → IsReplied k m (swept m T) v →
    (n : ℕ) (fresh : List ℕ) →
    recorded_changes m (restricted k T) (spent n ∷ issued fresh ∷ entries_of v) ≡ recorded_changes m T (spent n ∷ issued fresh ∷ entries_of v)
records_answer k T m (refused why ss) closed covers stated h n fresh = nonces_same k T m closed covers n fresh
records_answer k T m (key_taken account) closed covers stated h n fresh = nonces_same k T m closed covers n fresh
records_answer k T m (answers what) closed covers stated h n fresh = nonces_same k T m closed covers n fresh
records_answer k T m (moves (move.Answered j)) closed covers stated h n fresh =
    λ i. sweep_changes_local k T m closed covers i
    ++ ((ap (λ P. all_changes m P (spent n ∷ issued fresh ∷ answered j ∷ [])) (swept_part k T m closed)
    ∙ entries_same k m n fresh j (swept m T) (swept_closed k T m closed) h.0.0 h.0.1 stated) i
    ++ PutMeta (effects m (swept m T) (spent n ∷ issued fresh ∷ answered j ∷ [])).meta ∷ [])
records_answer k T m _ closed covers stated h n fresh = absurd h

-- what the sweep leaves of the owner and its account
swept_holders : (k : Kept) (T : Tables) (m j : ℕ) → HoldersKept k T (answered j) → HoldersKept k (swept m T) (answered j)
swept_holders k T m j h = grind (arith, each-map, each)

-- so the verdict on an answer is shown by such a part, whatever the random bytes
chall_replied : (b : Bool) (k : Kept) (T : Tables) (m : ℕ) (s : Signed) (j : ℕ) (r : List ℕ) → IsClosed k T → KeepsRestated b k T m (sent s (to.Chall j))
    → KeepsNamed k T (sent s (to.Chall j)) → IsReplied k m (swept m T) (signed_verdict (swept m T) r (record s { target = to.Chall j }))
chall_replied b k T m s j r closed restated kept =
    signed_replied k m (swept m T) r s j (swept_closed k T m closed)
    (swept_holders k T m j (each _ _ T.authorizations (λ r f has. f (or_left _ _ has)) restated.holders)) (swept_names k T m (sent s (to.Chall j)) kept).owner

-- which is the same
chall_judged : (k : Kept) (T : Tables) (m : ℕ) (s : Signed) (j : ℕ) (r : List ℕ) → IsClosed k T → KeepsNamed k T (sent s (to.Chall j)) →
    signed_verdict (swept m (restricted k T)) r (record s { target = to.Chall j }) ≡ signed_verdict (swept m T) r (record s { target = to.Chall j })
chall_judged k T m s j r closed kept =
    ap (λ P. signed_verdict P r (record s { target = to.Chall j })) (swept_part k T m closed)
    ∙ signed_same k (swept m T) r (record s { target = to.Chall j }) (swept_names k T m (sent s (to.Chall j)) kept)

-- so the part answers such a request as the whole
passes_chall : (b : Bool) (k : Kept) (T : Tables) (m : ℕ) (s : Signed) (j : ℕ) → IsStated m (swept m T) → IsClosed k T →
    KeepsRestated b k T m (sent s (to.Chall j)) → KeepsNamed k T (sent s (to.Chall j)) → PassesAs m (record s { target = to.Chall j }) T (restricted k T)
passes_chall b k T m s j stated closed restated kept =
    search (
      rules,
      keeps_falling,
      swept_part,
      swept_names,
      nonce_same,
      recorded_local,
      covers_issued,
      swept_closed,
      chall_judged,
      carried_answer,
      chall_replied,
      records_answer,
    )

-- an answer by a part that keeps the authorization and its account
pub passes_answer : (b : Bool) (k : Kept) (T : Tables) (m : ℕ) (s : Signed) (t : Target) → target_answers t s.payload ≡ true → IsStatedTo t m T → IsClosed k T →
    KeepsRestated b k T m (sent s t) → KeepsNamed k T (sent s t) → PassesAs m (record s { target = t }) T (restricted k T)
passes_answer b k T m s (to.Chall j) h stated closed restated kept = passes_chall b k T m s j stated closed restated kept
passes_answer b k T m s _ h stated closed restated kept = cc
