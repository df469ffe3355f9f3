-- The tables of a legal history have no status fault.
use Rattle.std.proofs.Common.{◌≡◌, ℕ, List, [], ◌∷◌, ◌++◌, map, refl, sym, ap, cond, arith, rules}
use Rattle.std.proofs.lemmas.Bool.{eq-eqb}
use Rattle.std.specs.{Prelude.◌==◌, List.flat_map}
use Rattle.desk_model.specs.Derived.{unless, chall_code, order_code, authz_code}
use Rattle.desk_model.specs.Derived.{account_faults, order_faults, authorization_faults, challenge_faults, insert_challenge, sorted_challenges, status_faults}
use Rattle.desk_model.specs.{Entry.History, Account.accounts, Legal.EachFollows, Kept.EachOf, Tables.challenge_row, Tables.order_row, Tables.tables_at}
use Rattle.desk_model.specs.{Order.orders, declared.objects.Challenge.Challenge, declared.rows.ChallengeRow.ChallengeRow, declared.rows.StatusFault.StatusFault}
use Rattle.desk_model.specs.{Authorization.authorizations, Authorization.report, Tables.account_row, Tables.authorization_row, declared.rows.OrderRow.OrderRow}
use Rattle.desk_model.specs.{Authorization.challenge_status_by, declared.objects.Authorization.Authorization, declared.rows.AuthorizationRow.AuthorizationRow}
use Rattle.model_laws.proofs.{Basics.each_all, Basics.each-append, RowFacts.answered_alike, RowFacts.authorization_stated, OrderFacts.order_stated}

-- rows without a fault, one by one
none_of : {X Y : Type 0} (row : X → Y) (faults : Y → List StatusFault) (xs : List X) → EachOf (λ x. faults (row x) ≡ []) xs → flat_map faults (map row xs) ≡ []
none_of row faults [] h = refl
none_of row faults (x ∷ xs) h = λ i. h.0 i ++ none_of row faults xs h.1 i

-- equal codes are no fault
no_fault : (a b : ℕ) (f : StatusFault) → a ≡ b → unless (a == b) f ≡ []
no_fault a b f e = ap (λ c. cond c [] (f ∷ [])) (eq-eqb a b e)

-- items without a fault
no_faults_of : {Y : Type 0} (faults : Y → List StatusFault) (ys : List Y) → EachOf (λ y. faults y ≡ []) ys → flat_map faults ys ≡ []
no_faults_of faults [] h = refl
no_faults_of faults (y ∷ ys) h = λ i. h.0 i ++ no_faults_of faults ys h.1 i

-- what holds of each challenge holds of each when they are sorted
each_inserted : (P : ChallengeRow → Type 0) (c : ChallengeRow) (cs : List ChallengeRow) → P c → EachOf P cs → EachOf P (insert_challenge c cs)
each_inserted P c [] p h = (p, tt)
each_inserted P c (d ∷ ds) p h = grind (arith, (each_inserted P c ds p h.1))

-- and so when all are sorted
each_sorted : (P : ChallengeRow → Type 0) (cs : List ChallengeRow) → EachOf P cs → EachOf P (sorted_challenges cs)
each_sorted P [] h = tt
each_sorted P (c ∷ cs) h = each_inserted P c (sorted_challenges cs) h.0 (each_sorted P cs h.1)

-- no challenge's row has a fault
challenges_are_fine : (F : History) (account : ℕ) (cs : List Challenge) → EachOf (λ c. challenge_faults c ≡ []) (map (challenge_row F account) cs)
challenges_are_fine F account [] = tt
challenges_are_fine F account (c ∷ cs) = (
  no_fault _ _ _ (ap (λ b. chall_code (challenge_status_by (report c.number F) b)) (sym (answered_alike account c.number F))),
  challenges_are_fine F account cs,
)

-- no challenge of these authorizations has a fault
all_fine : (F : History) (t : ℕ) (xs : List Authorization) →
    EachOf (λ c. challenge_faults c ≡ []) (flat_map (λ (a : AuthorizationRow). a.challenges) (map (authorization_row F t) xs))
all_fine F t [] = tt
all_fine F t (a ∷ xs) = each-append _ (map (challenge_row F a.account) a.challenges) _ (challenges_are_fine F a.account a.challenges) (all_fine F t xs)

-- by kind, no row has a fault
pub no_faults : (F : History) (t : ℕ) → EachFollows F → status_faults (tables_at F t) ≡ []
no_faults F t h =
    let accounts_fine : flat_map account_faults (map (account_row F) (accounts F)) ≡ [] =
    none_of (account_row F) account_faults (accounts F) (each_all _ (accounts F) (λ a. no_fault _ _ _ refl)) in
    let orders_fine : flat_map (order_faults t (map (authorization_row F t) (authorizations F))) (map (order_row F t) (orders F)) ≡ [] =
    none_of (order_row F t) (order_faults t (map (authorization_row F t) (authorizations F))) (orders F)
    (each_all _ (orders F) (λ o. no_fault _ _ _ (ap (λ (r : OrderRow). order_code r.status) (order_stated F t t o)))) in
    let authorizations_fine : flat_map (authorization_faults t) (map (authorization_row F t) (authorizations F)) ≡ [] =
    none_of (authorization_row F t) (authorization_faults t) (authorizations F)
    (each_all _ (authorizations F) (λ a. no_fault _ _ _ (ap (λ (r : AuthorizationRow). authz_code r.status) (authorization_stated F h t t a)))) in
    let challenges_fine : flat_map challenge_faults
    (sorted_challenges (flat_map (λ (a : AuthorizationRow). a.challenges) (map (authorization_row F t) (authorizations F)))) ≡ [] =
    no_faults_of challenge_faults _ (each_sorted _ _ (all_fine F t (authorizations F))) in
    search rules
