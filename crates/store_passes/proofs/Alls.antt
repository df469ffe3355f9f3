-- What passes go through from their beginning, and what the four kinds make together.
use Rattle.std.proofs.Common.{◌≡◌, ◌≢◌, ◌≤◌, ℕ, ◌+◌, List, [], ◌∷◌, arith, rules}
use Rattle.std.specs.{List.flat_map}
use Rattle.desk_model.specs.{Derived.insert_challenge, Derived.sorted_challenges, Kept.EachOf, Tables.Tables, declared.rows.AuthorizationRow.AuthorizationRow}
use Rattle.desk_model.specs.{declared.rows.ChallengeRow.ChallengeRow, declared.rows.OrderRow.OrderRow}
use Rattle.model_laws.specs.{Distinct.Distinct, Ordered.Ascends}
use Rattle.model_laws.proofs.{Basics.each-append, RowLists.Above, RowLists.ascends_above}
use Rattle.model_parts.specs.Above.{orders_above}
use Rattle.store_passes.specs.{InOrder.IsInOrder, Laws.BooksAreInOrder, Laws.KindsMakeAllFaults, Left.faults_above, Left.faults_of}
use Rattle.store_passes.specs.{declared.fault_kind.FaultKind.FaultKind}
use Rattle.store_passes.proofs.Rows.{all_above}

-- ---- challenges, sorted by number

-- the number of a challenge
abbrev number_of : ChallengeRow → ℕ
number_of c = c.number

-- what holds of a challenge and of each other holds of each with it
each_inserted : (P : ChallengeRow → Type 0) (c : ChallengeRow) (ds : List ChallengeRow) → P c → EachOf P ds → EachOf P (insert_challenge c ds)
each_inserted P c [] h all = (h, tt)
each_inserted P c (d ∷ ds) h all = grind (arith, (each_inserted P c ds h all.1))

-- what holds of each challenge holds of each sorted
each_sorted : (P : ChallengeRow → Type 0) (cs : List ChallengeRow) → EachOf P cs → EachOf P (sorted_challenges cs)
each_sorted P [] all = tt
each_sorted P (c ∷ cs) all = each_inserted P c (sorted_challenges cs) all.0 (each_sorted P cs all.1)

-- a challenge of another number is inserted in its place
inserted_up : (n : ℕ) (c : ChallengeRow) (ds : List ChallengeRow) → n ≤ c.number → EachOf (λ d. c.number ≢ d.number) ds → Ascends number_of n ds
    → Ascends number_of n (insert_challenge c ds)
inserted_up n c [] low apart up = (low, tt)
inserted_up n c (d ∷ ds) low apart up = grind (arith, (inserted_up (d.number + 1) c ds))

-- challenges of different numbers, sorted, ascend
sorted_up : (cs : List ChallengeRow) → Above number_of 0 cs → Distinct number_of cs → Ascends number_of 1 (sorted_challenges cs)
sorted_up [] above apart = tt
sorted_up (c ∷ cs) above apart = grind (arith, inserted_up, each_sorted, (sorted_up cs above.1 apart.1))

-- ---- tables in order

-- numbers that ascend from 1 in each authorization are above 0 in all
above_none : (rows : List AuthorizationRow) → EachOf (λ r. Ascends number_of 1 r.challenges) rows
    → Above number_of 0 (flat_map (λ (r : AuthorizationRow). r.challenges) rows)
above_none [] up = tt
above_none (r ∷ rows) up = grind (arith, each-append, ascends_above, (above_none rows up.1))

-- each book is in order
pub books_in_order : BooksAreInOrder
books_in_order T book = search (rules, sorted_up, above_none)

-- ---- all faults

-- the four kinds make all faults
pub kinds_make_all : KindsMakeAllFaults
kinds_make_all T = search rules

-- a pass begins with all orders before it
pub all_orders : (T : Tables) → IsInOrder T → orders_above T 0 ≡ T.orders
all_orders T h = all_above (λ (o : OrderRow). o.number) 0 1 T.orders (omega arith) h.tables.orders.0

-- and with all faults of its kind
pub all_of_kind : (T : Tables) (k : FaultKind) (moment : ℕ) → IsInOrder T → moment ≡ T.meta.counters.clock → faults_above T k moment 0 ≡ faults_of T k
all_of_kind T k moment h l = search (rules, all_above)
