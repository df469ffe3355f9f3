-- A part after the sweep: closed, and covering what it covered.
use Rattle.std.proofs.Common.{◌≡◌, ℕ, List, [], ◌∷◌, map, refl, arith, rules}
use Rattle.desk_model.specs.Effect.{touches_authorization, lists_one, is_overdue, falls, swept, swept_authorization, swept_order}
use Rattle.desk_model.specs.{Tables.Tables, declared.entry.Entry.Entry, declared.rows.AuthorizationRow.AuthorizationRow}
use Rattle.desk_model.specs.{declared.rows.OrderRow.OrderRow, Derived.numbers_of, Kept.Kept, Kept.IsClosed, Kept.Covers}
use Rattle.model_laws.proofs.{Basics.each, Basics.each-map, Basics.find-moved, Basics.one_kept, Local.swept_number, Local.swept_order_number}

-- ---- an entry after the sweep

-- a sweep changes nothing that tells what an entry touches
pub touches_swept : (e : Entry) (m : ℕ) (row : AuthorizationRow) → touches_authorization e (swept_authorization m row) ≡ touches_authorization e row
touches_swept e m row = grind arith

-- nor which orders list it
lists_swept : (e : Entry) (m : ℕ) (rows : List AuthorizationRow) (ns : List ℕ) →
    lists_one (touches_authorization e) (map (swept_authorization m) rows) ns ≡ lists_one (touches_authorization e) rows ns
lists_swept e m rows [] = refl
lists_swept e m rows (n ∷ ns) = grind (arith, find-moved, swept_number, touches_swept, (lists_swept e m rows ns))

-- a swept order keeps its list
swept_listed : (m : ℕ) (rows : List AuthorizationRow) (o : OrderRow) → numbers_of (swept_order m rows o).listed ≡ numbers_of o.listed
swept_listed m rows o = one_kept (λ (r : OrderRow). numbers_of r.listed) (falls m rows o) _ o refl

-- a closed part stays closed by the passing of time
pub swept_closed : (k : Kept) (T : Tables) (m : ℕ) → IsClosed k T → IsClosed k (swept m T)
swept_closed k T m h = grind (arith, each-map, each)

-- a swept authorization keeps its account
pub swept_account : (m : ℕ) (row : AuthorizationRow) → (swept_authorization m row).account ≡ row.account
swept_account m row = one_kept (λ (a : AuthorizationRow). a.account) (is_overdue m row) _ row refl

-- and covers what it covered
pub swept_covers : (k : Kept) (T : Tables) (m : ℕ) (e : Entry) → Covers k T e → Covers k (swept m T) e
swept_covers k T m e h = search (rules, each-map, each, swept_number, touches_swept, swept_order_number, swept_listed, lists_swept, swept_account)
