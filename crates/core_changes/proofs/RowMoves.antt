-- Rows that an entry moves.
use Rattle.std.proofs.Common.{◌≡◌, ◌<◌, ◌+◌, ℕ, Bool, true, false, cond, List, [], ◌∷◌, ◌++◌, map, filter, length, drop, get_or, Option, Some, None, refl}
use Rattle.std.proofs.Common.{ap, ◌∙◌, append_assoc, arith, rules}
use Rattle.std.proofs.{lemmas.List.at_drop_more, lemmas.Bool.Decides.nat_tests, lemmas.Grind.common_steps}
use Rattle.std.specs.{Prelude.find, Option.option_map}
use Rattle.desk_model.specs.{Lookup.holds, Change.moved_rows, declared.entry.Entry.Entry, declared.rows.AccountRow.AccountRow}
use Rattle.desk_model.specs.declared.{rows.AuthorizationRow.AuthorizationRow, rows.OrderRow.OrderRow, rows.Listed.Listed}
use Rattle.desk_model.specs.Derived.{authorization_numbered, numbers_of}
use Rattle.desk_model.specs.Effect.{swept_authorization, swept_order, touches_authorization, touches_order, lists_one, moved_authorization}
use Rattle.model_laws.proofs.SweptParts.{touches_swept}
use Rattle.core_changes.specs.Moved.{authorizations_moved, swept_rows, rows_after, moved_one, row_of, touched_one}
use Rattle.desk_book.proofs.SweptRows.{find-moved}

-- the authorization of a number at the moment
pub swept_numbered : (m n : ℕ) (rows : List AuthorizationRow)
    → authorization_numbered n (swept_rows m rows) ≡ option_map (swept_authorization m) (authorization_numbered n rows)
swept_numbered m n rows = search (rules, find-moved)

-- and after the entry
pub after_numbered : (e : Entry) (m n : ℕ) (accounts : List AccountRow) (rows : List AuthorizationRow) →
    authorization_numbered n (rows_after e m accounts rows)
    ≡ option_map (λ r. moved_authorization e m accounts (swept_authorization m r)) (authorization_numbered n rows)
after_numbered e m n accounts rows = search (rules, find-moved)

-- an order that lists one that is touched does so at the moment
pub lists_swept : (e : Entry) (m : ℕ) (rows : List AuthorizationRow) (ns : List ℕ)
    → lists_one (touches_authorization e) (swept_rows m rows) ns ≡ lists_one (touches_authorization e) rows ns
lists_swept e m rows [] = refl
lists_swept e m rows (n ∷ ns) = grind (arith, swept_numbered, touches_swept)

-- an entry touches a swept order by swept rows where it touches the order by the rows
pub touches_swept_rows : (e : Entry) (m : ℕ) (rows : List AuthorizationRow) (row : OrderRow) →
    touches_order e (swept_rows m rows) (swept_order m rows row) ≡ touches_order e rows row
touches_swept_rows e m rows row = grind (arith, (lists_swept e m rows (numbers_of row.listed)))

-- a pass over them, by one more
pub touches-step : {X : Type 0} (touched : X → Bool) (move : X → X) (x : X) (xs before after whole : List X) (row : Option X) →
    after ≡ before ++ row_of row → row ≡ touched_one touched move x → before ++ map move (filter touched (x ∷ xs)) ≡ whole →
    after ++ map move (filter touched xs) ≡ whole
touches-step touched move x xs before after whole row pushed is kept = search (rules, append_assoc)

-- a test finds among the touched rows, moved, what it finds among all rows then, where it passes none but touched ones
pub find-touched : {X : Type 0} (test touched : X → Bool) (move : X → X) → ((x : X) → test x ≡ true → touched x ≡ true) →
    (xs : List X) → find test (map move (filter touched xs)) ≡ find test (map (λ x. cond (touched x) (move x) x) xs)
find-touched test touched move those [] = refl
find-touched {X} test touched move those (x ∷ xs) = grind (arith, (find-touched test touched move those xs))

-- a row that is found and touched is found among the touched ones, moved
pub find-touched-at : {X : Type 0} (test touched : X → Bool) (move : X → X) → ((x : X) → test (move x) ≡ test x) → (xs : List X) (x : X) →
    find test xs ≡ Some x → touched x ≡ true → find test (map move (filter touched xs)) ≡ Some (move x)
find-touched-at test touched move same [] x is h = cc
find-touched-at {X} test touched move same (y ∷ ys) x is h = grind (arith, (find-touched-at test touched move same ys x))

-- a pass over rows, by one more of them
pub puts-step : {X C : Type 0} (F : X → C) (touched : X → Bool) (differs : X → X → Bool) (move : X → X) (x : X) (xs : List X) (before after whole : List C) →
    after ≡ before ++ map F (moved_one touched differs move x) → before ++ map F (moved_rows touched differs move (x ∷ xs)) ≡ whole →
    after ++ map F (moved_rows touched differs move xs) ≡ whole
puts-step F touched differs move x xs before after whole put kept = search (rules, append_assoc)

-- the status of an authorization that is not there, after the entry
pub status-none : (e : Entry) (m n : ℕ) (accounts : List AccountRow) (rows : List AuthorizationRow) → authorization_numbered n rows ≡ None
    → None ≡ option_map (λ r. r.status) (authorization_numbered n (rows_after e m accounts rows))
status-none e m n accounts rows none = search (rules, after_numbered)

-- that of one that is found: its own at the moment, where the entry does not touch it
pub status-untouched : (e : Entry) (m n : ℕ) (accounts : List AccountRow) (rows : List AuthorizationRow) (row : AuthorizationRow)
    → authorization_numbered n rows ≡ Some row → touches_authorization e row ≡ false →
    Some (swept_authorization m row).status ≡ option_map (λ r. r.status) (authorization_numbered n (rows_after e m accounts rows))
status-untouched e m n accounts rows row is none = search (rules, after_numbered)

-- and that of the row that it leaves, where it is
pub status-touched : (e : Entry) (m n : ℕ) (accounts : List AccountRow) (rows : List AuthorizationRow) (row : AuthorizationRow)
    (found : Option AuthorizationRow)
    → authorization_numbered n rows ≡ Some row →
    touches_authorization e row ≡ true → found ≡ authorization_numbered n (authorizations_moved e m accounts rows) →
    option_map (λ r. r.status) found ≡ option_map (λ r. r.status) (authorization_numbered n (rows_after e m accounts rows))
status-touched e m n accounts rows row found is moves looked = grind (
  arith,
  nat_tests,
  find-touched-at,
  touches_swept,
  after_numbered,
  (swept_numbered m n rows ∙ ap (option_map (swept_authorization m)) is),
)

-- what an order lists, by one place more, which is not touched
pub untouched_place : (test : AuthorizationRow → Bool) (rows : List AuthorizationRow) (ls : List Listed) (index : ℕ) (d : Listed) →
    index < length ls → holds test (authorization_numbered (get_or ls index d).authorization rows) ≡ false →
    lists_one test rows (numbers_of (drop index ls)) ≡ lists_one test rows (numbers_of ls) →
    lists_one test rows (numbers_of (drop (index + 1) ls)) ≡ lists_one test rows (numbers_of ls)
untouched_place test rows ls index d more fails so_far = grind (arith, common_steps, at_drop_more)

-- and one that is
pub touched_place : (test : AuthorizationRow → Bool) (rows : List AuthorizationRow) (ls : List Listed) (index : ℕ) (d : Listed) →
    index < length ls → holds test (authorization_numbered (get_or ls index d).authorization rows) ≡ true →
    lists_one test rows (numbers_of (drop index ls)) ≡ lists_one test rows (numbers_of ls) →
    true ≡ lists_one test rows (numbers_of ls)
touched_place test rows ls index d more touches so_far = grind (arith, common_steps, at_drop_more)
