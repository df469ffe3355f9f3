-- Rows of one table, and changes, made one after the other inside a transaction.
use Rattle.std.proofs.Common.{zero, suc, arith, ◌≡◌, ◌≢◌, ℕ, ◌+◌, ◌<◌, ◌++◌, List, [], ◌∷◌, Option, take, drop, get_or, length, refl, sym, ap, subst, ◌∙◌}
use Rattle.std.proofs.Common.{add-one, append-nil, rules}
use Rattle.std.proofs.lemmas.List.{append_assoc, map-append, take-append-drop}
use Rattle.std.proofs.{Math.Seq.take-suc, lemmas.List.Elements.filter_map-append}
use Rattle.std.specs.Prelude.{option_to_list}
use Rattle.sqlite.specs.{Effect.Database, Order.Row}
use Rattle.store_columns.specs.{Flat.answer_key, Flat.key_rows, Flat.owned_by, declared.columns.AnswerKey.AnswerKey, declared.columns.Owned.Owned}
use Rattle.desk_model.specs.{Change.applied, Change.applied_one, Change.put, Kept.EachOf, Tables.Tables, declared.rows.ChallengeRow.ChallengeRow}
use Rattle.desk_model.specs.{declared.rows.Change.Change, declared.rows.Counters.Counters, declared.rows.Listed.Listed}
use Rattle.sql_write.specs.Makes.{AddsOrPuts, AppendsAll, AppendsOrPlaces, ArePlaced, Makes, MakesAll, PlacesAll, PutsAll, PutsAllOver, PutsOver, RenewsOrPuts}
use Rattle.sql_write.specs.Makes.{Writes, WritesListed, appended}
use Rattle.sql_write.specs.{Fitting.AreFit, Fitting.IsFit, Statements.save_statements, Statements.statements_from, Statements.statements_of}
use Rattle.sql_write.specs.declared.{stored.Write.Write, stored.Write.TheVariants.Upsert, stored.Write.TheVariants.Insert, stored.Write.TheVariants.Update}
use Rattle.model_laws.proofs.{Basics.each_of_map, RowLists.puts_append, Recorded.applied-append}
use Rattle.sql_write.proofs.{Over.over_both, Over.over_none, Over.over_one, Written.Turns, StoredRows.part_after}
use Rattle.sql_tables.specs.Effects.{Appends, Places, Puts, is_same_place}
use Rattle.sql_tables.specs.{Hidden.IsPlaced, Hidden.next, Hidden.number, Layouts.Layout, Layouts.key_layout}

-- ---- one row

-- one that may be added is put
pub puts_added : {X : Type 0} (L : Layout X) (row : X) (write : Write) (a b : Database) → AddsOrPuts L write row a b → Puts L row a b
puts_added L row write a b h = grind arith

-- which keeps nothing where it is renewed
pub writes_added : {X : Type 0} (L : Layout X) (row : X) (write : Write) (a b : Database) → AddsOrPuts L write row a b → Writes L (λ _. []) write row a b
writes_added L row write a b h = search rules

-- one that may be renewed is, where it is not new
pub writes_renewed : {X : Type 0} (L : Layout X) (kept : X → Row) (row : X) (write : Write) (a b : Database) → write ≢ Insert
    → RenewsOrPuts L kept write row a b → Writes L kept write row a b
writes_renewed L kept row write a b h k = search rules

-- ---- several rows

-- one more
one_more_put : {X : Type 0} (L : Layout X) (ys : List X) (y : X) (a b c : Database) → PutsAll L ys a b → Puts L y b c → PutsAll L (ys ++ y ∷ []) a c
one_more_put L ys y a b c before last sound rows has = search (rules, puts_append)

-- what holds of all rows holds of the one at a place
pub each_at : {X : Type 0} (P : X → Type 0) (xs : List X) (i : ℕ) (d : X) → i < length xs → EachOf P xs → P (get_or xs i d)
each_at P [] i d low all = absurd (omega (arith, low))
each_at P (x ∷ xs) zero d low all = all.0
each_at P (x ∷ xs) (suc i) d low all = each_at P xs i d (omega (arith, low)) all.1

-- of rows of an owner, too
pub each_owned : {X : Type 0} (P : Owned X → Type 0) (n : ℕ) (xs : List X) (i : ℕ) (d : X) → i < length xs → EachOf P (owned_by n xs)
    → P (record { owner = n; row = get_or xs i d })
each_owned P n xs i d low all = each_at (λ x. P (record { owner = n; row = x })) xs i d low (each_of_map P _ xs all)

-- rows that are put
pub put_turns : {X : Type 0} (L : Layout X) → Turns (PutsAll L) (Puts L)
put_turns L = search (rules, one_more_put)

-- rows of an owner, over those that are known
pub over_turns : {T : Type 0} (L : Layout (Owned T)) (stored : Owned T → Option (Owned T)) (n : ℕ) → Turns (λ xs. PutsAllOver L stored (owned_by n xs))
    (λ x. PutsOver L (stored (record { owner = n; row = x })) (record { owner = n; row = x }))
over_turns {T} L stored n = record {
  none = over_none L stored;
  more = λ xs x a b c before last. let row : Owned T = record { owner = n; row = x } in
      subst (λ ys. PutsAllOver L stored ys a c) (sym (map-append _ xs (x ∷ [])))
      (over_both L stored (owned_by n xs) (row ∷ []) a b c before (over_one L stored row b c last));
}

-- the keys of one more
keys_snoc : (n : ℕ) (xs : List ChallengeRow) (x : ChallengeRow)
    → key_rows (owned_by n (xs ++ x ∷ [])) ≡ key_rows (owned_by n xs) ++ option_to_list (answer_key x)
keys_snoc n xs x = search (rules, map-append, filter_map-append)

-- the keys of the answers of challenges, over those that are known
pub keys_turns : (stored : AnswerKey → Option AnswerKey) (n : ℕ) → Turns (λ xs. PutsAllOver key_layout stored (key_rows (owned_by n xs)))
    (λ x. PutsAllOver key_layout stored (option_to_list (answer_key x)))
keys_turns stored n = record {
  none = over_none key_layout stored;
  more = λ xs x a b c before last. subst (λ ys. PutsAllOver key_layout stored ys a c) (sym (keys_snoc n xs x))
      (over_both key_layout stored (key_rows (owned_by n xs)) (option_to_list (answer_key x)) a b c before last);
}

-- ---- what an order lists

-- one more after several
placed_snoc : (ls : List (Owned Listed)) (l : Owned Listed) (before mid after : List (ℕ × Owned Listed)) → ArePlaced ls before mid
    → IsPlaced is_same_place l mid after
    → ArePlaced (ls ++ l ∷ []) before after
placed_snoc [] l before mid after same placed = (after, subst (λ m. IsPlaced is_same_place l m after) same placed, refl)
placed_snoc (k ∷ ks) l before mid after first placed = (first.0, first.1, placed_snoc ks l first.0 mid after first.2 placed)

-- one more
one_more_placed : (ls : List (Owned Listed)) (l : Owned Listed) (a b c : Database) → PlacesAll ls a b → Places l b c → PlacesAll (ls ++ l ∷ []) a c
one_more_placed ls l a b c first last sound before has =
    let one = first sound before has in
    let two = last one.0 one.2.has in (
      two.0,
      placed_snoc ls l before one.0 two.0 one.1 two.1,
      record { sound = two.2.sound; has = two.2.has; others = λ t other none. two.2.others t other none ∙ one.2.others t other none },
    )

-- rows that are appended, and one more
appended_snoc : (ls : List (Owned Listed)) (l : Owned Listed) (before : List (ℕ × Owned Listed))
    → appended (ls ++ l ∷ []) before ≡ put number (next (appended ls before), l) (appended ls before)
appended_snoc [] l before = refl
appended_snoc (k ∷ ks) l before = appended_snoc ks l (put number (next before, k) before)

-- one more
one_more_appended : (ls : List (Owned Listed)) (l : Owned Listed) (a b c : Database) → AppendsAll ls a b → Appends l b c → AppendsAll (ls ++ l ∷ []) a c
one_more_appended ls l a b c first last sound before has = search (rules, appended_snoc)

-- rows of an order
pub listed_turns : (write : Write) (n : ℕ) → Turns (λ xs. WritesListed write (owned_by n xs)) (λ x. AppendsOrPlaces write (record { owner = n; row = x }))
listed_turns write n = record {
  none = none write;
  more = λ xs x a b c before last. subst (λ ls. WritesListed write ls a c) (sym (map-append _ xs (x ∷ [])))
      (more write (owned_by n xs) (record { owner = n; row = x }) a b c before last);
}
  where
    none : (m : Write) (a : Database) → WritesListed m [] a a
    none h k = grind arith

    more : (m : Write) (ls : List (Owned Listed)) (l : Owned Listed) (a b c : Database) → WritesListed m ls a b → AppendsOrPlaces m l b c
        → WritesListed m (ls ++ l ∷ []) a c
    more Insert = one_more_appended
    more Upsert = one_more_placed
    more Update = one_more_placed

-- ---- changes

-- several that fit, and the last
fit_snoc : (cs : List Change) (c : Change) (T : Tables) → AreFit T (cs ++ c ∷ []) → AreFit T cs × IsFit (applied cs T) c
fit_snoc [] c T h = (tt, h.0)
fit_snoc (d ∷ ds) c T h = let rest = fit_snoc ds c (applied_one d T) h.1 in ((h.0, rest.0), rest.1)

-- one more
one_more_made : (part : Tables) (cs : List Change) (c : Change) (a b d : Database) → MakesAll part cs a b → Makes (applied cs part) c b d
    → MakesAll part (cs ++ c ∷ []) a d
one_more_made part cs c a b d before last T has stands fits = search (rules, fit_snoc, applied-append, part_after)

-- one more change
pub made_more : (part : Tables) (cs : List Change) (i : ℕ) (d : Change) (a b c : Database) → i < length cs → MakesAll part (take i cs) a b
    → Makes (applied (take i cs) part) (get_or cs i d) b c → MakesAll part (take (i + 1) cs) a c
made_more part cs i d a b c low before last = grind (arith, take-suc, (add-one i), (one_more_made part (take i cs) (get_or cs i d) a b c before last))

-- ---- the statements of changes

-- of some, and then of others
from_append : (last : Counters) (xs ys : List Change) (part : Tables)
    → statements_from last part (xs ++ ys) ≡ statements_from last part xs ++ statements_from last (applied xs part) ys
from_append last [] ys part = refl
from_append last (x ∷ xs) ys part = grind (arith, append_assoc, (from_append last xs ys (applied_one x part)))

-- of one more
pub from_more : (last : Counters) (cs : List Change) (i : ℕ) (d : Change) (part : Tables) → i < length cs
    → statements_from last part (take (i + 1) cs)
    ≡ statements_from last part (take i cs) ++ statements_of (applied (take i cs) part) last (get_or cs i d)
from_more last cs i d part low =
    let c = get_or cs i d in
    ap (statements_from last part) (ap (λ k. take k cs) (add-one i) ∙ take-suc cs i d low)
    ∙ from_append last (take i cs) (c ∷ []) part
    ∙ ap (λ all. statements_from last part (take i cs) ++ all) (append-nil (statements_of (applied (take i cs) part) last c))

-- those of some, and of the next, begin those of all
pub from_begins : (last : Counters) (cs : List Change) (i : ℕ) (d : Change) (part : Tables) → i < length cs
    → (statements_from last part (take i cs) ++ statements_of (applied (take i cs) part) last (get_or cs i d))
    ++ statements_from last (applied (take (i + 1) cs) part) (drop (i + 1) cs) ≡ statements_from last part cs
from_begins last cs i d part low = grind (
  arith,
  take-append-drop,
  (from_more last cs i d part low),
  (from_append last (take (i + 1) cs) (drop (i + 1) cs) part),
  (take-append-drop (i + 1) cs),
)

-- by the last numbers that are known they are those of a save
pub of_save : (part : Tables) (changes : List Change) → statements_from part.meta.counters part changes ≡ save_statements part changes
unfolding save_statements
of_save part changes = refl
