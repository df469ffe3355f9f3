-- What a query of one table answers: its rows that pass tests, in the order of a number.
use Rattle.std.proofs.Common.{◌≡◌, ℕ, ◌<◌, ◌+◌, pos, negsuc, if◌then◌else◌, Bool, true, false, cond, List, [], ◌∷◌, map, length, filter, flat_map, Option, None}
use Rattle.std.proofs.Common.{Some, Ordering, Less, Equal, Result, Ok, Err, refl, sym, ap, subst, ◌∙◌, arith, rules}
use Rattle.std.proofs.{lemmas.List.Sorted.IsPermutation-map, lemmas.List.Sorted.IsPermutation-sym, lemmas.List.Sorted.IsPermutation-trans, lemmas.Simd.map-map}
use Rattle.std.specs.List.Sorted.{IsPermutation, IsSorted, IsStrictlySortedBy}
use Rattle.std.specs.{List.AllByRecursion, List.list_all, Ordering.ordering_then}
use Rattle.sqlite.specs.{declared.types.Value.TheVariants.Null, declared.types.Value.TheVariants.Int, Listing.understood, Listing.reads_listing, State.State}
use Rattle.sqlite.specs.{State.Shown, Schema.Schema}
use Rattle.sqlite_value.specs.{declared.keys.Collation.TheVariants.Binary, declared.keys.Key.Key, Order.Row}
use Rattle.sqlite_value.proofs.OrderLemmas.{value_cmp-Int}
use Rattle.sqlite_trees.specs.Tree.{Trees}
use Rattle.sqlite_sql.specs.Query.{Join, Query, Output, inner, end, IsAnswer, as_count, limited, matches, output, output_cmp}
use Rattle.sqlite_sql.specs.{Term.Term, Term.lit, Term.col, Term.eval, Term.holds, Program.overlay}
use Rattle.sqlite_sql.proofs.QueryLemmas.{output_cmp_total}
use Rattle.sqlite_schema.specs.declared.command.{Command.Command, Command.TheVariants.Select, Returning.Returning}
use Rattle.sqlite_resolve.specs.{Compile.compiled, declared.compiled.Compiled.Compiled, declared.error.CompileError.CompileError}
use Rattle.sqlite_typing.specs.Types.{accepts_program}
use Rattle.sqlite.proofs.Callers.{IsPlain, command_of, reads_as}
use Rattle.store_book.proofs.SortedLists.{same_sorted}
use Rattle.model_laws.specs.Ordered.{Ascends}
use Rattle.sql_tables.proofs.Keyed.{three}
use Rattle.sql_read.specs.Selecting.{IsQuery}
use Rattle.sql_read.proofs.Lists.{limited-map}

-- ---- queries of one table

-- in the order of a column
abbrev pub by : ℕ → Term × Key
by place = (col 1 place, record { collation = Binary; descending = false })

-- all rows, and the first alone
abbrev pub all_rows : Term
all_rows = lit (Int (negsuc 0))

-- the first row alone
abbrev pub first_row : Term
first_row = lit (Int (pos 1))

-- rows of trees side by side that pass the tests, in an order, up to a limit
abbrev pub picked_from : Term → Join → List Term → List Term → List (Term × Key) → Query
picked_from limit from tests project order = record {
  from = from;
  filter = tests;
  group = None;
  project = project;
  distinct = false;
  collations = [];
  order = order;
  limit = limit;
  offset = lit (Int (pos 0));
}

-- those of one tree
abbrev pub one : ℕ → Join
one tree = inner tree end

-- those of one tree
abbrev pub picked_up_to : Term → ℕ → List Term → List Term → List (Term × Key) → Query
picked_up_to limit tree = picked_from limit (one tree)

-- all of them
abbrev pub picked : ℕ → List Term → List Term → List (Term × Key) → Query
picked = picked_up_to all_rows

-- what a text was compiled to: its command, its RETURNING, and the formats in which it reads the time
abbrev pub Made : Type 0
Made = Command × Option Returning × List (List ℕ)

-- what a text was compiled to, if it was
abbrev pub made_of : Result Compiled CompileError → Option Made
made_of (Ok c) = Some (c.command, c.returning, c.formats)
made_of (Err e) = None

-- a text that was compiled to a command alone
pub record IsCommand (schema : Schema) (text : List ℕ) (command : Command) : Type 0 where
  pub is : command_of (understood schema text) ≡ command
  pub plain : IsPlain (understood schema text)
  pub unlisted : reads_listing schema text ≡ false

-- what it was compiled to is what is understood, as it names no table that is missing
pub compiled_alone : {schema : Schema} (text : List ℕ) (command : Command) → made_of (compiled schema text) ≡ Some (command, None, [])
    → IsCommand schema text command
unfolding understood
compiled_alone {schema} text command means = grind arith

-- how long the statement is that was understood
abbrev pub tail_of : Result Compiled CompileError → ℕ
tail_of (Ok c) = c.tail
tail_of (Err e) = 0

-- the names of its parameters
abbrev pub names_of : Result Compiled CompileError → List (List ℕ)
names_of (Ok c) = c.names
names_of (Err e) = []

-- how long the statement is that was understood, and how many parameters it has
abbrev pub sizes_of : Result Compiled CompileError → ℕ × ℕ
sizes_of r = (tail_of r, length (names_of r))

-- what a text means over a schema: one statement with as many parameters as are given, which compares no values of other kinds
pub record IsReadingFrom (schema : Schema) (limit : Term) (text : List ℕ) (from : Join) (tests project : List Term) (order : List (Term × Key)) (params : Row)
    : Type 0 where
  pub names : List (List ℕ)
  pub means : made_of (compiled schema text) ≡ Some (Select (record { lets = []; body = picked_from limit from tests project order }) names, None, [])
  pub selecting : IsQuery text
  pub sizes : sizes_of (understood schema text) ≡ (length text, length params)
  pub typed : accepts_program schema [] (picked_from limit from tests project order) params ≡ true

-- of one tree
abbrev pub IsReading : Schema → Term → List ℕ → ℕ → List Term → List Term → List (Term × Key) → Row → Type 0
IsReading schema limit text tree = IsReadingFrom schema limit text (one tree)

-- a row passes the tests
abbrev pub passes : List Term → Row → Row → Bool
passes tests params r = list_all (holds (params ∷ r ∷ [])) tests

-- ---- what is left, and what is shown of it

-- the rows that the tests leave
left : (tests : List Term) (params : Row) (rs : List Row)
    → flat_map (λ r. if list_all (holds (params ∷ r ∷ [])) tests then (params ∷ r ∷ []) ∷ [] else []) rs
    ≡ map (λ r. params ∷ r ∷ []) (filter (passes tests params) rs)
left tests params [] = refl
left tests params (r ∷ rs) = grind (arith, (left tests params rs))

-- an answer before it is cut to what is shown: in this order, and in no other
pub record IsOrderedAs (q : Query) (outputs : List Output) (rows : List Row) : Type 0 where
  pub ordered : List Output
  pub same : IsPermutation outputs ordered
  pub sorted : IsSorted (output_cmp q) ordered
  pub shown : rows ≡ map (λ (o : Output). o.1) ordered

-- as many rows as a statement shows at most
abbrev pub cut : {X : Type 0} → Term → Row → List X → List X
cut limit params xs = limited (as_count (eval limit (params ∷ []))) xs

module _ {schema : Schema} {limit : Term} {text : List ℕ} {from : Join} {tests project : List Term} {order : List (Term × Key)} {params : Row}
    (is : IsReadingFrom schema limit text from tests project order params) (old new : State) (there : old.now.schema ≡ schema)
    {outputs : List Output} (match : map (output (picked_from all_rows from tests project order)) (matches (overlay old.now.trees []) tests from (params ∷ []))
    ≡ outputs) (rows : List Row) (h : Shown text params old new rows) where
  -- the answer is cut from what is shown of the rows that match
  pub answers_from : (all : List Row) × IsOrderedAs (picked_from all_rows from tests project order) outputs all × (rows ≡ cut limit params all)
  answers_from =
      let q = picked_from limit from tests project order in
      let command = compiled_alone text _ is.means in
      let read = reads_as text params old new schema there _ command.is command.plain command.unlisted rows h in
      let a : IsAnswer q (overlay old.now.trees []) params rows = read.answer Null in
      let kept : a.kept ≡ outputs = a.distinct ∙ ap (map (output q)) a.grouped ∙ match in (
        map (λ (o : Output). o.1) a.ordered,
        record { ordered = a.ordered; same = subst (λ os. IsPermutation os a.ordered) kept a.same; sorted = a.sorted; shown = refl },
        a.shown,
      )

-- rows as the engine keeps them, of which the query tests and shows a part
module _ {X Y : Type 0} (image : X → Row) (part : X → Y) (tree : ℕ) (tests project : List Term) (order : List (Term × Key)) (params : Row)
    (test : Y → Bool) (shown : Y → Output)
    (tests_are : (x : X) → passes tests params (image x) ≡ test (part x))
    (shown_is : (x : X) → output (picked tree tests project order) (params ∷ image x ∷ []) ≡ shown (part x)) where
  -- what is shown of the rows that are left
  outputs : (xs : List X)
      → map (output (picked tree tests project order)) (map (λ r. params ∷ r ∷ []) (filter (passes tests params) (map image xs)))
      ≡ map shown (filter test (map part xs))
  outputs [] = refl
  outputs (x ∷ xs) = rw (tests_are x) (go (test (part x)) (outputs xs))
    where
      go : (b : Bool)
          → map (output (picked tree tests project order)) (map (λ r. params ∷ r ∷ []) (filter (passes tests params) (map image xs)))
          ≡ map shown (filter test (map part xs))
          → map (output (picked tree tests project order)) (map (λ r. params ∷ r ∷ [])
          (cond b (image x ∷ filter (passes tests params) (map image xs)) (filter (passes tests params) (map image xs))))
          ≡ map shown (cond b (part x ∷ filter test (map part xs)) (filter test (map part xs)))
      go true more = λ i. shown_is x i ∷ more i
      go false more = more

  -- they are those which pass the model's test
  pub matched : ((db : Trees) → overlay db [] tree ≡ db tree) → (db : Trees) (xs : List X) → db tree ≡ map image xs
      → map (output (picked tree tests project order)) (matches (overlay db []) tests (one tree) (params ∷ [])) ≡ map shown (filter test (map part xs))
  matched low db xs has =
      let q = picked tree tests project order in
      let staged : matches (overlay db []) tests (one tree) (params ∷ []) ≡ map (λ r. params ∷ r ∷ []) (filter (passes tests params) (db tree)) =
      rw (low db) (left tests params (db tree)) in
      ap (map (output q)) staged ∙ ap (λ rs. map (output q) (map (λ r. params ∷ r ∷ []) (filter (passes tests params) rs))) has ∙ outputs xs

-- ---- in an order

-- in some order
pub shown_somehow : {Y : Type 0} (q : Query) (shown : Y → Output) (ys : List Y) (rows : List Row) → IsOrderedAs q (map shown ys) rows
    → IsPermutation (map (λ y. (shown y).1) ys) rows
shown_somehow q shown ys rows a =
    subst (λ rs. IsPermutation rs rows) (map-map (λ (o : Output). o.1) shown ys)
    (subst (λ rs. IsPermutation (map (λ (o : Output). o.1) (map shown ys)) rs) (sym a.shown)
    (IsPermutation-map (λ (o : Output). o.1) (map shown ys) a.ordered a.same))

-- SQL orders numbers as the model does
pub less : (a b : ℕ) → a < b → three a b ≡ Less
less a b low = search rules

-- what holds of each item of a map
all_map : {X Y : Type 0} (P : Y → Type 0) (f : X → Y) (xs : List X) → AllByRecursion (λ x. P (f x)) xs → AllByRecursion P (map f xs)
all_map P f [] h = tt
all_map P f (x ∷ xs) h = (h.0, all_map P f xs h.1)

-- what is in strict order by what is shown of it
strictly_shown : {Y : Type 0} (q : Query) (shown : Y → Output) (ys : List Y) → IsStrictlySortedBy (λ x y. output_cmp q (shown x) (shown y)) ys
    → IsStrictlySortedBy (output_cmp q) (map shown ys)
unfolding IsStrictlySortedBy
strictly_shown q shown [] up = tt
strictly_shown q shown (y ∷ ys) up = (all_map (λ o. output_cmp q (shown y) o ≡ Less) shown ys up.0, strictly_shown q shown ys up.1)

-- outputs that are such rows in any order come in the one order of theirs that is strict
shown_strictly : {Y : Type 0} (q : Query) (shown : Y → Output) (outputs : List Output) (ys : List Y) (rows : List Row)
    → IsPermutation outputs (map shown ys) → IsStrictlySortedBy (λ x y. output_cmp q (shown x) (shown y)) ys → IsOrderedAs q outputs rows
    → rows ≡ map (λ y. (shown y).1) ys
shown_strictly q shown outputs ys rows same up a =
    let moved = IsPermutation-trans a.ordered outputs (map shown ys) (IsPermutation-sym outputs a.ordered a.same) same in
    a.shown
    ∙ ap (map (λ (o : Output). o.1))
    (same_sorted (output_cmp q) (output_cmp_total q) a.ordered (map shown ys) a.sorted (strictly_shown q shown ys up) moved)
    ∙ map-map (λ (o : Output). o.1) shown ys

-- so a statement shows them, cut to as many as it shows at most
pub shown_by : {schema : Schema} {limit : Term} {text : List ℕ} {from : Join} {tests project : List Term} {order : List (Term × Key)} {params : Row}
    {Y : Type 0} → IsReadingFrom schema limit text from tests project order params → (old new : State) → old.now.schema ≡ schema → {outputs : List Output}
    → map (output (picked_from all_rows from tests project order)) (matches (overlay old.now.trees []) tests from (params ∷ [])) ≡ outputs
    → (shown : Y → Output) (ys : List Y) → IsPermutation outputs (map shown ys)
    → IsStrictlySortedBy (λ x y. output_cmp (picked_from all_rows from tests project order) (shown x) (shown y)) ys
    → (rows : List Row) → Shown text params old new rows → rows ≡ map (λ y. (shown y).1) (cut limit params ys)
shown_by {limit = limit} {from = from} {tests = tests} {project = project} {order = order} {params = params} is old new there {outputs} match shown ys same
    up rows h =
    let it = answers_from is old new there match rows h in
    it.2
    ∙ ap (cut limit params) (shown_strictly (picked_from all_rows from tests project order) shown outputs ys it.0 same up it.1)
    ∙ limited-map (λ y. (shown y).1) (as_count (eval limit (params ∷ []))) ys

-- ---- by one number

module _ {Y : Type 0} (key : Y → ℕ) (row : Y → Row) where
  -- a row beside the number that it is ordered by
  abbrev pub beside : Y → Output
  beside y = (Int (pos (key y)) ∷ [], row y)

  -- how a query by a number orders two rows
  abbrev pub ranks : Y → Y → Ordering
  ranks x y = output_cmp (picked 0 [] [] (by 0 ∷ [])) (beside x) (beside y)

  -- a lower number comes first
  below : (x y : Y) → key x < key y → ranks x y ≡ Less
  below x y low = ap (λ o. ordering_then o Equal) (value_cmp-Int (pos (key x)) (pos (key y)) ∙ less (key x) (key y) low)

  -- and so before all that ascend from it
  all_below : (x : Y) (n : ℕ) (ys : List Y) → key x < n → Ascends key n ys → AllByRecursion (λ y. ranks x y ≡ Less) ys
  all_below x n [] low up = tt
  all_below x n (y ∷ ys) low up =
      (below x y (omega (arith, low, up.0)), all_below x (key y + 1) ys (omega (arith, low, up.0)) up.1)

  -- numbers that ascend are in strict order
  pub strictly : (n : ℕ) (ys : List Y) → Ascends key n ys → IsStrictlySortedBy ranks ys
  unfolding IsStrictlySortedBy
  strictly n [] up = tt
  strictly n (y ∷ ys) up = (all_below y (key y + 1) ys (omega arith) up.1, strictly (key y + 1) ys up.1)
