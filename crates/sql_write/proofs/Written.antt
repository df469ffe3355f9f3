-- Calls that write, one after the other.
use Rattle.std.specs.List.{flat_map}
use Rattle.std.proofs.Common.{◌≡◌, ℕ, ◌+◌, ◌<◌, ◌∙◌, List, [], ◌∷◌, ◌++◌, Result, Ok, Err, OnOk, add-one, ap, drop, get_or, length, refl, sym, subst, take}
use Rattle.std.proofs.Math.Seq.{take-suc}
use Rattle.sqlite.specs.{Effect.Database, Order.Row, Store.Ghosts, Held.Held, Held.state}
use Rattle.sql_schema.proofs.{AdvanceLemmas.advances_as, AdvanceLemmas.performs_keeps, StaysLemmas.asks_nothing}
use Rattle.sql_schema.specs.Advances.{Advances, Performs}
use Rattle.sql_write.proofs.Exits.{advances_both, kept_behind, survives_both}
use Rattle.sql_write.proofs.Told.{begins_with, one_more, ran_behind, runs_with, stops_among, stops_some}
use Rattle.sql_write.specs.Refusals.{HasWritten, IsRun, Stops}
use Rattle.sql_write.specs.{Statements.Sql, declared.fault.SaveFault.SaveFault}

-- what is done
abbrev Doing : Type 1
Doing = Database → Database → Type 0

module _ {S : Type 0} (g : Ghosts S) where
  -- where the database is as it was
  same_database : (a : Held S) (A : Doing) → A (state g a).now (state g a).now → Advances (state g a) (state g a) A
  same_database a A it clean inside = record { inside = inside; is_open = λ h. h; committed = refl; does = it }

  -- nothing is written
  pub nothing_written : {X : Type 0} (A : Doing) (a : Held S) (x : X) → A (state g a).now (state g a).now → HasWritten g [] A a a (Ok x)
  nothing_written A a x it = record {
    does = same_database a A it;
    kept = λ clean inside is_open. refl;
    survives = (asks_nothing (state g a)).survives;
    told = refl;
  }

  -- one statement, by a call that keeps its count; its parameters are these, too
  pub run_written : (text : List ℕ) (values params : Row) (A : Doing) (a b : Held S) (q : Result (Unit {0}) SaveFault) → values ≡ params
      → IsRun g (record { text = text; params = values }) a b q
      → ((count : ℕ) → Performs text values (state g a) (state g b) (Ok count) → Advances (state g a) (state g b) A)
      → HasWritten g (record { text = text; params = params } ∷ []) A a b q
  run_written text values params A a b (Ok u) are ran so = record {
    does = so ran.0 ran.1.performs;
    kept = performs_keeps text values (state g a) (state g b) (Ok ran.0) ran.1.performs;
    survives = ran.1.survives;
    told = (b, ran.0, runs_with g text a b (Ok ran.0) values params are ran.1, refl);
  }
  run_written text values params A a b (Err why) are ran so = record {
    does = tt;
    kept = performs_keeps text values (state g a) (state g b) (Err ran.0) ran.2.performs;
    survives = ran.2.survives;
    told = subst (λ fault. Stops g (record { text = text; params = params } ∷ []) a b fault) (sym ran.1) (record {
      ran = [];
      sql = record { text = text; params = params };
      rest = [];
      are = refl;
      before = a;
      have_run = refl;
      refused = runs_with g text a b (Err ran.0) values params are ran.2;
    });
  }

  -- what was done may be said in other words
  pub written_as : {X : Type 0} (all : List Sql) (A B : Doing) (a b : Held S) (r : Result X SaveFault)
      → (A (state g a).now (state g b).now → B (state g a).now (state g b).now) → HasWritten g all A a b r → HasWritten g all B a b r
  written_as all A B a b r means it = record { does = said r it.does; kept = it.kept; survives = it.survives; told = it.told }
    where
      said : {X : Type 0} (r : Result X SaveFault) → OnOk r (Advances (state g a) (state g b) A) → OnOk r (Advances (state g a) (state g b) B)
      said (Ok x) did = advances_as (state g a) (state g b) A B means did
      said (Err why) did = tt

  -- ---- one after the other

  -- a call behind one that was answered
  pub written_then : {X : Type 0} (xs ys : List Sql) (A B C : Doing) (a b c : Held S) (u : Unit {0}) (r : Result X SaveFault)
      → (A (state g a).now (state g b).now → B (state g b).now (state g c).now → C (state g a).now (state g c).now)
      → HasWritten g xs A a b (Ok u) → HasWritten g ys B b c r → HasWritten g (xs ++ ys) C a c r
  written_then xs ys A B C a b c u r joins first last = record {
    does = advances_both r (state g a) (state g b) (state g c) A B C joins last.survives first.does last.does;
    kept = kept_behind (state g a) (state g b) (state g c) A first.does last.survives last.kept;
    survives = survives_both (state g a) (state g b) (state g c) first.survives last.survives;
    told = ran_behind g xs ys a b c r first.told last.told;
  }

  -- the first failed
  pub written_first : {X Y : Type 0} (xs ys : List Sql) (A C : Doing) (a b : Held S) (why : SaveFault) → HasWritten g {X = Y} xs A a b (Err why)
      → HasWritten g {X = X} (xs ++ ys) C a b (Err why)
  written_first xs ys A C a b why first = record {
    does = tt;
    kept = first.kept;
    survives = first.survives;
    told = stops_some g xs ys a b why first.told;
  }

  -- the statements are these, too
  pub written_with : {X : Type 0} (xs ys : List Sql) (A : Doing) (a b : Held S) (r : Result X SaveFault) → xs ≡ ys → HasWritten g xs A a b r
      → HasWritten g ys A a b r
  written_with xs ys A a b r same = subst (λ all. HasWritten g all A a b r) same

  -- what failed behind what was done, with more behind it
  pub written_through : {Y Z : Type 0} (xs ys zs all : List Sql) → (xs ++ ys) ++ zs ≡ all → (A B C : Doing) (a b c : Held S) (u : Unit {0}) (why : SaveFault)
      → HasWritten g xs A a b (Ok u) → HasWritten g {X = Y} ys B b c (Err why) → HasWritten g {X = Z} all C a c (Err why)
  written_through xs ys zs all is A B C a b c u why first last = record {
    does = tt;
    kept = kept_behind (state g a) (state g b) (state g c) A first.does last.survives last.kept;
    survives = survives_both (state g a) (state g b) (state g c) first.survives last.survives;
    told = stops_among g xs ys zs all is a b c why first.told last.told;
  }

-- ---- the rows of a list

-- what is made of the database by rows, one after the other, of which each makes this
pub record Turns {X : Type 0} (Does : List X → Doing) (Each : X → Doing) : Type 0 where
  pub none : (a : Database) → Does [] a a
  pub more : (xs : List X) (x : X) (a b c : Database) → Does xs a b → Each x b c → Does (xs ++ x ∷ []) a c

-- so many rows are written, one after the other
pub record HasWrittenFirst {S X : Type 0} (g : Ghosts S) (of : X → List Sql) {Does : List X → Doing} {Each : X → Doing} (turns : Turns Does Each)
    (rows : List X) (i : ℕ) (a b : Held S) : Type 0 where
  pub first : HasWritten g {X = Unit {0}} (flat_map of (take i rows)) (Does (take i rows)) a b (Ok tt)

module _ {S X : Type 0} {g : Ghosts S} {of : X → List Sql} {Does : List X → Doing} {Each : X → Doing} {turns : Turns Does Each} {rows : List X} where
  -- one more
  pub turned_more : {i : ℕ} {a b c : Held S} (d : X) → HasWrittenFirst g of turns rows i a b → i < length rows
      → HasWritten g {X = Unit {0}} (of (get_or rows i d)) (Each (get_or rows i d)) b c (Ok tt) → HasWrittenFirst g of turns rows (i + 1) a c
  turned_more {i} {a} {b} {c} d before low last =
      let x = get_or rows i d in
      record {
        first = written_with g _ _ (Does (take (i + 1) rows)) a c (Ok tt) (sym (one_more of rows i d low))
            (subst (λ xs. HasWritten g {X = Unit {0}} (flat_map of (take i rows) ++ of x) (Does xs) a c (Ok tt))
            (sym (ap (λ k. take k rows) (add-one i) ∙ take-suc rows i d low))
            (written_then g (flat_map of (take i rows)) (of x) (Does (take i rows)) (Each x) (Does (take i rows ++ x ∷ [])) a b c tt (Ok tt)
            (turns.more (take i rows) x _ _ _) before.first last));
      }

  -- the one that failed
  pub turned_until : {i : ℕ} {Y : Type 0} {B : Doing} {a b c : Held S} {why : SaveFault} (d : X) → HasWrittenFirst g of turns rows i a b → i < length rows
      → HasWritten g {X = Y} (of (get_or rows i d)) B b c (Err why) → HasWritten g {X = Unit {0}} (flat_map of rows) (Does rows) a c (Err why)
  turned_until {i} {B = B} {a = a} {b = b} {c = c} {why = why} d before low last =
      written_through g (flat_map of (take i rows)) (of (get_or rows i d)) (flat_map of (drop (i + 1) rows)) (flat_map of rows)
      (begins_with of rows i d low) (Does (take i rows)) B (Does rows) a b c tt why before.first last
