-- Statements run one after the other, and the one that was refused.
use Rattle.std.proofs.Common.{◌≡◌, ℕ, zero, suc, ◌+◌, ◌-◌, ◌<◌, List, [], ◌∷◌, ◌++◌, Result, Ok, Err, refl, sym, ap, subst, ◌∙◌, arith, add-one, append-nil}
use Rattle.std.proofs.Common.{drop, get_or, length, take, rules}
use Rattle.std.proofs.{Math.Seq.take-suc, lemmas.Grind.flat_map-append, lemmas.List.append_assoc, lemmas.List.take-append-drop}
use Rattle.std.specs.List.{flat_map}
use Rattle.sqlite.specs.{Held.Held, Held.state, Order.Row, State.Survives, Store.Ghosts, declared.error.Error.Error}
use Rattle.sql_schema.specs.Definitions.{definition_at}
use Rattle.sql_write.proofs.Exits.{survives_both}
use Rattle.sql_write.specs.Refusals.{HaveRun, IsCause, Ran, Runs, Stops}
use Rattle.sql_write.specs.{Statements.Sql, Statements.defines, Statements.defines_before, declared.fault.SaveFault.SaveFault}
use Rattle.sql_write.specs.declared.fault.SaveFault.TheVariants as save

-- the statements of one more row
pub one_more : {X : Type 0} (of : X → List Sql) (rows : List X) (i : ℕ) (d : X) → i < length rows
    → flat_map of (take (i + 1) rows) ≡ flat_map of (take i rows) ++ of (get_or rows i d)
one_more of rows i d low = grind (arith, flat_map-append, append-nil, (take-suc rows i d low))

-- those of some rows, and of the next, begin those of all
pub begins_with : {X : Type 0} (of : X → List Sql) (rows : List X) (i : ℕ) (d : X) → i < length rows
    → (flat_map of (take i rows) ++ of (get_or rows i d)) ++ flat_map of (drop (i + 1) rows) ≡ flat_map of rows
begins_with of rows i d low =
    ap (λ all. all ++ flat_map of (drop (i + 1) rows)) (sym (one_more of rows i d low))
    ∙ sym (flat_map-append of (take (i + 1) rows) (drop (i + 1) rows))
    ∙ ap (flat_map of) (take-append-drop (i + 1) rows)

-- two parts of the second of three lists
among : (xs ys zs all ran rest : List Sql) → (xs ++ ys) ++ zs ≡ all → ys ≡ ran ++ rest → all ≡ (xs ++ ran) ++ (rest ++ zs)
among xs ys zs all ran rest is are = search (rules, append_assoc)

module _ {S : Type 0} (g : Ghosts S) where
  -- the parameters are these, too
  pub runs_with : (text : List ℕ) (old new : Held S) (answer : Result ℕ Error) (params wanted : Row) → params ≡ wanted
      → Runs g (record { text = text; params = params }) old new answer → Runs g (record { text = text; params = wanted }) old new answer
  runs_with text old new answer params wanted same = subst (λ row. Runs g (record { text = text; params = row }) old new answer) same

  -- ---- one after the other

  -- all were run, and then all of those
  pub run_both : (xs ys : List Sql) (a b c : Held S) → HaveRun g xs a b → HaveRun g ys b c → HaveRun g (xs ++ ys) a c
  run_both [] ys a b c first last = subst (λ h. HaveRun g ys h c) first last
  run_both (x ∷ xs) ys a b c first last = (first.0, first.1, first.2, run_both xs ys first.0 b c first.3 last)

  -- what stops some stops them behind others that were run, and with more behind them
  pub stops_among : (xs ys zs all : List Sql) → (xs ++ ys) ++ zs ≡ all → (a b c : Held S) (why : SaveFault) → HaveRun g xs a b → Stops g ys b c why
      → Stops g all a c why
  stops_among xs ys zs all is a b c (save.Row why) first it = record {
    ran = xs ++ it.ran;
    rest = it.rest ++ zs;
    are = among xs ys zs all it.ran it.rest is it.are;
    have_run = run_both xs it.ran a b c first it.have_run;
  }
  stops_among xs ys zs all is a b c (save.Statement error) first it = record {
    ran = xs ++ it.ran;
    sql = it.sql;
    rest = it.rest ++ zs;
    are = among xs ys zs all it.ran (it.sql ∷ it.rest) is it.are;
    before = it.before;
    have_run = run_both xs it.ran a b it.before first it.have_run;
    refused = it.refused;
  }
  stops_among xs ys zs all is a b c (save.Commit error) first it = it

  -- with more behind them
  pub stops_some : (xs ys : List Sql) (a b : Held S) (why : SaveFault) → Stops g xs a b why → Stops g (xs ++ ys) a b why
  stops_some xs ys a b why = stops_among [] xs ys (xs ++ ys) refl a a b why refl

  -- a call behind others
  pub ran_behind : {X : Type 0} (xs ys : List Sql) (a b c : Held S) (r : Result X SaveFault) → HaveRun g xs a b → Ran g ys b c r → Ran g (xs ++ ys) a c r
  ran_behind xs ys a b c (Ok x) first last = run_both xs ys a b c first last
  ran_behind xs ys a b c (Err why) first last = stops_among xs ys [] (xs ++ ys) (append-nil (xs ++ ys)) a b c why first last

-- those of the first steps begin those of more
begin_with : (step more : ℕ) → (rest : List Sql) × (defines_before (more + step) ≡ defines_before step ++ rest)
begin_with step zero = grind (arith, append-nil)
begin_with step (suc more) =
    let before = begin_with step more in
    let same : suc more + step ≡ suc (more + step) = omega arith in (
      before.0 ++ defines (more + step),
      ap defines_before same ∙ ap (λ all. all ++ defines (more + step)) before.1 ∙ append_assoc (defines_before step) before.0 (defines (more + step)),
    )

module _ {S : Type 0} (g : Ghosts S) where
  -- ---- definitions

  -- one more
  pub run_defined : (step count : ℕ) (a b c : Held S) → HaveRun g (defines_before step) a b
      → Runs g (record { text = definition_at step; params = [] }) b c (Ok count) → HaveRun g (defines_before (step + 1)) a c
  run_defined step count a b c first last =
      subst (λ n. HaveRun g (defines_before n) a c) (sym (add-one step)) (run_both g (defines_before step) (defines step) a b c first (c, count, last, refl))

  -- the one that was refused
  pub stops_defining : (step all : ℕ) → step < all → (error : Error) (a b c : Held S) → HaveRun g (defines_before step) a b
      → Runs g (record { text = definition_at step; params = [] }) b c (Err error) → Stops g (defines_before all) a c (save.Statement error)
  stops_defining step all low error a b c first last =
      let alone : Stops g (defines step) b c (save.Statement error) =
      record { ran = []; sql = record { text = definition_at step; params = [] }; rest = []; are = refl; before = b; have_run = refl; refused = last } in
      let whole = begin_with (suc step) (all - suc step) in
      let count : all - suc step + suc step ≡ all = omega (arith, low) in
      stops_among g (defines_before step) (defines step) whole.0 (defines_before all) (sym whole.1 ∙ ap defines_before count) a b c
      (save.Statement error) first alone

-- ---- the end of a transaction

module _ {S : Type 0} (g : Ghosts S) (Fits : Type 0) (all : List Sql) (old : Held S) where
  -- what is the cause is so behind calls that commit nothing, too
  pub cause_then : (mid new : Held S) (why : SaveFault) → IsCause g Fits all old mid why → Survives (state g mid) (state g new) (λ _. ⊥)
      → IsCause g Fits all old new why
  cause_then mid new (save.Row why) it on = (it.0, it.1, survives_both (state g it.0) (state g mid) (state g new) it.2 on, it.3)
  cause_then mid new (save.Statement error) it on = (it.0, it.1, survives_both (state g it.0) (state g mid) (state g new) it.2 on)
  cause_then mid new (save.Commit error) it on = (it.0, it.1, it.2, it.3, survives_both (state g it.1) (state g mid) (state g new) it.4 on)
