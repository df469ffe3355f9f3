-- Look-ups whose rows are put into tables, one after the other.
use Rattle.std.proofs.Common.{◌≡◌, ℕ, Option, List, [], ◌∷◌, Result, Ok, Err, IfErr, IfOk, IsErrAnd, OnOk, subst, rules}
use Rattle.std.proofs.lemmas.Result.{on_ok_weaker}
use Rattle.std.specs.{Prelude.option_to_list, Option.MatchOption}
use Rattle.model_laws.specs.Placing.{puts}
use Rattle.store_api.specs.{Finding.Finds, Finding.LacksMemory, Sight.Gives, Sight.Sight, declared.fault.StorageFault.StorageFault}
use Rattle.store_api.proofs.{Gathered.into_if_found, Readings.reads_failing, Readings.reads_then, Readings.unchanged_read, Readings.reads_of_tables}
use Rattle.desk_model.specs.Tables.{Tables}

module _ {S C : Type 0} {v : Sight S C} where
  -- a look-up behind others
  pub finds_then : {A B : Type 0} {old mid new : S} {a : B} {P Q R : Tables → Type 0} (r : Result A StorageFault) →
      Finds v old mid (Ok a) P → Finds v mid new r Q → ((T : Tables) → P T → Q T → R T) →
      Finds v old new r R
  finds_then r first second both = record {
    reads = reads_then r (unchanged_read first.reads) second.reads;
    found = λ honest T held.
        let so_far = second.reads.honest honest in
        on_ok_weaker r (both T (first.found so_far T held)) (second.found honest T (first.reads.tables so_far T held));
  }

  -- what was found by both
  pub finds_both : {A B : Type 0} {old mid new : S} {a : B} {P Q : Tables → Type 0} (r : Result A StorageFault) →
      Finds v old mid (Ok a) P → Finds v mid new r Q →
      Finds v old new r (λ T. P T × Q T)
  finds_both r first second = finds_then r first second (λ T p q. (p, q))

  -- a third one
  pub finds_third : {A B D : Type 0} {s0 s1 s2 s3 : S} {b : B} {d : D} {P Q R Z : Tables → Type 0} (r : Result A StorageFault) →
      Finds v s0 s1 (Ok b) P → Finds v s1 s2 (Ok d) Q → Finds v s2 s3 r R → ((T : Tables) → P T → Q T → R T → Z T) →
      Finds v s0 s3 r Z
  finds_third r first second third all = finds_then r (finds_both _ first second) third (λ T both. all T both.0 both.1)

  -- a fourth one
  pub finds_fourth : {A B D E : Type 0} {s0 s1 s2 s3 s4 : S} {b : B} {d : D} {e : E} {P Q R U Z : Tables → Type 0} (r : Result A StorageFault) →
      Finds v s0 s1 (Ok b) P → Finds v s1 s2 (Ok d) Q → Finds v s2 s3 (Ok e) R → Finds v s3 s4 r U →
      ((T : Tables) → P T → Q T → R T → U T → Z T) →
      Finds v s0 s4 r Z
  finds_fourth r first second third fourth all = finds_third r (finds_both _ first second) third fourth (λ T both. all T both.0 both.1)

  -- the fault of a look-up is passed on
  pub finds_failing : {A B : Type 0} {old new : S} {why : StorageFault} {P Q : Tables → Type 0} (r : Result A StorageFault) →
      Finds v {A = B} old new (Err why) P → IsErrAnd r (λ e. e ≡ why) →
      Finds v old new r Q
  finds_failing (Ok a) finds failed = absurd failed
  finds_failing (Err e) finds failed = record { reads = reads_failing (Err e) finds.reads failed; found = λ honest T held. tt }

  -- and behind others
  pub fails_behind : {A B D : Type 0} {old mid new : S} {why : StorageFault} {a : D} {P Q R : Tables → Type 0} (r : Result A StorageFault) →
      Finds v old mid (Ok a) P → Finds v {A = B} mid new (Err why) Q → IsErrAnd r (λ e. e ≡ why) →
      Finds v old new r R
  fails_behind r first second failed = finds_then r first (finds_failing r second failed) (λ T p q. q)

  -- a result that is another
  pub finds_as : {A : Type 0} {old new : S} {P : Tables → Type 0} {r q : Result A StorageFault} → r ≡ q → Finds v old new r P → Finds v old new q P
  finds_as {A} {old} {new} {P} same finds = subst (λ r. Finds v old new r P) same finds

  -- what was found is put into a table in some way
  pub finds_into : {V X B : Type 0} {old new : S} {looked : Result V StorageFault} {r : Result B StorageFault}
      (into : List X → List X → List X) (items : V → List X) (rows_of : Tables → List X) (rows later : List X) →
      Gives v old new (λ T vs. items vs ≡ rows_of T) looked →
      IfOk looked (λ vs. OnOk r (later ≡ into (items vs) rows)) → IfOk looked (λ _. IfErr r LacksMemory) → IfErr looked (λ why. r ≡ Err why) →
      Finds v old new r (λ T. later ≡ into (rows_of T) rows)
  finds_into {looked = looked} {r = r} into items rows_of rows later gives put_now lacks passed = record {
    reads = reads_of_tables looked r gives.reads (λ honest T held. lacks) passed;
    found = λ honest T held. into_if_found into items looked r (rows_of T) rows later put_now passed (gives.found honest T held);
  }

  -- and by number
  pub finds_put : {V X B : Type 0} {old new : S} {looked : Result V StorageFault} {r : Result B StorageFault}
      (number : X → ℕ) (items : V → List X) (rows_of : Tables → List X) (rows later : List X) →
      Gives v old new (λ T vs. items vs ≡ rows_of T) looked →
      IfOk looked (λ vs. OnOk r (later ≡ puts number (items vs) rows)) → IfOk looked (λ _. IfErr r LacksMemory) → IfErr looked (λ why. r ≡ Err why) →
      Finds v old new r (λ T. later ≡ puts number (rows_of T) rows)
  finds_put number items rows_of rows later gives put_now lacks passed = finds_into (puts number) items rows_of rows later gives put_now lacks passed

-- an option as a slice
pub listed_as : {X : Type 0} (o : Option X) (xs ys : List X) → MatchOption o (xs ≡ []) (λ x. xs ≡ x ∷ []) → option_to_list o ≡ ys → xs ≡ ys
listed_as o xs ys h k = search rules
