-- The exits of a call over an open store.
use Rattle.std.proofs.Common.{◌≡◌, ℕ, ◌<◌, List, [], ◌∷◌, refl, sym, subst, Result, Ok, Err, inl, inr, arith, true, false, rules}
use Rattle.std.proofs.lemmas.Bool.{eqb-true}
use Rattle.std.specs.Prelude.{nat_eq, length, ◌↔◌, IsErrAnd}
use Rattle.desk_model.specs.{Entry.History, Change.applied, Limits.last_moment, Decide.after, Legal.Legal, Run.IsFormedCall, Tables.Tables}
use Rattle.desk_model.specs.{Tables.picture, declared.call.Call.Call, declared.reply.Reply.Reply, declared.rows.Change.Change}
use Rattle.model_parts.specs.IsEnough.{IsEnoughFor}
use Rattle.store_laws.proofs.FlatTexts.{picture_is_stored_book}
use Rattle.desk_core.specs.Decided.{IsDecision}
use Rattle.core_rules.specs.declared.fault.CoreFault.{CoreFault}
use Rattle.identifiers.specs.declared.parsed.CallFault.{CallFault}
use Rattle.identifiers.specs.declared.parsed.CallFault.TheVariants as callfault
use Rattle.store_api.proofs.Readings.{unchanged_both, unchanged_read}
use Rattle.store_api.specs.Storing.{Fit, IsCutFrom, Loads, SavesFrom}
use Rattle.store_api.specs.{Sight.Sight, Sight.Keeps, Sight.Unchanged, declared.fault.StorageFault.StorageFault}
use Rattle.store_api.specs.declared.fault.StorageFault.TheVariants as storagefault
use Rattle.desk.specs.Answers.{Answers, ExitsBy, IsAnswered, IsBroken, is_closed_after}
use Rattle.desk.specs.{declared.fault.DeskFault.DeskFault, Faults.call_fault, Faults.closes, Faults.core_fault, Faults.storage_fault}
use Rattle.desk.specs.declared.fault.DeskFault.TheVariants as deskfault

-- ---- faults

-- a fault of the store is no late moment
storage_in_time : (cause : StorageFault) → deskfault.Moment ≡ storage_fault cause → ⊥
storage_in_time cause h = search rules

-- ---- results

-- a result that is this fault
abbrev pub Faults : Result Reply DeskFault → DeskFault → Type 0
Faults result why = IsErrAnd result (λ w. w ≡ why)

-- nor is a result that is one
pub storage_result_in_time : (cause : StorageFault) (result : Result Reply DeskFault) → Faults result (storage_fault cause) →
    result ≡ Err deskfault.Moment → ⊥
storage_result_in_time cause result is late = storage_in_time cause (subst (λ r. Faults r (storage_fault cause)) late is)

-- a fault of a decision is no late moment
core_in_time : (e : CoreFault) → deskfault.Moment ≡ core_fault e → ⊥
core_in_time e h = search rules

-- nor is a result that is one
pub core_result_in_time : (e : CoreFault) (result : Result Reply DeskFault) → Faults result (core_fault e) → result ≡ Err deskfault.Moment → ⊥
core_result_in_time e result is late = core_in_time e (subst (λ r. Faults r (core_fault e)) late is)

-- a call that was read is late, by its result, where its moment is past the last
pub read_late : {A : Type 0} (read : A) (result : Result Reply DeskFault) (at : ℕ) → (result ≡ Err deskfault.Moment → ⊥) →
    (◌≡◌ {A = Result A CallFault} (Ok read) (Err callfault.Moment) ↔ (last_moment < at)) → (result ≡ Err deskfault.Moment) ↔ (last_moment < at)
read_late read result at in_time late = (λ so. absurd (in_time so), λ past. let so = late.1 past in cc so)

-- the moment of a call that was read is not past the last
pub read_in_time : {A : Type 0} (read : A) (at : ℕ) → (◌≡◌ {A = Result A CallFault} (Ok read) (Err callfault.Moment) ↔ (last_moment < at)) →
    last_moment < at → ⊥
read_in_time read at late past = let so = late.1 past in cc so

-- a desk stays open where a call was not read
pub unread_open : (e : CallFault) (result : Result Reply DeskFault) → Faults result (call_fault e) → false ≡ is_closed_after result
unread_open e result h = search rules

-- a call of the store that failed
abbrev pub failed : (R : Type 0) → StorageFault → Result R StorageFault
failed R why = Err why

-- no changes
pub nothing : (changes : List Change) → nat_eq (length changes) 0 ≡ true → changes ≡ []
nothing [] is = refl
nothing (c ∷ changes) is = let e : length (c ∷ changes) ≡ 0 = eqb-true (length (c ∷ changes)) 0 is in absurd (omega arith)

-- the changes of a decision fit the picture that it was made on
fits : (F : History) (call : Call) (changes : List Change) (reply : Reply) → IsDecision F call changes reply → Fit (picture F) changes
fits F call changes reply d = grind (arith, (picture_is_stored_book (after F call) d.stays_legal))

module _ {S C : Type 0} (v : Sight S C) where
  -- ---- stores that stand

  -- what stands keeps its tables
  keeps_on : (old new : S) (T : Tables) → v.is_honest new → Unchanged v old new → Keeps v old T → Keeps v new T
  keeps_on old new T h unchanged keeps = record { tables = unchanged.tables h T keeps.tables; left = λ c l. keeps.left c (unchanged.left h c l) }

  -- changes that were not saved, out of memory
  unwritten : (R : Type 0) (old new : S) (part : Tables) (changes : List Change) (cause : StorageFault) → SavesFrom v part changes old new (failed R cause) →
      closes (storage_fault cause) ≡ false → Unchanged v old new
  unwritten R old new part changes storagefault.Memory s going = s.without_memory refl
  unwritten R old new part changes cause s going = absurd (cc going)

  -- ---- exits, by a history

  -- the store keeps the tables with the changes
  answers : (F : History) (call : Call) (new : S) (changes : List Change) (reply : Reply) → IsDecision F call changes reply →
      Keeps v new (applied changes (picture F)) → IsAnswered v F call reply new
  answers F call new changes reply d keeps =
      record { faultless = d.faultless; decided = d.replies; stays_legal = d.stays_legal; keeps = subst (Keeps v new) d.makes keeps }

  -- a stop leaves all of them or none
  either : {R : Type 0} (F : History) (call : Call) (old new : S) (part : Tables) (changes : List Change) (reply : Reply) (result : Result R StorageFault) →
      v.is_honest new → IsCutFrom part (picture F) → IsDecision F call changes reply → Keeps v old (picture F) → SavesFrom v part changes old new result →
      IsBroken v F call new
  either F call old new part changes reply result h cut d keeps s =
      λ c left. elim (s.left h c left) [
        | inl was ↦ inl (keeps.left c was)
        | inr has ↦ inr (d.faultless, subst (v.has c) d.makes (has (picture F) cut (fits F call changes reply d) keeps.tables))
      ]

  -- they are not saved
  save_fails : (R : Type 0) (F : History) (call : Call) (old new : S) (part : Tables) (changes : List Change) (reply : Reply) (cause : StorageFault) →
      v.is_honest new → IsCutFrom part (picture F) → IsDecision F call changes reply → Keeps v old (picture F) → SavesFrom v part changes old new
      (failed R cause) →
      ExitsBy v F call (storage_fault cause) new
  save_fails R F call old new part changes reply storagefault.Memory h cut d keeps s =
      record { cause = tt; keeps = keeps_on old new (picture F) h (unwritten R old new part changes storagefault.Memory s refl) keeps }
  save_fails R F call old new part changes reply cause h cut d keeps s = either F call old new part changes reply (failed R cause) h cut d keeps s

  -- ---- the exits of the whole call

  -- what a decision by the book says
  abbrev pub Decides : Call → Tables → List Change → Reply → Type 0
  Decides call book changes reply = (F : History) → Legal F → IsEnoughFor call (picture F) book → IsDecision F call changes reply

  -- the decision changes nothing
  pub answered_alone : (call : Call) (old new : S) (book : Tables) (changes : List Change) (reply : Reply) → IsFormedCall call →
      Loads v call old new (Ok book) → Decides call book changes reply → changes ≡ [] → Answers v call old new (Ok reply)
  answered_alone call old new book changes reply formed l decides none =
      record {
        formed = formed;
        honest = l.reads.honest;
        unchanged = tt;
        exit =
            λ h F legal keeps. answers F call new changes reply (decides F legal (l.part h F legal keeps.tables))
            (subst (λ cs. Keeps v new (applied cs (picture F))) (sym none) (keeps_on old new (picture F) h (unchanged_read l.reads) keeps));
      }

  -- its changes are saved
  pub saved : {R : Type 0} (call : Call) (old mid new : S) (book : Tables) (changes : List Change) (reply : Reply) (done : R) → IsFormedCall call →
      Loads v call old mid (Ok book) → Decides call book changes reply → SavesFrom v book changes mid new (Ok done) → Answers v call old new (Ok reply)
  saved {R} call old mid new book changes reply done formed l decides s =
      record {
        formed = formed;
        honest = λ h. l.reads.honest (s.honest h);
        unchanged = tt;
        exit =
            λ h F legal keeps.
            let enough = l.part (s.honest h) F legal keeps.tables in
            let d = decides F legal enough in
            answers F call new changes reply d (s.saved h (picture F) (enough.kept, enough.cut) (fits F call changes reply d)
            ((unchanged_read l.reads).tables (s.honest h) (picture F) keeps.tables));
      }

  -- they are not
  pub unsaved : (R : Type 0) (call : Call) (old mid new : S) (book : Tables) (changes : List Change) (reply : Reply) (cause : StorageFault)
      (result : Result Reply DeskFault) → IsFormedCall call → Loads v call old mid (Ok book) → Decides call book changes reply →
      SavesFrom v book changes mid new (failed R cause) → Faults result (storage_fault cause) → Answers v call old new result
  unsaved R call old mid new book changes reply cause (Ok r) formed l decides s is = absurd is
  unsaved R call old mid new book changes reply cause (Err why) formed l decides s is =
      record {
        formed = formed;
        honest = λ h. l.reads.honest (s.honest h);
        unchanged =
            subst (λ w. closes w ≡ false → Unchanged v old new) (sym is)
            (λ going. unchanged_both (unchanged_read l.reads) (unwritten R mid new book changes cause s going));
        exit =
            λ h F legal keeps.
            let enough = l.part (s.honest h) F legal keeps.tables in
            subst (λ w. ExitsBy v F call w new) (sym is)
            (save_fails R F call mid new book changes reply cause h (enough.kept, enough.cut) (decides F legal enough)
            (keeps_on old mid (picture F) (s.honest h) (unchanged_read l.reads) keeps) s);
      }
