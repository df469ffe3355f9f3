-- How orders end, by what their steps say.
use Rattle.std.proofs.Common.{◌≡◌, ◌∙◌, ℕ, Bool, true, false, List, Option, Some, Result, Ok, Err, IfErr, IfOk, IsErrAnd, inl, inr, refl, subst, sym}
use Rattle.std.specs.Prelude.{MatchOption, MatchResult}
use Rattle.sqlite.specs.Recovery.{Image}
use Rattle.sqlite_disk.specs.declared.Disk as disk
use Rattle.app_words.specs.declared.command.{Command.Command, Report.Report, Syncs.Syncs}
use Rattle.app_tasks.specs.Deeds.{ChecksStatuses, ListsRows, form_of}
use Rattle.app_tasks.specs.{Filters.IsUnasked, Faults.IsOfDesk, declared.filters.Unasked.Unasked, declared.fault.Fault.Fault, Doing.Deed}
use Rattle.app_commands.specs.Statuses.{BySyncs, Ends, EndsList, EndsMake, EndsOverFiles, EndsReport, EndsUnasked, IsToldMade, terms_in_memory}
use Rattle.app_tasks.specs.declared.filters.Unasked.TheVariants as unasked
use Rattle.app_tasks.specs.declared.fault.Fault.TheVariants as fault
use Rattle.desk.specs.declared.fault.DeskFault.TheVariants as deskfault
use Rattle.desk_model.specs.{Tables.Tables, Terms.Terms, Terms.are_terms}
use Rattle.store_api.specs.declared.fault.StorageFault.TheVariants.{Memory}
use Rattle.desk_store.specs.declared.open_fault.{OpenFault.OpenFault, OpenFault.TheVariants.Storage}
use Rattle.app_files.specs.{declared.left.Left.Left, Endings.EndsInMemory, Endings.EndsMaking, Endings.unmade_in_memory}
use Rattle.app_reports.specs.{Listed.roster, declared.form.Form.Form}

module _ {D : Type 0} (g : disk.Ghosts D) (image : Image) (bytes was is : Option (List ℕ)) where
  -- a command ends as the one that it is
  pub as_command : (o it : Command) (how : Result ℕ Fault) (left : Left D g) → o ≡ it → Ends g image bytes was is it how left
      → Ends g image bytes was is o how left
  as_command o it how left same ends = subst (λ x. Ends g image bytes was is x how left) (sym same) ends

  -- a report ends as the one that it is
  pub as_report : (r it : Report) (how : Result ℕ Fault) (left : Left D g) → r ≡ it → EndsReport g image it was is how left
      → EndsReport g image r was is how left
  as_report r it how left same ends = subst (λ x. EndsReport g image x was is how left) (sym same) ends

  -- a check ends in the form that is asked for
  pub as_check : (json : Bool) (f : Form) (how : Result ℕ Fault) (left : Left D g) → f ≡ form_of json
      → EndsOverFiles g image (ChecksStatuses f) was is how left → EndsOverFiles g image (ChecksStatuses (form_of json)) was is how left
  as_check json f how left form ends = subst (λ x. EndsOverFiles g image (ChecksStatuses x) was is how left) form ends

  -- a list of rows ends in the form that is asked for
  pub as_rows : {X : Type 0} (rows : Tables → List X) (Keeps : Tables → X → Type 0) (line : Form → X → List ℕ) (noun : List ℕ) (f : Form) (json : Bool)
      (how : Result ℕ Fault) (left : Left D g) → f ≡ form_of json → EndsOverFiles g image (ListsRows (roster rows Keeps line noun f)) was is how left
      → EndsOverFiles g image (ListsRows (roster rows Keeps line noun (form_of json))) was is how left
  as_rows rows Keeps line noun f json how left form ends =
      subst (λ x. EndsOverFiles g image (ListsRows (roster rows Keeps line noun x)) was is how left) form ends

  -- a list of the rows that are asked for, or of none
  pub as_list : {F : Type 0} (Right Lists : Type 0) (Asks Does : F → Type 0) (asked : Result F Unasked) (how : Result ℕ Fault) (left : Left D g)
      → IfOk asked Asks → IfErr asked (IsUnasked Right) → MatchResult asked Does (λ why. EndsUnasked g image why was is how left)
      → ((filter : F) → Asks filter → Does filter → Lists) → EndsList g image Right Lists was is how left
  as_list Right Lists Asks Does (Ok filter) how left asks not ends lists = inr (inl (lists filter asks ends))
  as_list Right Lists Asks Does (Err (unasked.Wrong why)) how left asks not ends lists = inl (not, ends.0, ends.1)
  as_list Right Lists Asks Does (Err unasked.Memory) how left asks not ends lists = inr (inr (ends.0, ends.1))

  -- a desk of these terms was made or was not
  pub as_made : (found : Option Terms) (policy given : Terms) (making : Result Unit OpenFault) (how : Result ℕ Fault) (left : Left D g)
      → found ≡ Some policy → MatchOption found (are_terms given ≡ false) (λ p. (are_terms given ≡ true) × (p ≡ given))
      → EndsMaking image policy making left → IsToldMade making how → EndsMake g image given was is how left
  as_made found policy given making how left same by ends told =
      let legal : (are_terms given ≡ true) × (policy ≡ given) =
      subst (λ f. MatchOption f (are_terms given ≡ false) (λ p. (are_terms given ≡ true) × (p ≡ given))) same by in
      inr (inl (legal.0, record { making = making; ends = subst (λ p. EndsMaking image p making left) legal.1 ends; told = told }))

-- what holds of what was found, in the match of the result that it is
pub met_ok : {A E : Type 0} (r : Result A E) (found : A) (P : A → Type 0) (Q : E → Type 0) → r ≡ Ok found → P found → MatchResult r P Q
met_ok r found P Q is holds = subst (λ x. MatchResult x P Q) (sym is) holds

-- there was no memory for the policy of a desk in memory
pub no_policy : (deed : Deed Fault) (was : Option (List ℕ)) (f : Fault) (how : Result ℕ Fault) → f ≡ fault.Desk deskfault.Memory
    → IsErrAnd how (λ e. e ≡ f) → EndsInMemory IsOfDesk terms_in_memory deed was was how
no_policy deed was f (Ok status) is told = absurd told
no_policy deed was f (Err e) is told = unmade_in_memory (Storage Memory) (told ∙ is) refl

-- by how often its commits sync
pub as_synced : (once twice : Type 0) (by found it : Syncs) → found ≡ by → found ≡ it → BySyncs once twice it → BySyncs once twice by
as_synced once twice by found it same is ends = subst (BySyncs once twice) (sym is ∙ same) ends
