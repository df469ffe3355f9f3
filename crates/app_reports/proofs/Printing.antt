-- Lines that were written so far.
use Rattle.std.proofs.{KnownBytes.Appends-trans, lemmas.List.Concat.flat_map-append}
use Rattle.std.proofs.Common.{arith, ◌≡◌, ◌≢◌, ◌↔◌, ◌∙◌, ◌++◌, Bool, false, IsTrue, List, [], ◌∷◌, ℕ, ap, append_assoc, append-nil, subst, sym}
use Rattle.std.specs.{Io.KnownBytes.Appends, Prelude.Option, Prelude.Result, Prelude.OnOk}
use Rattle.desk_model.specs.declared.rows.StatusFault.{StatusFault}
use Rattle.app_reports.specs.{Printed.faults_text, Printed.line_of, Printed.lines_of, declared.form.Form.Form}
use Rattle.app_reports.specs.declared.form.Form.TheVariants as form

-- the lines of all faults but those that are left were written
abbrev pub Writes : Form → (was is : Option (List ℕ)) → (all left : List StatusFault) → Type 0
Writes f was is all left = (done : List StatusFault) × (all ≡ done ++ left) × Appends was is (lines_of f done)

-- and the next ones
pub writes_part : (f : Form) (was mid is : Option (List ℕ)) (all left part rest : List StatusFault) → Writes f was mid all left
    → left ≡ part ++ rest → Appends mid is (lines_of f part) → Writes f was is all rest
writes_part f was mid is all left part rest so_far next written = (
  so_far.0 ++ part,
  so_far.1 ∙ ap (λ l. so_far.0 ++ l) next ∙ sym (append_assoc (so_far.0) part rest),
  subst (Appends was is) (sym (flat_map-append (line_of f) (so_far.0) part))
      (Appends-trans was mid is (lines_of f so_far.0) (lines_of f part) so_far.2 written),
)

-- and the next one
pub writes_one : (f : Form) (was mid is : Option (List ℕ)) (all left rest : List StatusFault) (x : StatusFault) → Writes f was mid all left
    → left ≡ x ∷ rest → Appends mid is (line_of f x) → Writes f was is all rest
writes_one f was mid is all left rest x so_far next written =
    writes_part f was mid is all left (x ∷ []) rest so_far next (subst (Appends mid is) (sym (append-nil (line_of f x))) written)

-- all were
pub writes_all : (f : Form) (was is : Option (List ℕ)) (all left : List StatusFault) → Writes f was is all left → left ≡ []
    → Appends was is (lines_of f all)
writes_all f was is all left so_far none = grind (arith, append-nil)

-- the whole list is its lines, where no line says that there is none
pub text_without : (f : Form) (faults : List StatusFault) (found : Bool) → IsTrue found ↔ faults ≢ []
    → ((found ≡ false) × (f ≡ form.Text) → ⊥) → faults_text f faults ≡ lines_of f faults
text_without f faults found tells said = grind arith

-- where a call ended well, what follows from what it then says
pub on_ok : {X E : Type 0} {P Q : Type 0} (r : Result X E) → (P → Q) → OnOk r P → OnOk r Q
on_ok r f h = grind arith
