-- The pieces of a line of the log make the line.
use Rattle.std.proofs.Common.{◌≡◌, ◌++◌, ◌∙◌, ℕ, List, codes, refl, subst, sym}
use Rattle.app_words.specs.declared.command.LogForm.{LogForm}
use Rattle.app_words.specs.declared.command.LogForm.TheVariants as form
use Rattle.desk_http.specs.Logged.{LogEntry}
use Rattle.app_tasks.specs.CallLog.{entry_line, number_text, request_text}

-- the line as a document, of the texts of its members
abbrev pub document : (request status number object micros : List ℕ) → List ℕ
document request status number object micros =
    codes "{" ++ (request ++ (codes ",\"status\":" ++ (status ++ (codes ",\"number\":" ++ (number ++ (codes ",\"object\":" ++ (object
    ++ (codes ",\"microseconds\":" ++ (micros ++ codes "}\n")))))))))

-- it is the line where these are those of the entry
pub document_is_line : (f : LogForm) (e : LogEntry) (request status number object micros : List ℕ) → f ≡ form.Json → request ≡ request_text f e
    → status ≡ number_text f e.status → number ≡ number_text f e.number → object ≡ number_text f e.object → micros ≡ number_text f e.micros
    → document request status number object micros ≡ entry_line f e
document_is_line f e request status number object micros is by-request by-status by-number by-object by-micros =
    (λ i. document (by-request i) (by-status i) (by-number i) (by-object i) (by-micros i))
    ∙ subst (λ x. document (request_text x e) (number_text x e.status) (number_text x e.number) (number_text x e.object) (number_text x e.micros)
    ≡ entry_line x e) (sym is) refl
