use Rattle.std.proofs.Common.{◌∙◌, ◌↔◌, IsTrue, ap, map, subst, sym}
use Rattle.std.specs.List.{list_any}
use Rattle.desk_model.specs.{Derived.numbers_of, Document.rows_of, Name.same_name, declared.rows.AuthorizationRow.AuthorizationRow}
use Rattle.app_reports.specs.Filter.{AsksFor}
use Rattle.app_reports.proofs.asked.allows_listed.Goals as goal

-- a name among those that the order's authorizations have is one that it asks for
pub returns-in_ok-listed_names-in-Some-clause-kept : goal.returns-in_ok-listed_names-in-Some-clause-kept
returns-in_ok-listed_names-in-Some-clause-kept g c honest T holds =
    let names = map (λ (a : AuthorizationRow). a.name) (rows_of T.authorizations (numbers_of c.args.listed.now)) in
    let are = c.deref.ensures.value ∙ c.in_ok-listed_names-in-Some.ensures.found honest T holds in
    let is = c.has_name.ensures ∙ ap (list_any (λ name. same_name name c.in-Some.asked)) are in
    subst (λ asked. IsTrue c.has_name.result ↔ AsksFor asked names) (sym c.in-Some.is) ((λ kept. sym is ∙ kept), (λ asks. is ∙ asks))
