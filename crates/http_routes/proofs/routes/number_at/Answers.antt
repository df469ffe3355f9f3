use Rattle.std.proofs.Common.{◌≡◌, ◌≢◌, ◌++◌, List, ℕ, codes, true, sym, ◌∙◌}
use Rattle.std.proofs.lemmas.{Slice.Eq.bytes_eq-Decides, Str.Pattern.split_text_parts}
use Rattle.http_routes.specs.Routes.{text_of}
use Rattle.http_routes.proofs.Parts.{between_parts, other_path, whole_path}
use Rattle.http_routes.proofs.routes.number_at.Goals as goal

pub returns-in-Some : goal.returns-in-Some
returns-in-Some c =
    let parts = split_text_parts (codes "{n}") c.text_of-text.result.now c.split_once.result c.split_once.ensures.cases in
    let text : text_of c.args.route ≡ c.in-Some.before.now ++ (codes "{n}" ++ c.in-Some.after.now) = rw (c.in-Some.is, c.text_of-text.ensures) at parts in
    between_parts c.args.path.now c.args.route c.in-Some.before.now c.in-Some.after.now c.number_between.result text c.number_between.ensures

pub returns-in-None : goal.returns-in-None
returns-in-None c =
    let parts = split_text_parts (codes "{n}") c.text_of-text.result.now c.split_once.result c.split_once.ensures.cases in
    let none : (before after : List ℕ) → text_of c.args.route ≢ before ++ (codes "{n}" ++ after) = rw (c.in-None.is, c.text_of-text.ensures) at parts in
    let same = (bytes_eq-Decides c.args.path.now c.text_of-text.result.now).0 in
    whole_path c.args.route none c.args.path.now (same (sym c.eq.ensures ∙ c.if-eq.true) ∙ c.text_of-text.ensures)

pub returns-in-None-2 : goal.returns-in-None-2
returns-in-None-2 c =
    let parts = split_text_parts (codes "{n}") c.text_of-text.result.now c.split_once.result c.split_once.ensures.cases in
    let none : (before after : List ℕ) → text_of c.args.route ≢ before ++ (codes "{n}" ++ after) = rw (c.in-None-2.is, c.text_of-text.ensures) at parts in
    let equal = (bytes_eq-Decides c.args.path.now c.text_of-text.result.now).1 in
    other_path c.args.route none c.args.path.now (λ e.
    let is : c.eq.result ≡ true = c.eq.ensures ∙ equal (e ∙ sym c.text_of-text.ensures) in
    let no = c.if-eq.false in cc)
