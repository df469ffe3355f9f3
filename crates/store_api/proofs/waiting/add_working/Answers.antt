use Rattle.std.proofs.{Common.ap, Common.map, Common.subst, Common.sym, Common.◌∙◌, Common.[], Common.◌∷◌, Common.◌≡◌, lemmas.Simd.map-map}
use Rattle.std.specs.List.{list_any}
use Rattle.desk_model.specs.declared.rows.AuthorizationRow.{AuthorizationRow}
use Rattle.model_laws.proofs.Basics.{each-map}
use Rattle.model_laws.specs.Ordered.{Ascends}
use Rattle.model_parts.specs.LookUps.{bare_authorizations}
use Rattle.store_api.proofs.{WaitingRows.nested_working, WaitingRows.numbered, WaitingRows.working_ascend, Lacking.bare_working, Found.finds_then}
use Rattle.store_api.proofs.{Missing.lacking_missings, Readings.reads_unchanged, Readings.unchanged_here}
use Rattle.store_api.specs.{Needing.lacking, Needing.missings, Nesting.nested}
use Rattle.store_columns.specs.declared.columns.JoinedChallenge.{JoinedChallenge}
use Rattle.store_api.proofs.waiting.add_working.Goals as goal

pub returns : goal.returns
returns g c =
    let number = λ (r : AuthorizationRow). r.number in
    let owner = λ (w : JoinedChallenge). w.authorization in
    let items = c.in_ok-waiting.waiting.items in
    let slice = c.as_slice.ensures.value in
    finds_then c.add_nested.result (record { reads = c.in_ok-waiting.ensures.reads; found = c.in_ok-waiting.ensures.found })
    (record { reads = reads_unchanged c.add_nested.result c.add_nested.ensures.lacks unchanged_here; found = λ honest T held. c.add_nested.ensures.nested })
    (λ T are nested_now ordered none.
    let own = are ordered in
    let bare =
    (λ i. lacking number (map owner (slice i)) (none i))
    ∙ lacking_missings number (bare_authorizations T) (map owner items) (each-map (λ r. bare_authorizations T r.number ≡ r ∷ []) owner items own.1) []
    ∙ ap (λ ns. missings number (bare_authorizations T) ns []) (map-map number owner items)
    ∙ bare_working T ordered (map (λ w. number (owner w)) items) (λ p. ap (list_any p) (sym (map-map (λ p. p.0) numbered items)) ∙ own.0.owners p) in
    nested_now (subst (Ascends number 1) (sym bare) (working_ascend T ordered))
    ∙ (λ i. nested (map numbered (slice i)) (bare i))
    ∙ nested_working T (map numbered items) own.0)
