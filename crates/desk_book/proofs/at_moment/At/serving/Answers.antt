use Rattle.std.proofs.Common.{◌∙◌, ap, sym}
use Rattle.std.specs.{Prelude.option_copied, Option.option_map}
use Rattle.desk_model.specs.{Questions.serving_on, declared.rows.AuthorizationRow.AuthorizationRow, declared.rows.Meta.Meta}
use Rattle.desk_book.proofs.SweptRows.{swept_serving_on}
use Rattle.desk_book.proofs.at_moment.At.serving.Goals as goal

pub returns : goal.returns
returns c =
    swept_serving_on c.self.inside.moment c.self.inside.book.now c.args.account c.args.name.now _ _ _
    (c.order_life.ensures.life ∙ ap (λ (x : Meta). x.policy.order_life) c.meta.ensures) c.authorizations.ensures
    (ap option_copied (sym c.in_ok-row.was) ∙ c.serving_row.ensures)
    ∙ ap (λ T. option_map (λ (r : AuthorizationRow). r.number) (serving_on T c.args.account c.args.name.now)) c.self.view_is

pub returns-in_err-row : goal.returns-in_err-row
returns-in_err-row c =
    rw c.from_residual.ensures
    (swept_serving_on c.self.inside.moment c.self.inside.book.now c.args.account c.args.name.now _ _ _
    (c.order_life.ensures.life ∙ ap (λ (x : Meta). x.policy.order_life) c.meta.ensures) c.authorizations.ensures
    (ap option_copied (sym c.in_err-row.was) ∙ c.serving_row.ensures)
    ∙ ap (λ T. option_map (λ (r : AuthorizationRow). r.number) (serving_on T c.args.account c.args.name.now)) c.self.view_is)
