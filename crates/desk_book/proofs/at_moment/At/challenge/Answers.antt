use Rattle.std.proofs.Common.{◌≡◌, ◌∙◌, true, false, ap, sym}
use Rattle.std.specs.Prelude.{is_some, option_copied, option_map}
use Rattle.model_laws.proofs.Finds.{found_passes}
use Rattle.desk_model.specs.{Effect.has_row, Questions.challenge_of}
use Rattle.desk_book.proofs.SweptRows.{challenge_there}
use Rattle.desk_book.proofs.at_moment.At.challenge.Goals as goal

-- the authorization that was found has the challenge
pub returns-in_err-challenge_of : goal.returns-in_err-challenge_of
returns-in_err-challenge_of c =
    let holds : has_row c.args.number c.in_ok-row.row.now ≡ true =
    found_passes (has_row c.args.number) c.args.self.now.authorizations _
    (sym c.owner.ensures ∙ ap (option_map (λ p. record p.0.now { status = p.1 })) c.in_ok-row.was) in
    let none : is_some (challenge_of c.args.number c.in_ok-row.row.now)
    ≡ false = ap is_some (sym c.challenge_of.ensures ∙ ap option_copied c.in_err-challenge_of.was) in
    let some : is_some (challenge_of c.args.number c.in_ok-row.row.now) ≡ true = challenge_there c.args.number c.in_ok-row.row.now ∙ holds in
    cc
