use Rattle.std.proofs.Common.{rules, sym, ap, ◌∙◌}
use Rattle.std.specs.Prelude.{option_copied}
use Rattle.desk_model.specs.{Effect.swept, Rules.open_nonce_in}
use Rattle.identifiers.specs.ReadOnce.{spelled_nonce}
use Rattle.core_rules.proofs.OpenNonces.{absent, opens}
use Rattle.core_rules.proofs.judging.open_serial.Goals as goal
use Rattle.core_rules.proofs.judging.open_serial.Goals.{else-lasts-via-then-lasts+else-eq, else-lasts-via-else-lasts}

pub returns-in_err-nonce : goal.returns-in_err-nonce
returns-in_err-nonce c =
    λ ordered.
    let none = ap (λ s. open_nonce_in (swept c.args.moment c.args.book.now) (spelled_nonce s)) c.in_ok-serial.was
    ∙ absent c.args.book.now c.args.moment ordered _ (sym (ap option_copied c.in_err-nonce.was) ∙ c.nonce.ensures) in
    search (rules, none)

pub returns-then-eq : goal.returns-then-eq
returns-then-eq c =
    λ ordered.
    let found = ap (λ s. open_nonce_in (swept c.args.moment c.args.book.now) (spelled_nonce s)) c.in_ok-serial.was
    ∙ opens c.args.book.now c.args.moment ordered _ _ (sym (ap option_copied c.in_ok-nonce.was) ∙ c.nonce.ensures) in
    search (rules, found)

pub returns-else-lasts : goal.returns-else-lasts
returns-else-lasts c =
    λ ordered.
    let found = ap (λ s. open_nonce_in (swept c.args.moment c.args.book.now) (spelled_nonce s)) c.in_ok-serial.was
    ∙ opens c.args.book.now c.args.moment ordered _ _ (sym (ap option_copied c.in_ok-nonce.was) ∙ c.nonce.ensures) in
    elim c.else-lasts.branch [
      | else-lasts-via-then-lasts+else-eq w ↦ search (rules, found)
      | else-lasts-via-else-lasts w ↦ search (rules, found)
    ]
