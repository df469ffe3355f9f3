use Rattle.std.proofs.Common.{◌∙◌, ap, sym, None, Some, rules}
use Rattle.std.specs.Prelude.{option_copied}
use Rattle.desk_model.specs.{Derived.authorization_numbered, Entry.entry_of}
use Rattle.core_changes.proofs.RowMoves.{status-none, status-touched, status-untouched}
use Rattle.core_changes.proofs.moved.status_after.Goals as goal

pub returns-in_err-row : goal.returns-in_err-row
returns-in_err-row c = search (rules, status-none)

pub returns-then-not-touches_authorization : goal.returns-then-not-touches_authorization
returns-then-not-touches_authorization c = search (rules, status-untouched)

pub returns-in_err-next : goal.returns-in_err-next
returns-in_err-next c =
    let s = c.args.step.now in
    c.from_residual-in_err-next.ensures
    ∙ status-touched (entry_of s.motion.now) s.moment c.args.number s.book.now.accounts s.book.now.authorizations c.in_ok-row.row.now None
    (sym (ap option_copied (sym c.in_ok-row.was) ∙ c.authorization.ensures)) (sym c.touches_authorization.ensures ∙ c.if-not-touches_authorization.false)
    (ap option_copied (sym c.in_err-next.was) ∙ c.row_numbered.ensures ∙ ap (authorization_numbered c.args.number) c.requires)

pub returns : goal.returns
returns c =
    let s = c.args.step.now in
    status-touched (entry_of s.motion.now) s.moment c.args.number s.book.now.accounts s.book.now.authorizations c.in_ok-row.row.now
    (Some c.in_ok-next.next.now)
    (sym (ap option_copied (sym c.in_ok-row.was) ∙ c.authorization.ensures)) (sym c.touches_authorization.ensures ∙ c.if-not-touches_authorization.false)
    (ap option_copied (sym c.in_ok-next.was) ∙ c.row_numbered.ensures ∙ ap (authorization_numbered c.args.number) c.requires)
