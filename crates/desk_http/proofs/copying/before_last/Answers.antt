use Rattle.std.proofs.{Common.true, lemmas.Slice.Eq.bytes_eq-Decides}
use Rattle.desk_http.proofs.Pieces.{no_last}
use Rattle.desk_http.proofs.copying.before_last.Goals as goal
use Rattle.std.proofs.Common.{◌≡◌, ◌∙◌, refl}

pub returns-else-eq : goal.returns-else-eq
returns-else-eq c =
    no_last c.args.end.now c.split_at.result.1.now c.args.last.now _ refl c.split_at.ensures.back
    (λ same.
    let yes : c.eq.result ≡ true = c.eq.ensures ∙ (bytes_eq-Decides c.split_at.result.1.now c.args.last.now).1 same in
    let no = c.if-eq.false in
    cc)
