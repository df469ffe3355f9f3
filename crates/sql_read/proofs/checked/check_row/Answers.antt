use Rattle.std.proofs.Common.{sym, subst, ◌++◌, ◌∷◌, ◌∙◌}
use Rattle.sql_read.proofs.checked.check_row.Goals as goal

pub returns-clause-stopped : goal.returns-clause-stopped
returns-clause-stopped g c stops fits found stored spells first rows rest so_far all =
    let known = rw c.in-Some.is at c.in_ok-like.ensures.like in
    let same = c.requires.apart found known.0 stored known.1 (sym spells ∙ known.2) in
    let alike = g.met.K.RowCheck.all_alike first rows rest known.0 c.in-Some.like known.3
    (subst (λ r. g.K.RowCheck.AreAll first (rows ++ r ∷ rest)) same all) in
    let passes = c.in_ok-passes.ensures.fine first rows rest so_far alike in
    absurd (let wrong = sym stops ∙ passes in cc)
