use Rattle.std.proofs.{Common.sym, Common.◌∙◌, Common.subst, Common.List, Common.ℕ, Common.arith, lemmas.Slice.Eq.bytes_eq-Decides}
use Rattle.desk_model.specs.Tokens.{IsBodyMatch, body_matches}
use Rattle.keys.proofs.{Blanks.body_match_unique, Matches.without_blanks-matched}
use Rattle.keys.proofs.answers.http_matches.Goals as goal

pub returns-clause-matching : goal.returns-clause-matching
returns-clause-matching c =
    let left = c.without_blanks.result.now in
    let same = rw c.as_bytes.ensures.value at c.is_same_bytes.ensures in
    let decides = bytes_eq-Decides left c.args.expected.now in (
      λ yes. subst (λ (e : List ℕ). IsBodyMatch c.args.body.now e) (decides.0 (sym same ∙ yes)) c.without_blanks.ensures,
      λ m. same ∙ decides.1 (body_match_unique c.args.body.now _ _ c.without_blanks.ensures m),
    )

pub returns-clause-value : goal.returns-clause-value
unfolding body_matches
returns-clause-value c = grind (arith, (without_blanks-matched c.args.body.now c.without_blanks.result.now c.without_blanks.ensures))
