use Rattle.std.proofs.Common.{◌∙◌, sym}
use Rattle.keys.proofs.Matches.{Any-records}
use Rattle.keys.proofs.answers.dns_matches.Goals as goal

pub returns-clause-matching : goal.returns-clause-matching
returns-clause-matching c =
    let any = Any-records c.args.records.now c.args.expected.now in
    (λ yes. any.0 (sym c.has_text.ensures ∙ yes), λ a. c.has_text.ensures ∙ any.1 a)
