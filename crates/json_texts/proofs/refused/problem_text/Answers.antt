use Rattle.std.specs.Prelude.{string_bytes}
use Rattle.desk_model.proofs.PlainData.{written_reads, written_text}
use Rattle.json_texts.proofs.Plain.{problem_plain}
use Rattle.json_texts.proofs.refused.problem_text.Goals as goal

pub returns-clause-text : goal.returns-clause-text
returns-clause-text c =
    written_text string_bytes c.to_string.result _ _ c.in_ok-problem_value.ensures (problem_plain c.args.problem.now) c.to_string.ensures.text

pub returns-clause-reads : goal.returns-clause-reads
returns-clause-reads c =
    written_reads string_bytes c.to_string.result _ _ c.in_ok-problem_value.ensures (problem_plain c.args.problem.now) c.to_string.ensures.reads_back
