use Rattle.std.proofs.Common.{◌∙◌, subst, sym}
use Rattle.std.specs.Prelude.{option_copied, option_to_list}
use Rattle.sql_write.proofs.{Over.over_one, Written.written_as}
use Rattle.sql_write.specs.{Makes.PutsAllOver, Makes.key_under, Refusals.HasWritten, Statements.of_some, Statements.saves_key}
use Rattle.sql_write.proofs.children.save_answer.Goals as goal
use Rattle.sql_tables.specs.Layouts.{key_layout}

pub returns-in-Some-clause-writes : goal.returns-in-Some-clause-writes
returns-in-Some-clause-writes g c =
    let stored = option_copied c.args.stored in
    let is = sym c.answer_key.ensures ∙ c.in-Some.is in
    subst (λ o. HasWritten g.S.Store (of_some (saves_key stored c.args.last) o) (PutsAllOver key_layout (key_under stored) (option_to_list o))
    c.args.tx.now.conn.now c.save_key.new.tx.conn.now c.save_key.result) (sym is)
    (written_as g.S.Store _ _ _ _ _ _ (over_one key_layout (key_under stored) c.in-Some.key _ _) c.save_key.ensures.writes)
