use Rattle.std.proofs.Common.{◌∙◌, ap, refl}
use Rattle.std.specs.Prelude.{option_copied, option_map}
use Rattle.sql_write.proofs.{Differing.key_differs, RowsInTurn.writes_added, Written.written_as, Over.set_none, Over.set_some}
use Rattle.sql_write.specs.{Differences.key_difference, Makes.key_under, Write.write, Stored.stored_challenge}
use Rattle.sql_write.specs.Statements.{key_writing, lacks_key, writes}
use Rattle.sql_tables.specs.Layouts.{key_layout}
use Rattle.sql_write.proofs.children.save_key.Goals as goal

pub returns-in-Some-clause-writes : goal.returns-in-Some-clause-writes
returns-in-Some-clause-writes g c =
    let key = c.args.key.now in
    let stored = option_copied c.args.stored in
    let new = lacks_key (stored_challenge stored key.challenge) c.args.last key.challenge in
    set_some g.S.Store (key_differs key (key_under stored key)) new (λ m. writes key_writing m key) refl
    (c.of.ensures ∙ ap (write c.key_difference-difference.result)
    (c.lacks_key-is_new.ensures ∙ ap (λ o. lacks_key o c.args.last key.challenge) c.stored_challenge.ensures))
    (c.key_difference-difference.ensures ∙ ap (option_map (λ old. key_difference old key)) c.stored_key.ensures) c.in-Some.is
    (written_as g.S.Store _ _ _ _ _ _ (writes_added key_layout key c.in-Some.write _ _) c.write_key.ensures.writes)

pub returns-in-None-clause-writes : goal.returns-in-None-clause-writes
returns-in-None-clause-writes g c =
    let key = c.args.key.now in
    let stored = option_copied c.args.stored in
    let new = lacks_key (stored_challenge stored key.challenge) c.args.last key.challenge in
    set_none g.S.Store (key_differs key (key_under stored key)) new (λ m. writes key_writing m key) refl
    (c.of.ensures ∙ ap (write c.key_difference-difference.result)
    (c.lacks_key-is_new.ensures ∙ ap (λ o. lacks_key o c.args.last key.challenge) c.stored_challenge.ensures))
    (c.key_difference-difference.ensures ∙ ap (option_map (λ old. key_difference old key)) c.stored_key.ensures) c.in-None.is
