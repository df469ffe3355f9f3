use Rattle.std.proofs.{lemmas.Result.on_ok_weaker, Common.◌∙◌, Common.ap, Common.refl, Common.sym}
use Rattle.sqlite.proofs.StateLemmas.{survives_weaker}
use Rattle.sqlite.specs.Held.{state}
use Rattle.sql_schema.proofs.StaysLemmas.{asks_nothing}
use Rattle.sql_schema.specs.Names.{has_all_indexes, uses_key_table}
use Rattle.desk_store.proofs.EitherFormat.{always_err, any_fault, back_asked, desk_indexes, first_indexes, lacks_keys, left_asked, not_both, uses_keys}
use Rattle.desk_store.proofs.EitherFormat.{whole_by, whole_first_by}
use Rattle.desk_store.proofs.{Books.always_ok, Failing.asked_to_open, Failing.leaves_nothing}
use Rattle.desk_store.proofs.opening.open_known.Goals as goal

-- ---- an index is missing

pub returns-then-not-has_indexes-clause-opens : goal.returns-then-not-has_indexes-clause-opens
returns-then-not-has_indexes-clause-opens g c =
    let old = state g.S.Store c.args.conn.now in
    let asks = asks_nothing old in
    let has = c.has_indexes.ensures ∙ ap has_all_indexes c.schema.ensures.value in
    record {
      asks = λ uses. asks;
      unchanged = λ uses clean. tt;
      upgraded = λ clean. tt;
      back = back_asked old old asks;
      left = left_asked old old asks;
      spared = λ memory. asks.survives;
      whole = λ clean. tt;
      whole_first = λ clean. tt;
      desk = λ clean T desk. not_both _ _ has (desk_indexes _ desk.desk.holds.schema) c.if-not-has_indexes.true;
      first = λ clean T first. not_both _ _ has (first_indexes _ first.desk.holds.schema) c.if-not-has_indexes.true;
      failed = leaves_nothing old old asks.survives;
      answering = λ clean memory. absurd (let e = memory in cc);
    }

pub returns-then-uses_key_table-clause-opens : goal.returns-then-uses_key_table-clause-opens
returns-then-uses_key_table-clause-opens g c =
    let old = state g.S.Store c.args.conn.now in
    let new = state g.S.Store c.check_rows.new.conn in
    let result = c.check_rows.result in
    let reads = c.check_rows.ensures in
    let indexes = sym (c.has_indexes.ensures ∙ ap has_all_indexes c.schema.ensures.value) ∙ c.if-not-has_indexes.false in
    let uses = sym (c.uses_key_table.ensures ∙ ap uses_key_table c.schema-2.ensures.value) ∙ c.if-uses_key_table.true in
    record {
      asks = λ uses. reads.asks;
      unchanged = λ uses. reads.unchanged;
      upgraded = λ clean. always_ok result (λ T has. not_both _ _ refl uses (lacks_keys _ has.desk.holds.schema));
      back = λ settled clean. always_err result (back_asked old new reads.asks settled clean);
      left = left_asked old new reads.asks;
      spared = λ memory. reads.asks.survives;
      whole = λ clean. on_ok_weaker result (λ shows uses. whole_by g.S.Store c.args.conn.now indexes shows) (reads.shown clean);
      whole_first = λ clean. always_ok result (λ lacks. not_both _ _ refl uses lacks);
      desk = reads.desk;
      first = λ clean. any_fault _ result (λ why T has. not_both _ _ refl uses (lacks_keys _ has.desk.holds.schema));
      failed = asked_to_open g.S.Store c.args.conn.now c.check_rows.new.conn result reads.asks reads.met;
      answering = reads.answering;
    }

pub returns-else-uses_key_table-clause-opens : goal.returns-else-uses_key_table-clause-opens
returns-else-uses_key_table-clause-opens g c =
    let old = state g.S.Store c.args.conn.now in
    let new = state g.S.Store c.upgrade_desk.new.conn in
    let result = c.upgrade_desk.result in
    let upgrade = c.upgrade_desk.ensures in
    let indexes = sym (c.has_indexes.ensures ∙ ap has_all_indexes c.schema.ensures.value) ∙ c.if-not-has_indexes.false in
    let lacks = sym (c.uses_key_table.ensures ∙ ap uses_key_table c.schema-2.ensures.value) ∙ c.if-uses_key_table.false in
    record {
      asks = λ uses. not_both _ _ refl uses lacks;
      unchanged = λ uses. not_both _ _ refl uses lacks;
      upgraded = upgrade.upgraded;
      back = upgrade.back;
      left = survives_weaker old new _ _ (λ clean trees desk. record { first = lacks; desk = desk }) upgrade.left;
      spared = upgrade.spared;
      whole = λ clean. always_ok result (λ uses. not_both _ _ refl uses lacks);
      whole_first = λ clean. on_ok_weaker result (λ shows lacks. whole_first_by g.S.Store c.args.conn.now indexes shows) (upgrade.shown clean);
      desk = λ clean. any_fault _ result (λ why T has. not_both _ _ refl (uses_keys _ has.desk.holds.schema) lacks);
      first = upgrade.desk;
      failed = upgrade.failed;
      answering = upgrade.answering;
    }
