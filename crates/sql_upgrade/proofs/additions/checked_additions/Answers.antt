use Rattle.std.proofs.Common.{◌≡◌, refl, subst, sym, ◌∙◌}
use Rattle.std.specs.Prelude.{IsSome}
use Rattle.sqlite.specs.Held.{state}
use Rattle.sql_upgrade.specs.{Checked.AreChecked, FoundKeys.HasKeys, FoundKeys.LacksThumbs, FoundKeys.ShowsThumbs}
use Rattle.sql_upgrade.proofs.{FoundKeysAre.found_keys_are, KeysThere.no_keys}
use Rattle.sql_read.proofs.FirstChecked.{reads_ok, tables_then}
use Rattle.sql_upgrade.proofs.additions.checked_additions.Goals as goal

pub returns-in-Ok-Some : goal.returns-in-Ok-Some
returns-in-Ok-Some g c =
    let store = g.S.Store in
    let old = c.args.conn.now in
    let mid = c.first_meta.new.conn in
    tables_then store (AreChecked store old) (HasKeys store (state store mid).now c.in-Ok-Some.meta) old mid c.with_keys.new.conn c.with_keys.result
    (λ clean additions has.
    let book = c.in-Ok-Some.ensures.book clean (subst IsSome (sym c.in-Ok-Some.field-0-is) refl) in
    let found = subst (λ db. ShowsThumbs store db additions.keys.items) (c.in-Ok-Some.ensures.unchanged clean).0.now_is has.found in
    record {
      stored = book.0;
      shown = book.1;
      book = book.2;
      is_book = book.3;
      added = λ T desk.
          let both = sym c.in-Ok-Some.field-0-is ∙ c.in-Ok-Some.ensures.found clean T desk.holds desk.book in
          let same : c.in-Ok-Some.meta ≡ T.meta = cc both in
          record {
            meta = has.same ∙ same;
            keys = found_keys_are store old T desk additions.keys.items found;
          };
    })
    (λ clean lacks. no_keys store old (subst (LacksThumbs store) (c.in-Ok-Some.ensures.unchanged clean).0.now_is lacks))
    c.in-Ok-Some.ensures.unchanged c.in-Ok-Some.ensures.asks c.with_keys.ensures

pub returns-in-Ok-None : goal.returns-in-Ok-None
returns-in-Ok-None g c =
    reads_ok g.S.Store (λ clean. c.in-Ok-None.ensures.none clean c.in-Ok-None.field-0-is) c.in-Ok-None.ensures.unchanged c.in-Ok-None.ensures.asks
