use Rattle.std.proofs.Common.{◌≡◌, ◌∙◌, arith, subst, sym}
use Rattle.sqlite.specs.{Files.IsEmpty, Files.file_state, State.HasCleanDisk, Tree.Trees, WalFiles.image_at}
use Rattle.desk_store.proofs.NewDesks.{bare_is_none}
use Rattle.desk_store.specs.Making.{has_objects}
use Rattle.desk_files.specs.LeftFiles.{files_have}
use Rattle.desk_files.proofs.Opened.{by_cases, files_found, new_desk_left, nothing_found, opening_left, taken_left}
use Rattle.desk_files.proofs.{Finding.in_todays, Finding.keeps_within, Refused.if_there}
use Rattle.desk_files.proofs.opening.begin_from.Goals as goal

pub returns-in-Ok-begin-clause-opened : goal.returns-in-Ok-begin-clause-opened
returns-in-Ok-begin-clause-opened g c none clean files same T has =
    let conn = c.in-Ok.ensures in
    let opened = c.in-Ok-begin.ensures in
    let found = files_found _ c.in-Ok.conn conn.fresh conn.opened conn.found (file_state c.in-Ok-begin.store.conn) opened.honest clean files same in
    keeps_within _ files_have _ in_todays c.in-Ok-begin.store T (opened.opened none clean T (found.desk T has))

pub returns-in-Ok-begin-clause-made : goal.returns-in-Ok-begin-clause-made
returns-in-Ok-begin-clause-made g c =
    let conn = c.in-Ok.ensures in
    let made = c.in-Ok-begin.ensures in
    if_there c.args.first made.made (λ first it clean.
    keeps_within _ files_have _ in_todays c.in-Ok-begin.store _ (it clean conn.fresh.unlimited))

pub returns-in-Err-begin-clause-unopened : goal.returns-in-Err-begin-clause-unopened
returns-in-Err-begin-clause-unopened g c none clean files same T has =
    let conn = c.in-Ok.ensures in
    let failed = c.in-Err-begin.ensures in
    let found = files_found _ c.in-Ok.conn conn.fresh conn.opened conn.found (file_state c.in-Err-begin.unopened.conn) failed.honest clean files same in
    failed.unopened none clean T (found.desk T has)

pub returns-in-Err-begin-clause-left : goal.returns-in-Err-begin-clause-left
returns-in-Err-begin-clause-left g c none clean files same trees may =
    let conn = c.in-Ok.ensures in
    let failed = c.in-Err-begin.ensures in
    let found = files_found _ c.in-Ok.conn conn.fresh conn.opened conn.found (file_state c.in-Err-begin.unopened.conn) failed.honest clean files same in
    opening_left files c.in-Ok.conn found trees (failed.left none clean found.is_open trees may)

pub returns-in-Err-begin-clause-spared : goal.returns-in-Err-begin-clause-spared
returns-in-Err-begin-clause-spared g c none early clean files same trees may =
    let conn = c.in-Ok.ensures in
    let failed = c.in-Err-begin.ensures in
    let found = files_found _ c.in-Ok.conn conn.fresh conn.opened conn.found (file_state c.in-Err-begin.unopened.conn) failed.honest clean files same in
    failed.spared none early clean found.is_open trees may ∙ found.trees

pub returns-in-Err-begin-clause-unmade : goal.returns-in-Err-begin-clause-unmade
returns-in-Err-begin-clause-unmade g c =
    let conn = c.in-Ok.ensures in
    let failed = c.in-Err-begin.ensures in
    let was : Trees → Type 0 = λ trees. trees ≡ (file_state c.in-Ok.conn).committed.trees in
    if_there c.args.first failed.unmade (λ first it. record {
      empty = λ clean none.
          let early : HasCleanDisk (file_state c.in-Ok.conn) = omega (arith, failed.honest, clean) in
          let nothing = nothing_found (image_at g.S.Start) c.in-Ok.conn conn.opened conn.found early none in
          new_desk_left first.policy first.at was IsEmpty c.in-Err-begin.unopened.fault (file_state c.in-Err-begin.unopened.conn)
          (λ trees same. subst IsEmpty (sym same) nothing.empty) (it clean nothing.schema nothing.opened.0.is_open);
      bare = λ clean files same none.
          let found = files_found _ c.in-Ok.conn conn.fresh conn.opened conn.found (file_state c.in-Err-begin.unopened.conn) failed.honest clean files same in
          new_desk_left first.policy first.at was (λ trees. trees ≡ files.trees) c.in-Err-begin.unopened.fault
          (file_state c.in-Err-begin.unopened.conn) (λ trees is. is ∙ found.trees) (it clean (sym found.schema ∙ none) found.is_open);
    })

pub returns-in-Ok-begin-clause-free : goal.returns-in-Ok-begin-clause-free
returns-in-Ok-begin-clause-free g c =
    let conn = c.in-Ok.ensures in
    let made = c.in-Ok-begin.ensures in
    if_there c.args.first made.empty (λ first it clean files same.
    let found = files_found _ c.in-Ok.conn conn.fresh conn.opened conn.found (file_state c.in-Ok-begin.store.conn) made.honest clean files same in
    found.schema ∙ it)

pub returns-in-Err-begin-clause-taken : goal.returns-in-Err-begin-clause-taken
returns-in-Err-begin-clause-taken g c =
    let conn = c.in-Ok.ensures in
    let failed = c.in-Err-begin.ensures in
    let schema = (file_state c.in-Ok.conn).now.schema in
    if_there c.args.first failed.taken (λ first it clean files same some.
    let found = files_found _ c.in-Ok.conn conn.fresh conn.opened conn.found (file_state c.in-Err-begin.unopened.conn) failed.honest clean files same in
    taken_left files c.in-Ok.conn found c.in-Err-begin.unopened.fault (file_state c.in-Err-begin.unopened.conn)
    (by_cases (has_objects schema) _ (λ is. it is found.is_open) (λ is. absurd (some (found.schema ∙ bare_is_none schema is)))))

pub returns-in-Err-begin-clause-failed : goal.returns-in-Err-begin-clause-failed
returns-in-Err-begin-clause-failed g c none =
    let conn = c.in-Ok.ensures in
    let failed = c.in-Err-begin.ensures in
    record {
      from = c.in-Ok.conn;
      connects = record { fresh = conn.fresh; opened = conn.opened; found = conn.found };
      failed = failed.failed none;
      newer = failed.newer none;
      no_later = failed.no_later none;
    }

pub returns-in-Ok-begin-clause-shows : goal.returns-in-Ok-begin-clause-shows
returns-in-Ok-begin-clause-shows g c none =
    let conn = c.in-Ok.ensures in
    record {
      from = c.in-Ok.conn;
      connects = record { fresh = conn.fresh; opened = conn.opened; found = conn.found };
      shows = c.in-Ok-begin.ensures.shows none;
    }

pub returns-in-Err-begin-clause-making : goal.returns-in-Err-begin-clause-making
returns-in-Err-begin-clause-making g c =
    let conn = c.in-Ok.ensures in
    let failed = c.in-Err-begin.ensures in
    if_there c.args.first failed.making (λ first it. record {
      from = c.in-Ok.conn;
      connects = record { fresh = conn.fresh; opened = conn.opened; found = conn.found };
      failed = it;
    })
