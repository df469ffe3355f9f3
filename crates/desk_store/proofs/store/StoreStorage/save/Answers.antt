use Rattle.std.proofs.Common.{List, subst}
use Rattle.desk_model.specs.declared.rows.Change.{Change}
use Rattle.sql_write.specs.Stored.{IsPartOf}
use Rattle.store_api.specs.Storing.{IsCutFrom, SavesOf}
use Rattle.desk_store.specs.Desks.{store_sight}
use Rattle.desk_store.proofs.SavedDesks.{part_found, saves_of}
use Rattle.desk_store.proofs.store.StoreStorage.save.Goals as goal

pub returns-clause-saves : goal.returns-clause-saves
returns-clause-saves g c =
    let part = c.args.part.now in
    let old = c.args.self.now in
    let new = c.save.new.self in
    let r = c.save.result in
    subst (λ (cs : List Change). SavesOf (store_sight g.S.Store) (IsCutFrom part) cs old new r) c.as_slice.ensures.value
    (saves_of (store_sight g.S.Store) (IsPartOf part) (IsCutFrom part) c.as_slice.result.now old new r
    (λ T cut has. part_found part T cut has.desk.desk.holds.rising) c.save.ensures.saves)
