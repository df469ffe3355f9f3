use Rattle.std.proofs.Common.{inl, inr}
use Rattle.sqlite.specs.Held.{state}
use Rattle.desk_files.proofs.Opened.{early_survives, same_left}
use Rattle.desk_files.proofs.tables.open_tables.Goals as goal

pub returns-in-Ok-clause-opened : goal.returns-in-Ok-clause-opened
returns-in-Ok-clause-opened g c clean T has = elim has [
  | inl desk ↦ c.in-Ok.ensures.kept clean T desk
  | inr first ↦ c.in-Ok.ensures.upgraded clean T first
]

pub returns-in-Err-clause-unopened : goal.returns-in-Err-clause-unopened
returns-in-Err-clause-unopened g c clean T has = elim has [
  | inl desk ↦ c.in-Err.ensures.desk clean T desk
  | inr first ↦ c.in-Err.ensures.first clean T first
]

pub returns-in-Err-clause-left : goal.returns-in-Err-clause-left
returns-in-Err-clause-left g c clean is_open trees may = elim (c.in-Err.ensures.left.crash clean trees may) [
  | inl was ↦ inl (g.met.A.Store.settled c.args.conn.store trees is_open was)
  | inr is ↦ inr is
]

pub returns-in-Err-clause-spared : goal.returns-in-Err-clause-spared
returns-in-Err-clause-spared g c early clean is_open =
    let old = state g.A.Store c.args.conn in
    let new = state g.A.Store c.in-Err.unopened.conn in
    same_left old new (early_survives c.in-Err.unopened.fault old new early c.in-Err.ensures.refused c.in-Err.ensures.spared) clean
    (λ trees may. g.met.A.Store.settled c.args.conn.store trees is_open may)
