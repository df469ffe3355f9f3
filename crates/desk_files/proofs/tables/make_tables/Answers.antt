use Rattle.std.proofs.Common.{◌≡◌, false, inl, inr, refl, subst, sym}
use Rattle.sqlite.specs.Held.{state}
use Rattle.desk_store.specs.{Making.has_objects, declared.open_fault.OpenFault.TheVariants.NotADesk}
use Rattle.desk_files.proofs.tables.make_tables.Goals as goal

pub returns-in-Err-clause-unmade : goal.returns-in-Err-clause-unmade
returns-in-Err-clause-unmade g c clean none is_open =
    let free = subst (λ schema. has_objects schema ≡ false) (sym none) refl in
    let failed = c.in-Err.ensures.failed free in
    record {
      fault = (failed.0, failed.1);
      left = λ trees may. elim ((c.in-Err.ensures.left free).crash clean trees may) [
        | inl was ↦ inl (g.met.A.Store.settled c.args.conn.store trees is_open was)
        | inr made ↦ inr (made none)
      ];
    }

pub returns-in-Err-clause-taken : goal.returns-in-Err-clause-taken
returns-in-Err-clause-taken g c taken is_open =
    let e = c.in-Err.ensures.taken taken in
    let same : c.in-Err.unmade.conn ≡ c.args.conn = cc in
    let why : c.in-Err.unmade.fault ≡ NotADesk = cc in
    record {
      fault = why;
      left = λ trees may. g.met.A.Store.settled c.args.conn.store trees is_open (subst (λ conn. (state g.A.Store conn).may_leave trees) same may);
    }
