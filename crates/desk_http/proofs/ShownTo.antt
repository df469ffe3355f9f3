-- What showing something of a desk does to it: nothing, or what a call does that is declined.
use Rattle.std.proofs.{Common.ℕ, Common.List, Common.Option, Common.Result, Common.inl}
use Rattle.store_api.specs.Sight.{Sight}
use Rattle.desk.specs.{State.DeskState, Meets.ActsOnce}
use Rattle.desk.proofs.LookedAt.{look_acts}
use Rattle.http_routes.specs.declared.looked.Looked.{Looked}
use Rattle.desk_http.specs.{Showing.Shower, Showing.ShowsTo, declared.serving.IoFault.IoFault, declared.serving.Served.Served}
use Rattle.desk_http.specs.Showing.{begun, headless}

module _ {S C : Type 0} (v : Sight S C) (hook : Shower S) (asked : Looked) where
  -- what was asked to be shown does so
  pub shows_acts : (before after : Option (List ℕ)) (old new : DeskState S) (served : Result Served IoFault) → ShowsTo v hook asked before after old new served
      → ActsOnce v old new
  shows_acts before after old new served (headless same failed) = inl same
  shows_acts before after old new served (begun mid head it) = look_acts v old new it.looked (hook.Shows asked) mid it.mid it.looks
