use Rattle.model_laws.proofs.Local.{swept_part, sweep_changes_local, changes_local, find_part, filter_part}
use Rattle.model_laws.proofs.{Chain.effect_part, Chain.effects_part, Chain.part_recorded, ReadRows.may_local}
use Rattle.model_laws.proofs.parts_are_enough.Goals as goal

pub returns : goal.returns
returns c =
    record {
      finds = (find_part, find_part, find_part, find_part);
      filters = (filter_part, filter_part, filter_part, filter_part);
      may_follow = may_local;
      swept = swept_part;
      effect = effect_part;
      effects = effects_part;
      sweep_changes = sweep_changes_local;
      changes = changes_local;
      recorded = part_recorded;
    }
