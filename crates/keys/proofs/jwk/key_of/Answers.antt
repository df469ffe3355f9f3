use Rattle.std.proofs.Common.{sym}
use Rattle.serde_json.specs.View.{view}
use Rattle.keys.proofs.KeyReadings.{text_computed}
use Rattle.keys.proofs.jwk.key_of.Goals as goal

pub returns-in-Ok : goal.returns-in-Ok
returns-in-Ok c = sym (text_computed (view c.args.value.now) _ c.in-Ok.ensures.key.0 c.in-Ok.ensures.key.1 c.in-Ok.ensures.key.2)
