use Rattle.desk_model.proofs.KeyShapes.{key_of_shape, shape_of_key}
use Rattle.desk_model.proofs.jwk.is_key_text.Goals as goal

pub returns : goal.returns
returns c = (
  λ yes. key_of_shape c.args.text.now (c.has_key_shape.ensures.0 yes),
  λ key. c.has_key_shape.ensures.1 (shape_of_key c.args.text.now key),
)
