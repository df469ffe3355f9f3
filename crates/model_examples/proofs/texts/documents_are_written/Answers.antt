use Rattle.std.proofs.Common.{inl, refl}
use Rattle.model_examples.proofs.texts.documents_are_written.Goals as goal
use Rattle.model_examples.proofs.Computing.{computing}
use Rattle.model_examples.specs.Documents.{KeyRead}

-- the key is read, with its curve
key_read : KeyRead
unfolding computing
key_read = (refl, (refl, inl refl, refl, refl))

pub returns : goal.returns
unfolding computing
returns c = assumption key_read
