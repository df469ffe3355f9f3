use Rattle.std.proofs.{Common.arith, lemmas.Bool.Decides.nat_tests}
use Rattle.keys.proofs.NonceTexts.{nonce_in-written}
use Rattle.keys.proofs.texts.read_nonce.Goals as goal

pub returns-clause-value : goal.returns-clause-value
returns-clause-value c = grind (arith, nat_tests, nonce_in-written)
