-- One name to unfold where a thumbprint is computed from a key that is written out.
use Rattle.std.specs.Prelude.{⊤}
use Rattle.sha2.specs.Sha256.{compress, digest_bytes, first_words, hash_after, rounds, schedule, sha256}

unfoldable pub hashing : ⊤
unfolding compress digest_bytes first_words hash_after rounds schedule sha256
hashing = tt
