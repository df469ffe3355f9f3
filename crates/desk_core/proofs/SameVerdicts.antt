-- The verdict on a signed request looks at no nonce.
use Rattle.std.proofs.Common.{◌≡◌, ℕ, List, ap, rules}
use Rattle.desk_model.specs.{Tables.Tables, Rules.signed_verdict, declared.call.Signed.Signed}
use Rattle.desk_core.specs.SameRows.{SameRows}

-- the tables with the nonces of others
abbrev pub nonces_from : Tables → Tables → Tables
nonces_from U T = record T { nonces = U.nonces; meta = record T.meta { counters = record T.meta.counters { nonces = U.meta.counters.nonces } } }

-- with the same nonces, tables with the same rows are the same
pub same_beside : (T U : Tables) → SameRows T U → nonces_from U T ≡ U
same_beside T U h = search rules

-- tables with the same rows give the same verdict
pub signed_same : (T U : Tables) (r : List ℕ) (s : Signed) → SameRows T U → signed_verdict T r s ≡ signed_verdict U r s
signed_same T U r s h = ap (λ X. signed_verdict X r s) (same_beside T U h)
