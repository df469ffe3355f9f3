-- Bytes read in steps.
use Rattle.std.proofs.Common.{◌≡◌, ◌≤◌, ◌+◌, ℕ, List, [], ◌++◌, take, drop, length, arith, sym, ◌∙◌, ap, Option, Some, None, Result, Ok, Err, append_assoc}
use Rattle.std.proofs.Common.{append-nil}
use Rattle.std.proofs.KnownBytes.{Consumes-trans, Consumes-nil, Consumes-kept}
use Rattle.std.proofs.{lemmas.List.length-append, lemmas.List.length-take, Math.Seq.take-add}
use Rattle.std.specs.{Prelude.OnErr, Io.KnownBytes.Consumes, Io.KnownBytes.Keeps}
use Rattle.http_wire.specs.Head.{Adds, TakesAtMost}

-- bytes read behind earlier ones are consumed with them
pub consumes_more : (a b c : Option (List ℕ)) (n m : ℕ) (old new : List ℕ)
    → Consumes a b (take n old) → Consumes b c (take m (drop n new)) → take n new ≡ take n old
    → Consumes a c (take (n + m) new)
consumes_more a b c n m old new h k e =
    rw (take-add n m new, e) (Consumes-trans a b c (take n old) (take m (drop n new)) h k)

-- nothing was read
pub adds_none : (a : Option (List ℕ)) (x : List ℕ) → Adds a a x x
adds_none a x = ([], sym (append-nil x), Consumes-nil a)

-- bytes read behind earlier ones are added to them
pub adds_more : (a b c : Option (List ℕ)) (x : List ℕ) (n m : ℕ) (old new : List ℕ)
    → Adds a b x (take n old) → Consumes b c (take m (drop n new)) → take n new ≡ take n old → Adds a c x (take (n + m) new)
adds_more a b c x n m old new h k e = (
  h.0 ++ take m (drop n new),
  take-add n m new ∙ (ap (λ l. l ++ take m (drop n new)) (e ∙ h.1) ∙ append_assoc x h.0 (take m (drop n new))),
  Consumes-trans a b c h.0 (take m (drop n new)) h.2 k,
)

-- what is consumed of what was kept is consumed
pub kept_consumes : (a b c : Option (List ℕ)) (bytes : List ℕ) → Keeps a b → Consumes b c bytes → Consumes a c bytes
kept_consumes None b c bytes k e = tt
kept_consumes (Some xs) None c bytes k e = absurd k
kept_consumes (Some xs) (Some ys) None bytes k e = absurd e
kept_consumes (Some xs) (Some ys) (Some zs) bytes k e = sym k ∙ e

-- ---- how much is taken at most

-- nothing
pub takes_none : (a : Option (List ℕ)) (most : ℕ) → TakesAtMost a a most
takes_none a most = ([], Consumes-nil a, omega arith)

-- what was read behind earlier bytes, before a read failed
pub takes_added : (a b c : Option (List ℕ)) (x buffer : List ℕ) (n most : ℕ) → n ≤ length x + most → Adds a b x (take n buffer) → Keeps b c
    → TakesAtMost a c most
takes_added a b c x buffer n most le k kept = (
  k.0,
  Consumes-kept a b c k.0 k.2 kept,
  let e : length (take n buffer) ≡ length (x ++ k.0) = ap length k.1 in omega (arith, e, length-append x k.0, length-take n buffer),
)

-- one after the other
pub takes_then : (a b c : Option (List ℕ)) (n m : ℕ) → TakesAtMost a b n → TakesAtMost b c m → TakesAtMost a c (n + m)
takes_then a b c n m h k = (
  h.0 ++ k.0,
  Consumes-trans a b c h.0 k.0 h.1 k.1,
  omega (arith, length-append h.0 k.0, h.2, k.2),
)

-- more may be taken
pub takes_within : (a b : Option (List ℕ)) (n m : ℕ) → n ≤ m → TakesAtMost a b n → TakesAtMost a b m
takes_within a b n m le h = (h.0, h.1, omega (arith, h.2))

-- what holds however a read ended holds where it failed
pub where_failed : {A E : Type 0} (res : Result A E) (P : Type 0) → P → OnErr res P
where_failed (Ok x) P p = tt
where_failed (Err x) P p = p
