-- What a router finds: bytes one by one, and a number in the place of a parameter.
use Rattle.std.proofs.Common.{◌≡◌, ◌≢◌, ℕ, zero, suc, ◌+◌, ◌-◌, ◌<◌, List, [], ◌∷◌, ◌++◌, length, drop, Some, None, Bool, true, false, refl, sym, ap, ◌∙◌}
use Rattle.std.proofs.Common.{arith, nat_eq, ◌==◌, ltb, ◌&&◌, append-nil}
use Rattle.std.proofs.{lemmas.Bool.lt-ltb, lemmas.Bool.ne_eqb, lemmas.Bool.Decides.nat_tests, lemmas.List.length-append, Math.Seq.drop-append_seam}
use Rattle.std.specs.{Char.digit_value, Cmp.Lexicographic.pointwise, Str.Parse.AllDigits}
use Rattle.matchit.specs.{Rows.RowsOf, Seek.cuts, Seek.has_slash, Seek.or_else, Seek.own, Seek.param_step, Seek.seek, Seek.segment, Seek.step}

-- ---- texts of digits

-- a digit is no slash
no_digit_is_slash : (d : ℕ) → digit_value d < 10 → d ≢ 47
no_digit_is_slash d l q = omega (arith, rw q at l)

-- nor the token for a parameter
no_digit_is_param : (d : ℕ) → digit_value d < 10 → (256 == d) ≡ false
no_digit_is_param d l = ne_eqb 256 d (λ q. omega (arith, rw (sym q) at l))

-- a text of digits has no slash
pub no_slash : (ds : List ℕ) → AllDigits 10 ds → has_slash ds ≡ false
no_slash [] h = refl
no_slash (d ∷ ds) h = rw (ne_eqb d 47 (no_digit_is_slash d h.0)) (no_slash ds h.1)

-- all digits but the first
one_less : (d : ℕ) (ds : List ℕ) → length (d ∷ ds) - 1 ≡ length ds
one_less d ds = omega arith

-- ---- segments of a text of digits

-- the segment at the beginning of a text, up to its first slash
pub segment_before : (ds rest : List ℕ) → AllDigits 10 ds → segment (ds ++ 47 ∷ rest) ≡ ds ++ 47 ∷ []
segment_before [] rest h = refl
segment_before (d ∷ ds) rest h = rw (ne_eqb d 47 (no_digit_is_slash d h.0)) (ap (λ t. d ∷ t) (segment_before ds rest h.1))

-- without a slash it is the whole text
pub segment_whole : (ds : List ℕ) → AllDigits 10 ds → segment ds ≡ ds
segment_whole [] h = refl
segment_whole (d ∷ ds) h = rw (ne_eqb d 47 (no_digit_is_slash d h.0)) (ap (λ t. d ∷ t) (segment_whole ds h.1))

-- digits end with no slash
pub ends_with_digit : (d : ℕ) (ds : List ℕ) → AllDigits 10 (d ∷ ds) → pointwise nat_eq (47 ∷ []) (drop (length ds) (d ∷ ds)) ≡ false
ends_with_digit d [] h = let n : 47 ≢ d = λ q. no_digit_is_slash d h.0 (sym q) in grind (arith, nat_tests)
ends_with_digit d (c ∷ cs) h = ends_with_digit c cs h.1

-- a suffix of a slash does not cut digits
cuts_no_digits : (d : ℕ) (ds : List ℕ) → AllDigits 10 (d ∷ ds) → cuts (segment (d ∷ ds)) (47 ∷ []) ≡ false
cuts_no_digits d ds h =
    rw (segment_whole (d ∷ ds) h, one_less d ds, ends_with_digit d ds h) (by (ltb 1 (length (d ∷ ds))))
  where
    by : (v : Bool) → (v && false) ≡ false
    by true = refl
    by false = refl

-- but it does cut what goes on with a slash
cuts_slash : (d : ℕ) (ds w : List ℕ) → AllDigits 10 (d ∷ ds) → cuts (segment (d ∷ ds ++ 47 ∷ w)) (47 ∷ []) ≡ true
cuts_slash d ds w h =
    let len : length (ds ++ 47 ∷ []) ≡ length ds + 1 = length-append ds (47 ∷ []) in
    let e : length (d ∷ ds ++ 47 ∷ []) - 1 ≡ length (d ∷ ds) = omega (arith, len) in
    let more : ltb 1 (length (d ∷ ds ++ 47 ∷ [])) ≡ true = lt-ltb 1 (length (d ∷ ds ++ 47 ∷ [])) (omega (arith, len)) in
    rw (segment_before (d ∷ ds) w h, more, e, drop-append_seam (d ∷ ds) (47 ∷ [])) refl

module _ {K : Type 0} where
  -- no rows leave no rows
  param_of_none : (p : List ℕ) → (param_step {K = K} [] p).1 ≡ []
  unfolding param_step
  param_of_none p = grind arith

  -- no rows, no route
  seek_none : (k : ℕ) (p : List ℕ) → seek {K = K} k [] p ≡ None
  unfolding seek
  seek_none k [] = refl
  seek_none (suc k) (b ∷ p) = seek_none k p
  seek_none zero (b ∷ p) = simp (seek_none 0 p, param_of_none (b ∷ p), seek_none (((param_step {K = K} [] (b ∷ p)).0) - 1) p)

  -- what is skipped is not looked at
  seek_behind : (rs : RowsOf K) (w p : List ℕ) → seek (length w) rs (w ++ p) ≡ seek 0 rs p
  unfolding seek
  seek_behind rs [] p = refl
  seek_behind rs (b ∷ w) p = seek_behind rs w p

  -- the rows that go on with these bytes, with the bytes gone
  abbrev pub steps : List ℕ → RowsOf K → RowsOf K
  steps [] rs = rs
  steps (b ∷ w) rs = steps w (step b rs)

  -- a route that is found behind some bytes is found by them
  pub seek_by : (w : List ℕ) (rs : RowsOf K) (p : List ℕ) (k : K) → seek 0 (steps w rs) p ≡ Some k → seek 0 rs (w ++ p) ≡ Some k
  unfolding seek
  seek_by [] rs p k h = h
  seek_by (b ∷ w) rs p k h = rw (seek_by w (step b rs) p k h) refl

  -- a byte that no row has, and then what a parameter takes
  at_number : (d : ℕ) (ds : List ℕ) (rs : RowsOf K) → step d rs ≡ []
      → seek 0 rs (d ∷ ds)
      ≡ or_else (seek ((param_step (step 256 rs) (d ∷ ds)).0 - 1) (param_step (step 256 rs) (d ∷ ds)).1 ds) (own (step 257 rs))
  unfolding seek
  at_number d ds rs h = rw (h, seek_none 0 ds) refl

  -- a parameter that takes the digits leads to what is found of the rest
  by_parameter : (d : ℕ) (ds rest : List ℕ) (rs left : RowsOf K) (k : K) → step d rs ≡ []
      → param_step (step 256 rs) (d ∷ ds ++ rest) ≡ (length (d ∷ ds), left) → seek 0 left rest ≡ Some k → seek 0 rs (d ∷ ds ++ rest) ≡ Some k
  unfolding seek
  by_parameter d ds rest rs left k none takes there =
      at_number d (ds ++ rest) rs none ∙ rw (takes, one_less d ds, seek_behind left ds rest, there) refl

  -- ---- a route that ends with its number

  -- a parameter takes all of a text without a slash
  takes_all : (ds : List ℕ) (k : K) → has_slash ds ≡ false → param_step (([], k) ∷ []) ds ≡ (length ds, ([], k) ∷ [])
  unfolding param_step
  takes_all ds k h = rw h refl

  -- it is found where it stands alone
  pub number_alone : (d : ℕ) (ds : List ℕ) (k : K) → AllDigits 10 (d ∷ ds) → seek 0 ((256 ∷ [], k) ∷ []) (d ∷ ds ++ []) ≡ Some k
  unfolding seek
  number_alone d ds k h =
      by_parameter d ds [] ((256 ∷ [], k) ∷ []) (([], k) ∷ []) k (rw (no_digit_is_param d h.0) refl)
      (rw (append-nil ds) (takes_all (d ∷ ds) k (no_slash (d ∷ ds) h))) refl

  -- ---- beside a route that goes on behind its number

  module _ (d : ℕ) (ds w : List ℕ) (j k : K) (h : AllDigits 10 (d ∷ ds)) where
    -- a parameter takes all digits
    takes_all_of_two : param_step ((47 ∷ w, j) ∷ ([], k) ∷ []) (d ∷ ds) ≡ (length (d ∷ ds), (47 ∷ w, j) ∷ ([], k) ∷ [])
    unfolding param_step
    takes_all_of_two = rw (cuts_no_digits d ds h, no_slash (d ∷ ds) h) refl

    -- or the digits before a slash
    takes_to_slash : param_step ((47 ∷ w, j) ∷ ([], k) ∷ []) (d ∷ ds ++ 47 ∷ w) ≡ (length (d ∷ ds), (47 ∷ w, j) ∷ [])
    unfolding param_step
    takes_to_slash =
        let len : length (ds ++ 47 ∷ []) ≡ length ds + 1 = length-append ds (47 ∷ []) in
        let e : length (segment (d ∷ ds ++ 47 ∷ w)) - 1 ≡ length (d ∷ ds) = rw (segment_before (d ∷ ds) w h) (omega (arith, len)) in
        rw (cuts_slash d ds w h) (ap (λ n. (n, (47 ∷ w, j) ∷ [])) e)

    -- it is found where the number ends the path
    pub number_at_end : seek 0 ((256 ∷ 47 ∷ w, j) ∷ (256 ∷ [], k) ∷ []) (d ∷ ds ++ []) ≡ Some k
    unfolding seek
    number_at_end =
        by_parameter d ds [] ((256 ∷ 47 ∷ w, j) ∷ (256 ∷ [], k) ∷ []) ((47 ∷ w, j) ∷ ([], k) ∷ []) k (rw (no_digit_is_param d h.0) refl)
        (rw (append-nil ds) takes_all_of_two) refl

    -- and the other where the path goes on
    pub number_before : seek 0 ((47 ∷ w, j) ∷ []) (47 ∷ w) ≡ Some j → seek 0 ((256 ∷ 47 ∷ w, j) ∷ (256 ∷ [], k) ∷ []) (d ∷ ds ++ 47 ∷ w) ≡ Some j
    unfolding seek
    number_before there =
        by_parameter d ds (47 ∷ w) ((256 ∷ 47 ∷ w, j) ∷ (256 ∷ [], k) ∷ []) ((47 ∷ w, j) ∷ []) j (rw (no_digit_is_param d h.0) refl) takes_to_slash there
