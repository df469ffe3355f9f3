-- SQL's tests of a column are the model's.
use Rattle.std.proofs.Common.{◌≡◌, ℕ, ℤ, pos, ◌≤◌, ◌&&◌, List, true, ◌∙◌, arith, int_cmp, nat_cmp}
use Rattle.std.proofs.{lemmas.Map.Text.is_eq-slice_cmp, Math.Bool.and-true}
use Rattle.std.specs.{Prelude.◌==◌, Prelude.nat_lt, Prelude.bytes_eq, Ordering.is_eq, Ordering.is_gt, Ordering.is_lt, Cmp.Lexicographic.slice_cmp}
use Rattle.sqlite.specs.declared.types.Value.TheVariants.{Int, Text}
use Rattle.sqlite_value.specs.declared.keys.Collation.TheVariants.{Binary}
use Rattle.sqlite_value.proofs.OrderLemmas.{value_cmp-Int, value_cmp-Text}
use Rattle.sqlite_sql.specs.declared.ops.CompareOp.TheVariants.{Eq, Gt, Lt}
use Rattle.sqlite_sql.specs.{declared.ops.BinaryOp.TheVariants.Compare, Ops.binary, Ops.is_true}
use Rattle.sql_tables.proofs.{Found.equal_is, Found.told, Keyed.three}
use Rattle.sql_read.specs.Bounded.{bounded}
use Rattle.desk_model.specs.Limits.{last_number}

-- ---- numbers

-- SQL's `=`
pub eq_as : (a b : ℕ) → is_eq (three a b) ≡ (a == b)
eq_as a b = grind arith

-- SQL's `<`
pub lt_as : (a b : ℕ) → is_lt (three a b) ≡ nat_lt a b
lt_as a b = grind arith

-- SQL's `<` of two numbers
less_is : (m n : ℤ) → is_true (binary (Compare Lt Binary) (Int m) (Int n)) ≡ is_lt (int_cmp m n)
unfolding binary
less_is m n = rw (value_cmp-Int m n) (told (is_lt (int_cmp m n)))

-- SQL's `=` of two texts
text_is : (s t : List ℕ) → is_true (binary (Compare Eq Binary) (Text s) (Text t)) ≡ is_eq (slice_cmp nat_cmp s t)
unfolding binary
text_is s t = rw (value_cmp-Text s t) (told (is_eq (slice_cmp nat_cmp s t)))

-- a number is the one that is looked for
pub is_number : (a n : ℕ) → is_true (binary (Compare Eq Binary) (Int (pos a)) (Int (pos n))) ≡ (a == n)
is_number a n = equal_is (pos a) (pos n) ∙ eq_as a n

-- and alone in WHERE
pub number_test : (a n : ℕ) → (is_true (binary (Compare Eq Binary) (Int (pos a)) (Int (pos n))) && true) ≡ (a == n)
number_test a n = and-true _ ∙ is_number a n

-- a number is below a limit
pub is_below : (a n : ℕ) → is_true (binary (Compare Lt Binary) (Int (pos a)) (Int (pos n))) ≡ nat_lt a n
is_below a n = less_is (pos a) (pos n) ∙ lt_as a n

-- and alone in WHERE
pub below_test : (a n : ℕ) → (is_true (binary (Compare Lt Binary) (Int (pos a)) (Int (pos n))) && true) ≡ nat_lt a n
below_test a n = and-true _ ∙ is_below a n

-- SQL's `>`
gt_as : (a b : ℕ) → is_gt (three a b) ≡ nat_lt b a
gt_as a b = grind arith

-- SQL's `>` of two numbers
more_is : (m n : ℤ) → is_true (binary (Compare Gt Binary) (Int m) (Int n)) ≡ is_gt (int_cmp m n)
unfolding binary
more_is m n = rw (value_cmp-Int m n) (told (is_gt (int_cmp m n)))

-- a number alone in WHERE is above a limit
pub above_test : (a n : ℕ) → (is_true (binary (Compare Gt Binary) (Int (pos a)) (Int (pos n))) && true) ≡ nat_lt n a
above_test a n = and-true _ ∙ more_is (pos a) (pos n) ∙ gt_as a n

-- ---- texts

-- a text is the one that is looked for
pub is_text : (s t : List ℕ) → is_true (binary (Compare Eq Binary) (Text s) (Text t)) ≡ bytes_eq s t
is_text s t = text_is s t ∙ is_eq-slice_cmp s t

-- and alone in WHERE
pub text_test : (s t : List ℕ) → (is_true (binary (Compare Eq Binary) (Text s) (Text t)) && true) ≡ bytes_eq s t
text_test s t = and-true _ ∙ is_text s t

-- a text beside a limit
pub text_below_test : (s t : List ℕ) (a n : ℕ)
    → (is_true (binary (Compare Eq Binary) (Text s) (Text t)) && (is_true (binary (Compare Lt Binary) (Int (pos a)) (Int (pos n))) && true))
    ≡ (bytes_eq s t && nat_lt a n)
text_below_test s t a n = λ i. is_text s t i && below_test a n i

-- a number beside a text
pub number_text_test : (a n : ℕ) (s t : List ℕ)
    → (is_true (binary (Compare Eq Binary) (Int (pos a)) (Int (pos n))) && (is_true (binary (Compare Eq Binary) (Text s) (Text t)) && true))
    ≡ ((a == n) && bytes_eq s t)
number_text_test a n s t = λ i. is_number a n i && text_test s t i

-- ---- numbers that SQL does not have

-- no number of a row is the greatest of SQL, or above it
pub same_bounded : (a n : ℕ) → a ≤ last_number → (a == bounded n) ≡ (a == n)
same_bounded a n low = grind arith

-- no number of a row is above the greatest of SQL
pub above_bounded : (a n : ℕ) → a ≤ last_number → nat_lt (bounded n) a ≡ nat_lt n a
above_bounded a n low = grind arith
