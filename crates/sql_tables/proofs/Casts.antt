-- Values that their columns keep as they are.
use Rattle.std.proofs.Common.{◌≡◌, ℕ, ℤ, cond, List, [], ◌∷◌, Bool, Option, refl, ap, ◌∙◌, rules}
use Rattle.sqlite.specs.{declared.types.Value.Value, declared.types.Value.TheVariants.Null, declared.types.Value.TheVariants.Int, Kind.TheVariants.Integer}
use Rattle.sqlite.specs.{Kind.TheVariants.Text}
use Rattle.sqlite_value.specs.Order.{Row}
use Rattle.sqlite_sql.specs.Ops.{unary}
use Rattle.sqlite_schema.specs.declared.schema.{Column.Column, Table.Table}
use Rattle.sqlite_rules.specs.Cast.{cast, cast_all, cast_row}
use Rattle.sql_tables.specs.Images.{int_or_null, text_or_null}

either : (b : Bool) (x : Value) → cond b x x ≡ x
either b x = search rules

pub cast_int : (n : ℤ) → cast Integer (Int n) ≡ Int n
unfolding unary
cast_int n = either _ (Int n)

pub cast_null : cast Integer Null ≡ Null
unfolding unary
cast_null = either _ Null

pub cast_int_or_null : (n : Option ℤ) → cast Integer (int_or_null n) ≡ int_or_null n
cast_int_or_null n = search (rules, cast_null, cast_int)

pub cast_text_or_null : (t : Option (List ℕ)) → cast Text (text_or_null t) ≡ text_or_null t
cast_text_or_null t = search rules

-- each column keeps its value
abbrev pub AreKept : List Column → Row → Type 0
AreKept [] [] = Unit {0}
AreKept [] (v ∷ vs) = ⊥
AreKept (c ∷ cs) [] = Unit {0}
AreKept (c ∷ cs) (v ∷ vs) = (cast c.kind v ≡ v) × AreKept cs vs

all_kept : (cs : List Column) (vs : Row) → AreKept cs vs → cast_all cs vs ≡ vs
all_kept [] [] h = refl
all_kept [] (v ∷ vs) h = absurd h
all_kept (c ∷ cs) [] h = refl
all_kept (c ∷ cs) (v ∷ vs) h = ap (λ w. w ∷ cast_all cs vs) h.0 ∙ ap (λ ws. v ∷ ws) (all_kept cs vs h.1)

pub row_kept : (table : Table) (n : ℤ) (vs : Row) → AreKept table.columns vs → cast_row table (Int n ∷ vs) ≡ Int n ∷ vs
row_kept table n vs h = ap (λ v. v ∷ cast_all table.columns vs) (cast_int n) ∙ ap (λ ws. Int n ∷ ws) (all_kept table.columns vs h)

pub new_kept : (table : Table) (vs : Row) → AreKept table.columns vs → cast_row table (Null ∷ vs) ≡ Null ∷ vs
new_kept table vs h = ap (λ v. v ∷ cast_all table.columns vs) cast_null ∙ ap (λ ws. Null ∷ ws) (all_kept table.columns vs h)
