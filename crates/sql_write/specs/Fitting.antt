-- Which changes may be saved, and what a save does.
use Rattle.std.specs.{Prelude.List, Prelude.[], Prelude.◌∷◌, List.flat_map}
use Rattle.sqlite.specs.Effect.{Database}
use Rattle.store_columns.specs.Flat.{challenge_rows, listed_rows}
use Rattle.model_laws.specs.{Distinct.Distinct, Ordered.Ascends, News.AreKept, News.KeepsChildren}
use Rattle.desk_model.specs.{Change.applied, Change.applied_one, Kept.EachOf, Tables.Tables, declared.rows.Change.Change}
use Rattle.sql_write.specs.Stored.{IsPartOf}
use Rattle.sql_tables.specs.{Holds.AreApart, Holds.AreRising, Holds.Holds, Layouts.challenge_layout}

-- no number of a challenge stands twice, through all authorizations, and no place of an order does
pub record InOrder (T : Tables) : Type 0 where
  pub challenges : Distinct challenge_layout.key (challenge_rows T.authorizations)
  pub listed : AreApart (listed_rows T.orders)

-- each row in the place of another keeps its children, and no two children of the tables after all changes are one
pub record FitAfter (T : Tables) (changes : List Change) : Type 0 where
  pub kept : AreKept T changes
  pub in_order : InOrder (applied changes T)

-- whatever tables the database holds, in which what is known stands, where the changes fit them it then holds them with the changes
abbrev pub Saves : Tables → List Change → Database → Database → Type 0
Saves part changes old new = (T : Tables) → Holds old T → IsPartOf part T → FitAfter T changes → Holds new (applied changes T)

-- orders stand by number, what each lists by place, and no number of a challenge stands twice
pub record AreByNumber (T : Tables) : Type 0 where
  pub orders : Ascends (λ o. o.number) 1 T.orders
  pub places : EachOf (λ o. Ascends (λ l. l.place) 1 o.listed) T.orders
  pub challenges : Distinct (λ c. c.number) (flat_map (λ a. a.challenges) T.authorizations)

-- changes that keep children fit, where the tables with all of them stand so
abbrev pub OrderedChangesFit : Type 0
OrderedChangesFit = (T : Tables) (changes : List Change) → AreKept T changes → AreByNumber (applied changes T) → FitAfter T changes

-- ---- one change after the other

-- a row in the place of another keeps its children, and the tables with it stand by number, no two children one
pub record IsFit (T : Tables) (change : Change) : Type 0 where
  pub children : KeepsChildren T change
  pub rising : AreRising (applied_one change T)

-- and so does each further one
abbrev pub AreFit : Tables → List Change → Type 0
AreFit T [] = Unit {0}
AreFit T (c ∷ cs) = IsFit T c × AreFit (applied_one c T) cs
