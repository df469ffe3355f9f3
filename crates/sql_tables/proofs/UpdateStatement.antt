-- What a text that renews a row by its key does, beside the one that puts it, from what the texts mean.
use Rattle.std.proofs.Common.{◌≡◌, ℕ, pos, List, [], ◌∷◌, Ok, sym, ap, ◌∙◌, arith}
use Rattle.sqlite.specs.{declared.types.Value.TheVariants.Int, State.State, State.Executes}
use Rattle.sqlite_value.specs.Order.{Row, column}
use Rattle.sqlite_sql.specs.{Term.Term, Term.eval_all}
use Rattle.sqlite_schema.specs.declared.command.Command.TheVariants.{Update}
use Rattle.desk_model.specs.Change.{put}
use Rattle.sql_schema.proofs.Making.{went}
use Rattle.sql_tables.specs.{Effects.Renews, Layouts.Layout}
use Rattle.sql_tables.proofs.Inserts.{Carries, Means, becomes, carries, has_done, no_works, ran, task_of}
use Rattle.sql_tables.proofs.{Found.by_key, Keyed.put_ascends, Upsert.renewed, UpsertStatement.IsUpsert}

-- the text renews the row that the other text puts, and keeps some of its columns; its first parameter is the key
pub record IsUpdate {X : Type 0} (L : Layout X) {params : X → Row} {upsert : List ℕ} (is : IsUpsert L params upsert) (updates kept : X → Row)
    (text : List ℕ) : Type 0 where
  -- the row that the update makes
  pub project : List Term
  pub means : Means text (Update is.place (record { lets = []; body = by_key L.table.tree 0 project }))
  pub given : (x : X) → column (updates x) 0 ≡ Int (pos (L.key x))
  pub sets : (x y : X) → L.key y ≡ L.key x → kept y ≡ kept x → eval_all project (updates x ∷ L.image y ∷ []) ≡ Int (pos (L.key y)) ∷ L.image x

-- so the text renews the row
renews_by : {X : Type 0} (L : Layout X) (params : X → Row) {upsert : List ℕ} (is : IsUpsert L params upsert) (updates kept : X → Row) (text : List ℕ)
    → IsUpdate L is updates kept text → (old new : State) (x : X) (count : ℕ) → Executes text (updates x) old new (Ok count)
    → Renews L kept x old.now new.now
renews_by L params is updates kept text it old new x count h xs has y there same keeps =
    let did = has_done text (updates x) _ old new count has.schema (ran text (updates x) _ old new count it.means has.schema h) in
    let done = went (rw (is.table.found) at did.did) in
    becomes L old new (updates x) (put L.key x xs) done.0 did.tally did.sound done.2 (put_ascends L.key 0 x xs (omega arith) has.rising)
    (renewed L.key L.image is.table.first (task_of old L.table (updates x)) (no_works L.table.tree) is.casts is.table.low 0 it.project (updates x)
    old.now.trees xs x y done.0 has.rows_are has.rising there same (it.given x ∙ ap (λ k. Int (pos k)) (sym same)) (it.sets x y same keeps) done.1)

-- inside a transaction, too
pub advances_renewed : {X : Type 0} (L : Layout X) (params : X → Row) {upsert : List ℕ} (is : IsUpsert L params upsert) (updates kept : X → Row)
    (text : List ℕ) → IsUpdate L is updates kept text → Carries text updates (Renews L kept)
advances_renewed L params is updates kept text it = carries text updates (Renews L kept) (renews_by L params is updates kept text it)
