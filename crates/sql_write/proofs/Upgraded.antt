-- What makes format 2 of format 1.
use Rattle.sqlite.specs.{Held.Held, Held.state, Store.Ghosts, Effect.Database}
use Rattle.sql_schema.proofs.Steps.{adds_key_table}
use Rattle.sql_schema.specs.{Definitions.definition_at, Defined.AddsKeyTable}
use Rattle.sql_write.proofs.Written.{run_written}
use Rattle.sql_write.specs.{Refusals.HasWritten, Refusals.IsRun, Statements.defines, declared.fault.SaveFault.SaveFault, Upgrading.Fills, Upgrading.Upgrades}
use Rattle.std.proofs.Common.{◌≡◌, ℕ, List, [], ◌∷◌, map, Result, refl, sym, ap, subst, ◌∙◌, arith}
use Rattle.store_columns.specs.{Columns.first_format, Columns.known_format, declared.columns.AnswerKey.AnswerKey}
use Rattle.desk_model.specs.declared.rows.Meta.{Meta}
use Rattle.sql_tables.specs.{Images.formatted_image, Images.key_image, Layouts.HasRows, Layouts.formatted_layout, Layouts.key_layout}
use Rattle.sql_tables.proofs.NoIndexes.{keeps_both, kept_at}

-- the table that format 1 lacks, then its rows, then the row of `meta`
pub upgrades : (meta : Meta) (keys : List AnswerKey) (old mid new : Database) → AddsKeyTable old mid → Fills meta keys mid new → Upgrades meta keys old new
upgrades meta keys old mid new adds fills T has same are =
    let late = fills.0 in
    let k = adds has.schema in
    let none : HasRows key_layout mid [] = record { schema = k.schema; rows_are = k.empty; rising = tt } in
    let q = fills.1 k.sound [] none in
    let first = kept_at 17 mid late q.others in
    let before : HasRows formatted_layout late ((first_format, T.meta) ∷ []) =
    record { schema = q.has.schema; rows_are = first 0 refl ∙ k.kept.0 ∙ has.meta; rising = (omega arith, tt) } in
    let p = fills.2 ((first_format, T.meta) ∷ []) before in
    let last = kept_at 0 late new p.others in
    let on = keeps_both (17 ∷ []) (0 ∷ []) mid late new first last in
    record {
      sound = p.sound;
      schema = p.has.schema;
      meta = p.has.rows_are ∙ ap (λ m. formatted_image (known_format, m) ∷ []) (sym same);
      nonces = on 1 refl ∙ k.kept.1.0 ∙ has.nonces;
      accounts = on 2 refl ∙ k.kept.1.1.0 ∙ has.accounts;
      orders = on 4 refl ∙ k.kept.1.1.1.0 ∙ has.orders;
      authorizations = on 5 refl ∙ k.kept.1.1.1.1.0 ∙ has.authorizations;
      listed = record {
        numbered = has.listed.numbered;
        has = on 6 refl ∙ k.kept.1.1.1.1.1.0 ∙ has.listed.has;
        rising = has.listed.rising;
        same = has.listed.same;
      };
      challenges = on 8 refl ∙ k.kept.1.1.1.1.1.1.0 ∙ has.challenges;
      keys = last 17 refl ∙ q.has.rows_are ∙ ap (map key_image) are;
      rising = has.rising;
    }

-- the table of keys, by a call that runs its text
pub key_table_defined : {S : Type 0} (g : Ghosts S) (text : List ℕ) (a b : Held S) (r : Result (Unit {0}) SaveFault) → text ≡ definition_at 15
    → IsRun g (record { text = text; params = [] }) a b r → HasWritten g (defines 15) AddsKeyTable a b r
key_table_defined g text a b r is ran =
    run_written g (definition_at 15) [] [] AddsKeyTable a b r refl (subst (λ t. IsRun g (record { text = t; params = [] }) a b r) is ran)
    (adds_key_table (state g a) (state g b))
