-- One row more that passes.
use Rattle.std.proofs.{Common.◌≡◌, Common.ℕ, Common.◌++◌, Common.List, Common.[], Common.◌∷◌, Common.map, Common.Option, Common.rules, lemmas.List.map-append}
use Rattle.std.specs.Prelude.{filter_map, option_to_list}
use Rattle.model_laws.specs.Placing.{puts}
use Rattle.model_laws.proofs.RowLists.{puts_append}
use Rattle.desk_model.specs.Change.{put}
use Rattle.sql_read.proofs.FirstLoading.{blank_more}

-- what is kept of it is put behind what is kept of the rows so far
pub put_more : {X Y : Type 0} (number : Y → ℕ) (kept : X → Y) (rows : List X) (row : X) (before now : List Y) → now ≡ put number (kept row) before
    → before ≡ puts number (map kept rows) [] → now ≡ puts number (map kept (rows ++ row ∷ [])) []
put_more number kept rows row before now is so_far = search (rules, map-append, puts_append)

-- what is picked of it is behind what is picked of the rows so far
pub pick_more : {X Y : Type 0} (pick : X → Option Y) (rows : List X) (row : X) (o : Option Y) (before now : List Y) → pick row ≡ o
    → now ≡ before ++ option_to_list o → before ≡ filter_map pick rows → now ≡ filter_map pick (rows ++ row ∷ [])
pick_more pick rows row o before now picked is so_far = search (rules, blank_more)
