-- Tables of columns, row by row.
use Rattle.std.proofs.Common.{◌≡◌, ◌≢◌, List, [], ◌∷◌, ◌++◌, map, Some, append_assoc, arith}
use Rattle.std.proofs.{lemmas.List.map-append, lemmas.Bool.Decides.nat_tests}
use Rattle.desk_model.specs.Kept.{EachOf}
use Rattle.store_columns.specs.Reading.{IsRead}

-- each keeps it, and one more
each_more : {R : Type 0} (P : R → Type 0) (rows : List R) (row : R) → EachOf P rows → P row → EachOf P (rows ++ row ∷ [])
each_more P [] row before here = (here, tt)
each_more P (r ∷ rows) row before here = (before.0, each_more P rows row before.1 here)

-- what is read of a table: these columns are those of these rows, and the rest follows
pub record IsReadSoFar {C R : Type 0} (write : R → C) (P : R → Type 0) (table done rest : List C) (rows : List R) : Type 0 where
  pub written : done ≡ map write rows
  pub stored : EachOf P rows
  pub whole : table ≡ done ++ rest

-- one row more
pub read_more : {C R : Type 0} (write : R → C) (P : R → Type 0) (table done rest after : List C) (rows new : List R) (c : C) (row : R)
    → IsReadSoFar write P table done rest rows → rest ≡ c ∷ after → IsRead write P c (Some row) → new ≡ rows ++ row ∷ []
    → IsReadSoFar write P table (done ++ c ∷ []) after new
read_more write P table done rest after rows new c row before next found pushed = grind (arith, nat_tests, map-append, each_more, append_assoc)

-- columns that no row writes spoil a table
spoilt : {C R : Type 0} (write : R → C) (P : R → Type 0) (done after : List C) (c : C) → ((row : R) → P row → c ≢ write row)
    → (rows : List R) → EachOf P rows → done ++ c ∷ after ≢ map write rows
spoilt write P [] after c none [] kept same = cc same
spoilt write P [] after c none (row ∷ rows) kept same = none row kept.0 (cc same)
spoilt write P (d ∷ done) after c none [] kept same = cc same
spoilt write P (d ∷ done) after c none (row ∷ rows) kept same = spoilt write P done after c none rows kept.1 (cc same)

-- the same, of a table that is read so far
pub not_read : {C R : Type 0} (write : R → C) (P : R → Type 0) (table done rest after : List C) (read : List R) (c : C)
    → IsReadSoFar write P table done rest read → rest ≡ c ∷ after → ((row : R) → P row → c ≢ write row)
    → (rows : List R) → EachOf P rows → table ≢ map write rows
not_read write P table done rest after read c before next none rows kept same = grind (arith, nat_tests, spoilt)
