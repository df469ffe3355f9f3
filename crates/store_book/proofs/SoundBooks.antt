-- One book at most has given rows.
use Rattle.std.proofs.Common.{◌≡◌, ℕ, ◌++◌, List, [], ◌∷◌, map, refl, sym, ap, ◌∙◌, rules}
use Rattle.std.proofs.lemmas.List.Sorted.{IsPermutation-refl, IsPermutation-sym, IsPermutation-trans}
use Rattle.std.specs.List.Sorted.{IsPermutation}
use Rattle.desk_model.specs.Tables.{Tables}
use Rattle.desk_model.specs.declared.rows.{AuthorizationRow.AuthorizationRow, ChallengeRow.ChallengeRow, Listed.Listed, OrderRow.OrderRow}
use Rattle.store_columns.proofs.RowsApart.{rows-apart}
use Rattle.store_columns.specs.{Columns.rows_columns, Limits.AreStored, declared.columns.StoredRows.StoredRows, declared.columns.Owned.Owned}
use Rattle.store_columns.specs.{declared.columns.FlatRows.FlatRows, Flat.bare_row, Flat.challenge_rows, Flat.key_rows, Flat.owned_by}
use Rattle.model_laws.proofs.Distinctness.{distinct-map, map-distinct}
use Rattle.model_laws.specs.Distinct.{Distinct}
use Rattle.store_book.specs.{FaultNumbers.challenges_of, IsBook.IsBook, IsBook.IsBookOf}
use Rattle.store_book.proofs.{Joins.same_rows, Nests.same_nest, OrderedRows.same_ascending, SortedLists.same_single}

-- the numbers of challenges, with or without their owner
owned_numbers : (n : ℕ) (cs : List ChallengeRow) (rest : List (Owned ChallengeRow)) (more : List ChallengeRow)
    → map (λ c. c.row.number) rest ≡ map (λ c. c.number) more
    → map (λ c. c.row.number) (owned_by n cs ++ rest) ≡ map (λ c. c.number) (cs ++ more)
owned_numbers n [] rest more same = same
owned_numbers n (c ∷ cs) rest more same = ap (λ l. c.number ∷ l) (owned_numbers n cs rest more same)

-- those of all
pub all_numbers : (rows : List AuthorizationRow) → map (λ c. c.row.number) (challenge_rows rows) ≡ map (λ c. c.number) (challenges_of rows)
all_numbers [] = refl
all_numbers (a ∷ rows) = owned_numbers a.number a.challenges (challenge_rows rows) (challenges_of rows) (all_numbers rows)

-- a book has no number of a challenge twice
rows_distinct : (T : Tables) → IsBook T → Distinct (λ (c : Owned ChallengeRow). c.row.number) (challenge_rows T.authorizations)
rows_distinct T book = search (rules, map-distinct, all_numbers, distinct-map)

-- two orders of the same elements
moved_both : {X : Type 0} (ys xs zs : List X) → IsPermutation ys xs → IsPermutation ys zs → IsPermutation xs zs
moved_both ys xs zs left right = IsPermutation-trans xs ys zs (IsPermutation-sym ys xs left) right

-- two books of the same rows are equal
pub same-books : (rows : FlatRows) (T U : Tables) → IsBookOf rows T → IsBookOf rows U → T ≡ U
same-books rows T U a b =
    let o = a.is_book.in_order in
    let p = b.is_book.in_order in
    let r = a.has_rows in
    let s = b.has_rows in
    let ones = challenge_rows T.authorizations in
    let others = challenge_rows U.authorizations in
    let first : T.meta ≡ U.meta = (let both = sym (same_single rows.metas T.meta r.metas) ∙ same_single rows.metas U.meta s.metas in cc) in
    λ i. record {
      meta = first i;
      nonces = same_ascending (λ n. n.serial) 1 1 T.nonces U.nonces o.nonces p.nonces (moved_both rows.nonces T.nonces U.nonces r.nonces s.nonces) i;
      accounts = same_ascending (λ a. a.number) 1 1 T.accounts U.accounts o.accounts p.accounts
          (moved_both rows.accounts T.accounts U.accounts r.accounts s.accounts) i;
      authorizations =
          same_nest (λ (a : AuthorizationRow). a.number) (λ a. a.challenges) (λ (a : AuthorizationRow) cs. record a { challenges = cs })
          (λ (c : ChallengeRow). c.number)
          (record { number_kept = λ p ts. refl; children_are = λ p ts. refl; last_are = λ p ts us. refl; same = λ p. refl })
          rows.authorizations ones T.authorizations U.authorizations
          (record { parents_are = r.authorizations; rows_are = IsPermutation-refl ones; ascends = o.authorizations; children_ascend = o.challenges })
          (record {
            parents_are = s.authorizations;
            rows_are = same_rows ones others (rows_distinct T a.is_book)
                (moved_both rows.challenges (map bare_row others) (map bare_row ones) s.challenges r.challenges)
                (moved_both rows.keys (key_rows others) (key_rows ones) s.keys r.keys);
            ascends = p.authorizations;
            children_ascend = p.challenges;
          }) i;
      orders =
          same_nest (λ (a : OrderRow). a.number) (λ o. o.listed) (λ (o : OrderRow) ls. record o { listed = ls }) (λ (l : Listed). l.place)
          (record { number_kept = λ p ts. refl; children_are = λ p ts. refl; last_are = λ p ts us. refl; same = λ p. refl })
          rows.orders rows.listed T.orders U.orders
          (record { parents_are = r.orders; rows_are = r.listed; ascends = o.orders; children_ascend = o.places })
          (record { parents_are = s.orders; rows_are = s.listed; ascends = p.orders; children_ascend = p.places }) i;
    }

-- the rows that columns spell, in their limits, are told by the columns
pub stored-told : (stored : StoredRows) (rows others : FlatRows) → AreStored rows → stored ≡ rows_columns rows → AreStored others
    → stored ≡ rows_columns others → rows ≡ others
stored-told stored rows others h p k q = rows-apart rows others h k (sym p ∙ q)
