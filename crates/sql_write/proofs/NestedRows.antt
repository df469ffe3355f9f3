-- Rows of a table of their own that belong to the rows of another: what putting one of those asks of them.
use Rattle.std.specs.{Prelude.◌==◌, Prelude.find, List.flat_map}
use Rattle.std.proofs.Common.{◌≡◌, ◌≢◌, inl, inr, ℕ, List, [], ◌∷◌, map, Some, sym, ap, subst, ◌∙◌, arith}
use Rattle.model_laws.proofs.{Basics.each, Basics.each_parts, Distinctness.distinct_parts, RowLists.put_before, RowLists.put_instead, RowLists.put_past}
use Rattle.model_laws.specs.{Distinct.Distinct, Placing.puts}
use Rattle.desk_model.specs.{Change.put, Kept.EachOf}
use Rattle.sql_write.proofs.Numbered.{AreWithin, find_here, find_later, part_of_put, put_each_within}
use Rattle.sql_tables.specs.Sorted.{sorted_by}
use Rattle.sql_tables.proofs.{Keyed.ranked, Sorting.put_each, Sorting.put_each_both, Sorting.puts_each, Sorting.sorted_append}

module _ {P C : Type 0} (parent : P → ℕ) (children : P → List C) (key : C → ℕ) where
  -- the children of all rows
  abbrev of_all : List P → List C
  of_all ps = flat_map children ps

  -- what holds of all children holds of those of the row that was put
  among : (Q : C → Type 0) (x : P) (ps : List P) → EachOf Q (of_all (put parent x ps)) → EachOf Q (children x)
  among Q x ps = part_of_put parent children (EachOf Q) (each_parts Q) x ps

  -- children that differ: so do those of the row that was put
  pub own_apart : (x : P) (ps : List P) → Distinct key (of_all (put parent x ps)) → Distinct key (children x)
  own_apart x ps = part_of_put parent children (Distinct key) (λ cs ds apart. let it = distinct_parts key cs ds apart in (it.0, it.2)) x ps

  -- they go to their places among the sorted children of all rows
  own_put : (x : P) (ps : List P)
      → ((p : P) → find (λ p. parent p == parent x) ps ≡ Some p → AreWithin (map key (children p)) (map key (children x)))
      → Distinct key (children x) → Distinct key (of_all (put parent x ps))
      → put_each key (children x) (sorted_by key (of_all ps)) ≡ sorted_by key (of_all (put parent x ps))
  own_put x [] same own apart = sym (sorted_append key (children x) [])
  own_put x (p ∷ ps) same own apart = elim (ranked (parent p) (parent x)) [
    | inl less ↦
        let is = put_past parent x p ps less.low in
        let rest = of_all (put parent x ps) in
        let parts = distinct_parts key (children p) rest (subst (λ l. Distinct key (of_all l)) is apart) in
        let others = each _ _ (children p) (λ c differs. among (λ d. key c ≢ key d) x ps differs) parts.1 in
        let past = find_later parent (parent x) p ps (λ e. omega (arith, less.low, e)) in
        let later = λ (q : P) (h : find (λ p. parent p == parent x) ps ≡ Some q). same q (past ∙ h) in
        ap (put_each key (children x)) (sorted_append key (children p) (of_all ps))
        ∙ sym (put_each_both key (children p) (children x) (sorted_by key (of_all ps)) others)
        ∙ ap (put_each key (children p)) (own_put x ps later own parts.2)
        ∙ sym (sorted_append key (children p) rest)
        ∙ sym (ap (λ l. sorted_by key (of_all l)) is)
    | inr (inl tied) ↦
        ap (put_each key (children x)) (sorted_append key (children p) (of_all ps))
        ∙ put_each_within key (children p) (children x) (sorted_by key (of_all ps)) (same p (find_here parent (parent x) p ps tied.same)) own
        ∙ sym (sorted_append key (children x) (of_all ps))
        ∙ sym (ap (λ l. sorted_by key (of_all l)) (put_instead parent x p ps tied.same))
    | inr (inr more) ↦
        sym (sorted_append key (children x) (of_all (p ∷ ps)))
        ∙ sym (ap (λ l. sorted_by key (of_all l)) (put_before parent x p ps more.high))
  ]

  -- where the children of the row in the place have numbers among these, and all differ after, putting the children one after the
  -- other among the sorted ones gives the sorted children of the rows after
  pub children_put : (x : P) (ps : List P)
      → ((p : P) → find (λ p. parent p == parent x) ps ≡ Some p → AreWithin (map key (children p)) (map key (children x)))
      → Distinct key (of_all (put parent x ps)) → puts key (children x) (sorted_by key (of_all ps)) ≡ sorted_by key (of_all (put parent x ps))
  children_put x ps same apart =
      let own = own_apart x ps apart in puts_each key (children x) (sorted_by key (of_all ps)) own ∙ own_put x ps same own apart
