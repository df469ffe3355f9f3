-- The texts of a list, written so far.
use Rattle.std.proofs.Common.{◌≡◌, ◌∙◌, ◌<◌, ◌≤◌, ◌+◌, ◌++◌, List, [], ℕ, ap, append_assoc, append-nil, drop, get_or, length, refl, subst, sym}
use Rattle.std.proofs.{KnownBytes.Appends-nil, KnownBytes.Appends-trans, lemmas.List.at_drop_all, lemmas.List.at_drop_more}
use Rattle.std.specs.{Io.KnownBytes.Appends, List.flat_map, Prelude.Option}

module _ {X : Type 0} (text : X → List ℕ) where
  -- what was written, then the texts of what is left, are those of all
  abbrev pub WritesUpTo : (was is : Option (List ℕ)) → (all left : List X) → Type 0
  WritesUpTo was is all left = (done : List ℕ) × (flat_map text all ≡ done ++ flat_map text left) × Appends was is done

  -- nothing was yet
  pub writes_nothing : (was : Option (List ℕ)) (all : List X) → WritesUpTo was was all all
  writes_nothing was all = ([], refl, Appends-nil was)

  -- one more
  pub writes_next : (was mid is : Option (List ℕ)) (all : List X) (index : ℕ) (d : X) → index < length all → WritesUpTo was mid all (drop index all)
      → Appends mid is (text (get_or all index d)) → WritesUpTo was is all (drop (index + 1) all)
  writes_next was mid is all index d more so_far written = (
    so_far.0 ++ text (get_or all index d),
    so_far.1 ∙ ap (λ l. so_far.0 ++ l) (at_drop_more (flat_map text) all index d more)
        ∙ sym (append_assoc (so_far.0) (text (get_or all index d)) (flat_map text (drop (index + 1) all))),
    Appends-trans was mid is (so_far.0) (text (get_or all index d)) so_far.2 written,
  )

  -- all
  pub writes_each : (was is : Option (List ℕ)) (all : List X) (index : ℕ) → length all ≤ index → WritesUpTo was is all (drop index all)
      → Appends was is (flat_map text all)
  writes_each was is all index none so_far =
      subst (Appends was is) (sym (so_far.1 ∙ ap (λ l. so_far.0 ++ l) (at_drop_all (flat_map text) all index none) ∙ append-nil (so_far.0))) so_far.2
