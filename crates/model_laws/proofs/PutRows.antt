-- Rows that are put into a table: those that a test picks, moved, and new ones.
use Rattle.std.proofs.Common.{◌≡◌, ◌≤◌, ◌<◌, ℕ, ◌+◌, List, [], ◌∷◌, ◌++◌, map, filter, Some, sym, ap, subst, ◌∙◌, true, false, Bool, cond, arith}
use Rattle.std.proofs.lemmas.Bool.{and_parts}
use Rattle.std.specs.{Prelude.◌==◌, Prelude.◌&&◌, Prelude.IfSome, Prelude.find}
use Rattle.desk_model.specs.{Change.moved_rows, Kept.EachOf}
use Rattle.model_laws.specs.{Ordered.Ascends, Ordered.Below, Ordered.IsTable, Placing.puts}
use Rattle.model_laws.proofs.{Basics.each, Basics.each-append, Basics.one_kept, RowLists.ascends_above, RowLists.ascends_filter, RowLists.ascends_found}
use Rattle.model_laws.proofs.RowLists.{ascends_from, ascends_map, below_filter, below_map, none_below, puts_append, puts_differing, puts_last, puts_moved}

-- rows that ascend, each moved from the one that stands at its number or standing nowhere, and what they make of the table
pub record IsPut {X : Type 0} (number : X → ℕ) (Moved : X → X → Type 0) (rows put after : List X) : Type 0 where
  pub ascend : Ascends number 1 put
  pub each : EachOf (λ y. IfSome (find (λ x. number x == number y) rows) (λ x. Moved x y)) put
  pub made : puts number put rows ≡ after

-- rows that ascend below others that do
ascends-append : {X : Type 0} (number : X → ℕ) (n k : ℕ) (xs ys : List X) → n ≤ k → Ascends number n xs → Below number k xs → Ascends number k ys →
    Ascends number n (xs ++ ys)
ascends-append number n k [] ys le up below h = ascends_from number n k ys le h
ascends-append number n k (x ∷ xs) ys le up below h =
    let lt : number x < k = below.0 in (up.0, ascends-append number (number x + 1) k xs ys (omega arith) up.1 below.1 h)

module _ {X : Type 0} (number : X → ℕ) (Moved : X → X → Type 0) where
  -- rows above all others
  pub new_put : (last : ℕ) (rows fresh : List X) → Below number (last + 1) rows → Ascends number (last + 1) fresh →
      IsPut number Moved rows fresh (rows ++ fresh)
  new_put last rows fresh below up =
      record {
        ascend = ascends_from number 1 (last + 1) fresh (omega arith) up;
        each = each _ _ fresh (λ y above.
            let high : last < number y = above in
            subst (λ o. IfSome o (λ x. Moved x y)) (sym (none_below number (last + 1) (number y) rows (omega arith) below)) tt)
            (ascends_above number last (last + 1) fresh (omega arith) up);
        made = puts_last number (last + 1) fresh rows up below;
      }

  module _ (move : X → X) (same : (x : X) → number (move x) ≡ number x) where
    -- rows that a test picks, moved
    pub moved_put : (test : X → Bool) → ((x : X) → test x ≡ true → Moved x (move x)) → (rows : List X) → Ascends number 1 rows →
        IsPut number Moved rows (map move (filter test rows)) (map (λ r. cond (test r) (move r) r) rows)
    moved_put test moved rows up =
        record {
          ascend = ascends_map number number move same 1 _ (ascends_filter number test 1 rows up);
          each = picked rows (ascends_found number 1 rows up);
          made = puts_moved number test move same 1 rows up;
        }
      where
        here : (x : X) → test x ≡ true → find (λ z. number z == number x) rows ≡ Some x →
            IfSome (find (λ z. number z == number (move x)) rows) (λ z. Moved z (move x))
        here x is found =
            subst (λ o. IfSome o (λ z. Moved z (move x))) (sym (ap (λ n. find (λ z. number z == n) rows) (same x) ∙ found)) (moved x is)

        picked : (xs : List X) → EachOf (λ x. find (λ z. number z == number x) rows ≡ Some x) xs →
            EachOf (λ y. IfSome (find (λ z. number z == number y) rows) (λ z. Moved z y)) (map move (filter test xs))
        picked [] h = tt
        picked (x ∷ xs) h = grind (arith, here, (picked xs h.1))

    -- the touched rows that differ, moved, and new ones
    pub all_put : (touched : X → Bool) (differs : X → X → Bool) → ((x : X) → differs x (move x) ≡ false → move x ≡ x) →
        ((x : X) → differs x (move x) ≡ true → Moved x (move x)) → (last : ℕ) (rows fresh : List X) → IsTable number last rows →
        Ascends number (last + 1) fresh →
        IsPut number Moved rows (moved_rows touched differs move rows ++ fresh) (map (λ r. cond (touched r) (move r) r) rows ++ fresh)
    all_put touched differs unmoved moved last rows fresh table up =
        let test : X → Bool = λ r. touched r && differs r (move r) in
        let old = moved_put test (λ x picked. moved x (and_parts (touched x) _ picked).1) rows table.0 in
        let new = new_put last rows fresh table.1 up in
        let low : Below number (last + 1) (map (λ r. cond (touched r) (move r) r) rows) =
        below_map number number (λ r. cond (touched r) (move r) r) (λ r. one_kept number (touched r) (move r) r (same r)) (last + 1) rows table.1 in
        record {
          ascend = ascends-append number 1 (last + 1) (map move (filter test rows)) fresh (omega arith) old.ascend
              (below_map number number move same (last + 1) _ (below_filter number test (last + 1) rows table.1)) up;
          each = each-append _ (map move (filter test rows)) fresh old.each new.each;
          made = puts_append number (map move (filter test rows)) fresh rows
              ∙ ap (puts number fresh) (puts_differing number touched differs move same unmoved 1 rows table.0)
              ∙ puts_last number (last + 1) fresh (map (λ r. cond (touched r) (move r) r) rows) up low;
        }
