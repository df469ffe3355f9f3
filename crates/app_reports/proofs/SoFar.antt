-- What is so of the rows of a list, as far as they were gone through.
use Rattle.std.proofs.Common.{◌≡◌, ◌∙◌, ◌++◌, List, [], ap, append_assoc, sym}

module _ {X : Type 0} where
  -- it is so of the rows before those that are left
  pub record SoFar (P : List X → Type 0) (rows left : List X) : Type 0 where
    pub seen : List X
    pub all : rows ≡ seen ++ left
    pub so : P seen

  -- of none yet
  pub none_so : (P : List X → Type 0) (rows left : List X) → left ≡ rows → P [] → SoFar P rows left
  none_so P rows left same so = record { seen = []; all = sym same; so = so }

  -- of some more
  pub more_so : (P Q : List X → Type 0) (rows left part rest : List X) → SoFar P rows left → left ≡ part ++ rest
      → ((seen : List X) → P seen → Q (seen ++ part)) → SoFar Q rows rest
  more_so P Q rows left part rest before next more =
      record {
        seen = before.seen ++ part;
        all = before.all ∙ ap (λ l. before.seen ++ l) next ∙ sym (append_assoc before.seen part rest);
        so = more before.seen before.so;
      }
