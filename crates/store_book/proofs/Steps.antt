-- One row more.
use Rattle.std.proofs.Common.{◌≡◌, ◌<◌, ◌≤◌, ◌+◌, ℕ, Bool, List, [], ◌∷◌, ◌++◌, map, Result, Ok, Err, arith, refl, sym, ap, subst, ◌∙◌, rules}
use Rattle.std.proofs.lemmas.List.Elements.{filter_map-append}
use Rattle.std.specs.Prelude.{IfOk, option_to_list}
use Rattle.store_columns.specs.declared.columns.{AnswerKey.AnswerKey, BareChallenge.BareChallenge, Owned.Owned}
use Rattle.desk_model.specs.{Kept.EachOf, declared.rows.Listed.Listed}
use Rattle.store_book.specs.{BookRows.IsAmong, BookRows.PlacesRise, BookRows.Rise, BookRows.answered_number, BookRows.answered_numbers, Passing.AreOwned}
use Rattle.store_book.specs.{Passing.Counts, Passing.IsPlacedNext, Passing.IsPlacedUpTo, Passing.IsUpTo, Passing.PlacedFrom, declared.counter.Counter.Counter}
use Rattle.model_laws.specs.Ordered.{Ascends, Below, IsTable}
use Rattle.model_laws.proofs.Basics.{each, each-append}

-- what ascends goes on with a number above all
ascends_more : {X : Type 0} (number : X → ℕ) (n top : ℕ) (rows : List X) (row : X) → Ascends number n rows → Below number (top + 1) rows
    → n ≤ number row → top < number row → Ascends number n (rows ++ row ∷ [])
ascends_more number n top [] row up below from above = (from, tt)
ascends_more number n top (x ∷ rows) row up below from above = grind (arith, (ascends_more number (number x + 1) top rows row up.1 below.1 (omega arith) above))

-- what holds of all holds of one
pub each_at : {X : Type 0} (P : X → Type 0) (rows : List X) (row : X) (rest : List X) → EachOf P (rows ++ row ∷ rest) → P row
each_at P [] row rest h = h.0
each_at P (x ∷ rows) row rest h = each_at P rows row rest h.1

-- of what ascends each is above those before it
above_before : {X : Type 0} (number : X → ℕ) (n : ℕ) (rows : List X) (row : X) (rest : List X) → Ascends number n (rows ++ row ∷ rest)
    → (n ≤ number row) × Below number (number row) rows
above_before number n [] row rest up = (up.0, tt)
above_before number n (x ∷ rows) row rest up = grind (arith, (above_before number (number x + 1) rows row rest up.1))

-- a row of a table behind those so far counts on
pub counts_on : {X : Type 0} (number : X → ℕ) (first now : Counter) (rows : List X) (row : X) (rest : List X) → IsUpTo number first now rows
    → IsTable number first.last (rows ++ row ∷ rest) → (now.top < number row) × (number row ≤ now.last)
counts_on number first now rows row rest up table = search (rules, above_before, each_at)

-- the numbers of the rows so far and of the next
pub up_to_more : {X : Type 0} (number : X → ℕ) (first old new : Counter) (rows : List X) (row : X) → Counts old (number row) new
    → IsUpTo number first old rows → IsUpTo number first new (rows ++ row ∷ [])
up_to_more number first old new rows row counts up = search (rules, ascends_more, each-append, each, each_at)

-- rows behind the last one are a table
pub whole_table : {X : Type 0} (number : X → ℕ) (first now : Counter) (rows : List X) → IsUpTo number first now rows → IsTable number first.last rows
whole_table number first now rows up = search (rules, each)

-- what is kept of each row
pub kept_more : {X Y : Type 0} (keep : X → Y) (rows : List X) (row : X) (before after : List Y) → after ≡ before ++ keep row ∷ [] → before ≡ map keep rows
    → after ≡ map keep (rows ++ row ∷ [])
kept_more keep rows row before after pushed kept = pushed ∙ ap (λ l. l ++ keep row ∷ []) kept ∙ sym (map_more keep rows row)
  where
    map_more : {X Y : Type 0} (keep : X → Y) (rows : List X) (row : X) → map keep (rows ++ row ∷ []) ≡ map keep rows ++ keep row ∷ []
    map_more keep [] row = refl
    map_more keep (x ∷ rows) row = ap (λ l. keep x ∷ l) (map_more keep rows row)

-- what holds of each
pub each_more : {X : Type 0} (P : X → Type 0) (rows : List X) (row : X) → EachOf P rows → P row → EachOf P (rows ++ row ∷ [])
each_more P rows row h p = each-append P rows (row ∷ []) h (p, tt)

-- one more that is taken
pub owned_more : {X E : Type 0} (number owner : X → ℕ) (row : X) (old new : Counter) (owners still before after : List ℕ) (taken : Result Bool E)
    → IfOk taken (λ passes. passes ≡ Bool.true → Counts old (number row) new) → IfOk taken (λ passes. passes ≡ Bool.true → after ≡ before ++ number row ∷ [])
    → IfOk taken (λ passes. passes ≡ Bool.true → IsAmong owners (owner row)) → still ≡ owners
    → IfOk taken (λ passes. passes ≡ Bool.true → (first : Counter) (first_owners : List ℕ) (rows : List X)
    → AreOwned number owner first old owners first_owners before rows → AreOwned number owner first new still first_owners after (rows ++ row ∷ []))
owned_more number owner row old new owners still before after (Ok passes) counts pushed among same =
    λ is first first_owners rows so_far. (
      up_to_more number first old new rows row (counts is) so_far.0,
      kept_more number rows row before after (pushed is) so_far.1,
      same ∙ so_far.2,
      each_more (λ x. IsAmong first_owners (owner x)) rows row so_far.3 (subst (λ l. IsAmong l (owner row)) so_far.2 (among is)),
    )
owned_more number owner row old new owners still before after (Err e) counts pushed among same = tt

-- the numbers of answered challenges, and that of one more
pub answered_more : (rows : List (Owned BareChallenge)) (row : Owned BareChallenge) (before after : List ℕ)
    → after ≡ before ++ option_to_list (answered_number row) → before ≡ answered_numbers rows → after ≡ answered_numbers (rows ++ row ∷ [])
answered_more rows row before after pushed are = search (rules, filter_map-append)

-- places that rise, and one behind them
pub places_more : (rows : List (Owned Listed)) (row : Owned Listed) (order place : ℕ) → IsPlacedNext order place row.owner row.row.place
    → EachOf (IsPlacedUpTo order place) rows → PlacesRise rows → PlacesRise (rows ++ row ∷ [])
places_more [] row order place next up rise = (tt, tt)
places_more (r ∷ rows) row order place next up rise = grind (arith, each_more, (places_more rows row order place next up.1 rise.1))

-- all are up to it
pub placed_more : (rows : List (Owned Listed)) (row : Owned Listed) (order place : ℕ) → IsPlacedNext order place row.owner row.row.place
    → EachOf (IsPlacedUpTo order place) rows → EachOf (IsPlacedUpTo row.owner row.row.place) (rows ++ row ∷ [])
placed_more rows row order place next up = search (rules, each_more, each)

-- what is placed behind those so far and one more is placed behind that
pub placed_behind : (order place : ℕ) (rows : List (Owned Listed)) (row next : Owned Listed) (rest : List (Owned Listed))
    → PlacedFrom order place ((rows ++ row ∷ []) ++ next ∷ rest) → IsPlacedNext row.owner row.row.place next.owner next.row.place
placed_behind order place [] row next rest placed = placed.1.0
placed_behind order place (r ∷ rows) row next rest placed = placed_behind r.owner r.row.place rows row next rest placed.1

-- a row of a table behind those so far, of one of these owners, is taken
pub owned_fine : {X E : Type 0} (number owner : X → ℕ) (row : X) (old : Counter) (owners numbers : List ℕ) (taken : Result Bool E)
    → IfOk taken (λ passes. old.top < number row → number row ≤ old.last → Rise owners → IsAmong owners (owner row) → passes ≡ Bool.true)
    → IfOk taken (λ passes. (first : Counter) (first_owners : List ℕ) (rows rest : List X) → AreOwned number owner first old owners first_owners numbers rows
    → Rise first_owners → IsTable number first.last (rows ++ row ∷ rest) → EachOf (λ x. IsAmong first_owners (owner x)) (rows ++ row ∷ rest)
    → passes ≡ Bool.true)
owned_fine number owner row old owners numbers taken h = search (rules, counts_on, each_at)

-- the key behind those so far is the next one
pub next_key : (rows : List AnswerKey) (row : AnswerKey) (rest : List AnswerKey) (left all : List ℕ) → map (λ k. k.challenge) rows ++ left ≡ all
    → map (λ k. k.challenge) (rows ++ row ∷ rest) ≡ all → left ≡ row.challenge ∷ map (λ k. k.challenge) rest
next_key [] row rest left all so_far are = so_far ∙ sym are
next_key (k ∷ rows) row rest left all so_far are =
    next_key rows row rest left (map (λ k. k.challenge) (rows ++ row ∷ rest)) (let same = so_far ∙ sym are in cc) refl

-- behind all there is none
pub none_behind : (ks left : List ℕ) → ks ++ left ≡ ks → left ≡ []
none_behind [] left same = same
none_behind (k ∷ ks) left same = none_behind ks left (cc same)
