-- Rows that are looked up one number after the other, each put into its place.
use Rattle.std.proofs.Common.{◌≡◌, ℕ, List, [], ◌∷◌, ◌++◌, Result, Err, IfErr, IfOk, OnOk, ap, append-nil, sym, ◌∙◌, rules}
use Rattle.std.specs.List.{flat_map}
use Rattle.model_laws.specs.Placing.{puts}
use Rattle.model_laws.proofs.RowLists.{puts_append}

-- the rows of the next one are put, and what is left to be put is what follows it
pub gathered : {N X : Type 0} (number : X → ℕ) (rows_of : N → List X) (n : N) (before rest : List N) (found rows later all : List X) →
    before ≡ n ∷ rest →
    found ≡ rows_of n →
    later ≡ puts number found rows →
    puts number (flat_map rows_of before) rows ≡ all →
    puts number (flat_map rows_of rest) later ≡ all
gathered number rows_of n before rest found rows later all next looked put_now all_of = search (rules, puts_append)

-- what was found is put in some way, where there was no fault
pub into_if_found : {F V B X : Type 0} (into : List X → List X → List X) (items : V → List X) (found : Result V F) (r : Result B F) (xs rows later : List X) →
    IfOk found (λ vs. OnOk r (later ≡ into (items vs) rows)) → IfErr found (λ why. r ≡ Err why) → IfOk found (λ vs. items vs ≡ xs) →
    OnOk r (later ≡ into xs rows)
into_if_found into items found r xs rows later h k l = search rules

-- rows are put, and then others
pub put_then : {X : Type 0} (number : X → ℕ) (xs ys rows mid later : List X) → mid ≡ puts number xs rows → later ≡ puts number ys mid →
    later ≡ puts number (xs ++ ys) rows
put_then number xs ys rows mid later first second = second ∙ ap (puts number ys) first ∙ sym (puts_append number xs ys rows)

-- what is put into an empty table
pub put_into_none : {X : Type 0} (number : X → ℕ) (xs rows later : List X) → later ≡ puts number xs rows → rows ≡ [] → later ≡ puts number xs []
put_into_none number xs rows later put_now none = put_now ∙ ap (puts number xs) none

-- what is put by one value is put by its equal
pub put_by : {X Y : Type 0} (number : X → ℕ) (rows_of : Y → List X) (y z : Y) (rows later : List X) → later ≡ puts number (rows_of y) rows → y ≡ z →
    later ≡ puts number (rows_of z) rows
put_by number rows_of y z rows later put_now same = put_now ∙ ap (λ v. puts number (rows_of v) rows) same

-- the rows of two, and of three
pub of_two : {X Y : Type 0} (rows_of : Y → List X) (a b : Y) → flat_map rows_of (a ∷ b ∷ []) ≡ rows_of a ++ rows_of b
of_two rows_of a b = ap (λ l. rows_of a ++ l) (append-nil (rows_of b))

-- the rows of three
pub of_three : {X Y : Type 0} (rows_of : Y → List X) (a b c : Y) → flat_map rows_of (a ∷ b ∷ c ∷ []) ≡ rows_of a ++ (rows_of b ++ rows_of c)
of_three rows_of a b c = ap (λ l. rows_of a ++ l) (of_two rows_of b c)
