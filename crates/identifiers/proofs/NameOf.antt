-- The relation has one answer, and a function finds it.
use Rattle.std.proofs.Common.{◌≡◌, ◌≢◌, ◌↔◌, ℕ, zero, suc, ◌<◌, Bool, true, false, List, [], ◌∷◌, ◌++◌, length, get_or, refl, arith}
use Rattle.std.proofs.{lemmas.Bool.ne_eqb, lemmas.Bool.eq-eqb, lemmas.Bool.Decides.Decides-eqb, lemmas.Bool.Decides.nat_tests, lemmas.List.Folds.list_any_none}
use Rattle.std.proofs.{lemmas.Slice.Eq.starts_is, lemmas.List.Elements.All-weaker}
use Rattle.std.specs.Prelude.{◌==◌, nat_eq, drop, codes, if◌then◌else◌, option_and_then, All, Option, Some, None}
use Rattle.std.specs.List.{list_any, starts_with}
use Rattle.desk_model.specs.{BaseName.is_base_name, Name.Name, Names.IsNameOf, Names.mark_of, Names.ascii_form, Names.name_of, Names.name_with}

-- no asterisk is found among other characters
no_star : (xs : List ℕ) → All (λ c. c ≢ 42) xs → list_any (λ c. c == 42) xs ≡ false
no_star xs h = list_any_none (λ c. c == 42) xs (All-weaker (λ c. c ≢ 42) (λ c. (c == 42) ≡ false) (λ x ne. ne_eqb x 42 ne) xs h)

-- an asterisk in the text is found
star_found : (xs : List ℕ) (k d : ℕ) → k < length xs → get_or xs k d ≡ 42 → list_any (λ c. c == 42) xs ≡ true
star_found [] k d lt e = absurd (omega arith)
star_found (x ∷ xs) zero d lt e = rw (eq-eqb x 42 e) refl
star_found (x ∷ xs) (suc k) d lt e = grind (arith, nat_tests, (star_found xs k d (omega arith) e))

-- where no asterisk is found there is none
unstarred : (xs : List ℕ) → list_any (λ c. c == 42) xs ≡ false → All (λ c. c ≢ 42) xs
unstarred xs none = λ k d lt e. let found = star_found xs k d lt e in absurd (cc (none, found))

-- a text without an asterisk does not begin with the mark
no_mark : (xs : List ℕ) → All (λ c. c ≢ 42) xs → starts_with nat_eq xs (codes "*.") ≡ false
no_mark xs h = grind (arith, nat_tests)

-- the name with a rest that has a base
with_base : (w : Bool) (rest base : List ℕ) → list_any (λ c. c == 42) rest ≡ false → ascii_form rest ≡ Some base → is_base_name base ≡ true
    → name_with w rest ≡ Some (record { base = base; wildcard = w })
with_base w rest base none ascii well = rw (none, ascii, well) refl

-- a text that stands for a name is one that the function reads so
finds : (text base : List ℕ) (w : Bool) → IsNameOf text base w → name_of text ≡ Some (record { base = base; wildcard = w })
unfolding name_of
finds text base w h = grind (arith, nat_tests, with_base, no_star, no_mark)

-- the name of a rest, by whether it has an asterisk and by its form in ASCII
abbrev checked : Bool → Option (List ℕ) → Bool → Option Name
checked starred ascii w =
    if starred then None
    else option_and_then (λ base. if is_base_name base then Some (record { base = base; wildcard = w }) else None) ascii

-- what a name's rest is
record IsRead (starred : Bool) (ascii : Option (List ℕ)) (w : Bool) (name : Name) : Type 0 where
  none : starred ≡ false
  base : ascii ≡ Some name.base
  well_formed : is_base_name name.base ≡ true
  mark : w ≡ name.wildcard

-- a name is found only without an asterisk and with a form in ASCII
read_cases : (starred : Bool) (ascii : Option (List ℕ)) (w : Bool) (name : Name) → checked starred ascii w ≡ Some name → IsRead starred ascii w name
read_cases starred ascii w name h = grind (arith, nat_tests)

-- what the function reads behind a mark is a name that the text stands for
reads_behind : (w : Bool) (text rest : List ℕ) (name : Name) → text ≡ mark_of w ++ rest → name_with w rest ≡ Some name → IsNameOf text name.base name.wildcard
reads_behind w text rest name whole h = grind (arith, nat_tests, read_cases, unstarred)

-- what the function reads is a name that the text stands for
reads : (text : List ℕ) (name : Name) (marked : Bool) → starts_with nat_eq text (codes "*.") ≡ marked
    → (if marked then name_with true (drop 2 text) else name_with false text) ≡ Some name → IsNameOf text name.base name.wildcard
reads text name true m h = reads_behind true text (drop 2 text) name
    ((starts_is Decides-eqb text (codes "*.") (starts_with nat_eq text (codes "*.")) refl).0 m) h
reads text name false m h = reads_behind false text text name refl h

-- the text stands for the name that the function finds
pub name_of-IsNameOf : (text : List ℕ) (name : Name) → name_of text ≡ Some name → IsNameOf text name.base name.wildcard
unfolding name_of
name_of-IsNameOf text name h = reads text name (starts_with nat_eq text (codes "*.")) refl h

-- the function finds the name that a text stands for
pub name_of-finds : (text base : List ℕ) (w : Bool) → IsNameOf text base w ↔ (name_of text ≡ Some (record { base = base; wildcard = w }))
name_of-finds text base w = (finds text base w, name_of-IsNameOf text (record { base = base; wildcard = w }))

-- a text behind the mark is read so
pub name_of-marked : (text rest : List ℕ) → text ≡ codes "*." ++ rest → name_of text ≡ name_with true rest
unfolding name_of
name_of-marked text rest e = rw e refl

-- a text without the mark is read as it stands
pub name_of-unmarked : (text : List ℕ) → ((rest : List ℕ) → text ≢ codes "*." ++ rest) → name_of text ≡ name_with false text
unfolding name_of
name_of-unmarked text none = grind (arith, nat_tests)
