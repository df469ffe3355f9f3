-- The rows of a table of the page, shown so far.
use Rattle.std.proofs.Common.{◌≡◌, ◌∙◌, ◌++◌, ◌-◌, ◌^◌, Bool, true, false, List, [], ◌∷◌, ℕ, ap, append-nil, arith, cond, filter, length, length-append, min}
use Rattle.std.proofs.Common.{nat_lt, refl, subst, sym, take}
use Rattle.std.proofs.{KnownBytes.Appends-nil, KnownBytes.Appends-trans, lemmas.Bool.le-ltb, lemmas.Bool.lt-ltb, lemmas.Bool.ltb-false, lemmas.Bool.ltb-true}
use Rattle.std.proofs.{lemmas.List.take-append-le, lemmas.List.take_all, lemmas.List.Concat.flat_map-append, lemmas.List.Elements.filter-append}
use Rattle.std.specs.{Io.KnownBytes.Appends, List.flat_map, Prelude.Option}
use Rattle.app_page.specs.Page.{IsShown, ShowsFirst, if_room}
use Rattle.app_reports.proofs.SoFar.{SoFar, more_so, none_so}

-- of one more the first ones are one more, where there is room
take_room : {X : Type 0} (n : ℕ) (xs : List X) (x : X) → take n (xs ++ x ∷ []) ≡ take n xs ++ cond (nat_lt (length xs) n) (x ∷ []) []
take_room n xs x = by (nat_lt (length xs) n) refl
  where
    by : (b : Bool) → nat_lt (length xs) n ≡ b → take n (xs ++ x ∷ []) ≡ take n xs ++ cond b (x ∷ []) []
    by true more =
        let below = ltb-true (length xs) n more in
        let longer = length-append xs (x ∷ []) in
        take_all n (xs ++ x ∷ []) (omega (arith, below, longer)) ∙ ap (λ l. l ++ x ∷ []) (sym (take_all n xs (omega (arith, below))))
    by false less = take-append-le n xs (x ∷ []) (ltb-false (length xs) n less) ∙ sym (append-nil (take n xs))

-- there is room behind so many as were counted
room_counted : (n count : ℕ) → count ≡ min n (2 ^ 64 - 1) → nat_lt count 50 ≡ nat_lt n 50
room_counted n count is = by (nat_lt n 50) refl
  where
    by : (b : Bool) → nat_lt n 50 ≡ b → nat_lt count 50 ≡ b
    by true more = let below = ltb-true n 50 more in lt-ltb count 50 (omega (arith, is, below))
    by false less = let beyond = ltb-false n 50 less in le-ltb count 50 (omega (arith, is, beyond))

module _ {X : Type 0} (wanted : X → Bool) (html : X → List ℕ) where
  -- the rows before those that are left were looked at
  abbrev pub ShowsSoFar : (was is : Option (List ℕ)) → (rows left : List X) → (count : ℕ) → Type 0
  ShowsSoFar was is rows left count = SoFar (λ seen. ShowsFirst html was is (filter wanted seen) count) rows left

  -- none yet
  pub shows_none : (was : Option (List ℕ)) (rows : List X) → ShowsSoFar was was rows rows 0
  shows_none was rows = none_so (λ seen. ShowsFirst html was was (filter wanted seen) 0) rows rows refl (Appends-nil was, refl)

  -- the first ones, with one more
  first_more : (kept : List X) (row : X) (count : ℕ) → count ≡ min (length kept) (2 ^ 64 - 1)
      → flat_map html (take 50 (kept ++ row ∷ [])) ≡ flat_map html (take 50 kept) ++ if_room count (html row)
  first_more kept row count counted =
      ap (flat_map html) (take_room 50 kept row) ∙ flat_map-append html (take 50 kept) (cond (nat_lt (length kept) 50) (row ∷ []) [])
      ∙ ap (λ l. flat_map html (take 50 kept) ++ l) (by (nat_lt (length kept) 50))
      ∙ ap (λ b. flat_map html (take 50 kept) ++ cond b (html row) []) (sym (room_counted (length kept) count counted))
    where
      by : (b : Bool) → flat_map html (cond b (row ∷ []) []) ≡ cond b (html row) []
      by true = append-nil (html row)
      by false = refl

  -- one more that is asked for, or is not
  first_turn : (was mid is : Option (List ℕ)) (kept : List X) (row : X) (b : Bool) (count next : ℕ) → ShowsFirst html was mid kept count
      → IsShown b (html row) mid is count next → ShowsFirst html was is (kept ++ cond b (row ∷ []) []) next
  first_turn was mid is kept row true count next so_far turn = (
    subst (Appends was is) (sym (first_more kept row count so_far.1))
        (Appends-trans was mid is (flat_map html (take 50 kept)) (if_room count (html row)) so_far.0 turn.0),
    let more = length-append kept (row ∷ []) in
        let counted = so_far.1 in
        let counts = turn.1 in omega (arith, more, counted, counts),
  )
  first_turn was mid is kept row false count next so_far turn =
      subst (λ l. ShowsFirst html was is l next) (sym (append-nil kept)) (
        subst (Appends was is) (append-nil (flat_map html (take 50 kept)))
            (Appends-trans was mid is (flat_map html (take 50 kept)) [] so_far.0 turn.0),
        turn.1 ∙ so_far.1,
      )

  -- one more
  pub shows_turn : (was mid is : Option (List ℕ)) (rows left rest : List X) (row : X) (count next : ℕ) → ShowsSoFar was mid rows left count
      → left ≡ row ∷ rest → IsShown (wanted row) (html row) mid is count next → ShowsSoFar was is rows rest next
  shows_turn was mid is rows left rest row count next so_far follows turn =
      more_so (λ seen. ShowsFirst html was mid (filter wanted seen) count) (λ seen. ShowsFirst html was is (filter wanted seen) next)
      rows left (row ∷ []) rest so_far follows
      (λ seen shown. subst (λ l. ShowsFirst html was is l next) (sym (filter-append wanted seen (row ∷ [])))
      (first_turn was mid is (filter wanted seen) row (wanted row) count next shown turn))
