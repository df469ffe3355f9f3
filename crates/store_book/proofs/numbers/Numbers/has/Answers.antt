use Rattle.std.proofs.Common.{◌≡◌, ℕ, true, Result, Ok, Err, List, Ordering, nat_cmp, subst, sym, ◌∙◌, arith}
use Rattle.std.specs.Prelude.{IfOk, HoldsAt, is_ok}
use Rattle.store_book.specs.BookRows.{IsAmong, Rise}
use Rattle.store_book.proofs.Among.{among_at, search_finds}
use Rattle.store_book.proofs.numbers.Numbers.has.Goals as goal

-- a number that was found is among them
found : (xs : List ℕ) (n : ℕ) (r : Result ℕ ℕ) → IfOk r (HoldsAt (λ y. nat_cmp y n ≡ Ordering.Equal) xs) → is_ok r ≡ true → IsAmong xs n
found xs n (Ok i) holds is = among_at n xs i holds
found xs n (Err i) holds is = absurd (cc is)

pub returns-clause-among : goal.returns-clause-among
returns-clause-among c has =
    grind (arith, (found c.deref.result.now c.args.number c.binary_search.result c.binary_search.ensures.ok (sym c.is_ok.ensures.value ∙ has)))

pub returns-clause-found : goal.returns-clause-found
returns-clause-found c up among =
    grind (
      arith,
      (search_finds c.deref.result.now c.args.number c.binary_search.result c.binary_search.ensures.position
          (subst Rise (sym (c.deref.ensures.value ∙ c.self.view_is)) up)
          (subst (λ l. IsAmong l c.args.number) (sym (c.deref.ensures.value ∙ c.self.view_is)) among)),
    )
