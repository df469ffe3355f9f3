use Rattle.std.proofs.Common.{◌≡◌, map, take}
use Rattle.store_book.proofs.accounts.have_distinct_texts.Given as goal

abbrev pub invariant-loop-key : goal.invariant-loop-key
invariant-loop-key l = map (λ text. text.now) l.texts.items ≡ take l.key-index l.keys
