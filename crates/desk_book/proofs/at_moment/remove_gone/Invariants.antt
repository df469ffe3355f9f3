use Rattle.std.proofs.Common.{◌≡◌, ◌++◌, map, filter, not}
use Rattle.desk_model.specs.{Change.nonces_gone, Effect.lasts, declared.rows.Change.TheVariants.RemoveNonce}
use Rattle.desk_book.proofs.at_moment.remove_gone.Given as goal

abbrev pub invariant-loop-nonce : goal.invariant-loop-nonce
invariant-loop-nonce l =
    l.changes.items ++ map RemoveNonce (map (λ n. n.serial) (filter (λ n. not (lasts l.book.meta.policy l.moment n)) l.nonce-iterator))
    ≡ l.fn.changes.items ++ map RemoveNonce (nonces_gone l.moment l.book)
