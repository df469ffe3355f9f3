-- That what is shown, or moved, is there.
use Rattle.std.specs.{Prelude.◌==◌, Prelude.List, Prelude.IsSome, Prelude.IsSomeAnd, Prelude.IsTrue, Prelude.find, List.list_all}
use Rattle.model_laws.specs.Ordered.{Ascends}
use Rattle.desk_model.specs.{Allowed.may_want_on, Effect.has_row, Tables.Tables, declared.entry.Move.Move, declared.rows.AccountRow.AccountRow}
use Rattle.desk_model.specs.declared.{rows.AuthorizationRow.AuthorizationRow, rows.OrderRow.OrderRow, verdict.Shows.Shows, verdict.Verdict.Verdict}
use Rattle.desk_model.specs.Questions.{account_on, authorization_on, order_on, owner_on}
use Rattle.desk_model.specs.declared.verdict.Verdict.TheVariants.{Answers as answers, Moves as moves, Orders as orders}
use Rattle.desk_model.specs.declared.entry.Move.TheVariants as move
use Rattle.desk_model.specs.declared.verdict.Shows.TheVariants as show

-- what is shown of the tables
abbrev pub IsThere : Tables → Shows → Type 0
IsThere T (show.List what) = Unit {0}
IsThere T (show.Account n) = IsSome (account_on T n)
IsThere T (show.KnownAccount n) = IsSome (account_on T n)
IsThere T (show.Key n) = IsSome (account_on T n)
IsThere T (show.Order n) = IsSome (order_on T n)
IsThere T (show.Certificate n) = IsSomeAnd (order_on T n) (λ o. IsSome o.certified)
IsThere T (show.Authorization n) = IsSome (authorization_on T n)
IsThere T (show.Challenge n) = IsSome (owner_on T n)
IsThere T (show.ClientChallenge n) = IsSome (owner_on T n)

-- the object that a move names, among these accounts, authorizations and orders
abbrev pub IsAmong : Move → List AccountRow → List AuthorizationRow → List OrderRow → Type 0
IsAmong (move.ContactsChanged n contacts) xs ys zs = IsSome (find (λ a. a.number == n) xs)
IsAmong (move.KeyChanged n key) xs ys zs = IsSome (find (λ a. a.number == n) xs)
IsAmong (move.AccountEnded n ending) xs ys zs = IsSome (find (λ a. a.number == n) xs)
IsAmong (move.Answered n) xs ys zs = IsSome (find (has_row n) ys)
IsAmong (move.Reported n outcome) xs ys zs = IsSome (find (has_row n) ys)
IsAmong (move.AuthorizationEnded n ending) xs ys zs = IsSome (find (λ a. a.number == n) ys)
IsAmong (move.Finalized n csr) xs ys zs = IsSome (find (λ o. o.number == n) zs)
IsAmong (move.Certified n certificate) xs ys zs = IsSome (find (λ o. o.number == n) zs)
IsAmong (move.Failed n problem) xs ys zs = IsSome (find (λ o. o.number == n) zs)

-- the object that a verdict shows or moves, and the authorizations that an order uses again
abbrev pub NamesRows : Tables → Verdict → Type 0
NamesRows T (orders account wanted) = Ascends (λ a. a.number) 1 T.authorizations → IsTrue (list_all (may_want_on T account) wanted)
NamesRows T (answers what) = IsThere T what
NamesRows T (moves move) = IsAmong move T.accounts T.authorizations T.orders
NamesRows T _ = Unit {0}
