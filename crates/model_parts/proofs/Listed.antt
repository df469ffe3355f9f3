-- With an order the authorizations that it lists.
use Rattle.std.proofs.Common.{◌≡◌, true}
use Rattle.desk_model.specs.{Derived.numbers_of, Tables.Tables, Kept.EachOf, Kept.Kept}

abbrev pub KeepsListed : Kept → Tables → Type 0
KeepsListed k T = EachOf (λ o. k.orders o.number ≡ true → EachOf (λ n. k.authorizations n ≡ true) (numbers_of o.listed)) T.orders
