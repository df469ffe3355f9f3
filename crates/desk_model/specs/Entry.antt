-- The dated facts of a desk, of fourteen kinds, and the histories that they make.
use Rattle.std.specs.Prelude.{List}
pub use Rattle.desk_model.specs.declared.entry.Ending.{Ending}
pub use Rattle.desk_model.specs.declared.entry.Ending.TheVariants.{Deactivated as deactivated, Revoked as revoked}
pub use Rattle.desk_model.specs.declared.entry.Outcome.{Outcome}
pub use Rattle.desk_model.specs.declared.entry.Outcome.TheVariants.{Good as good, IncorrectResponse as incorrect_response, Connection as connection, Dns as dns}
pub use Rattle.desk_model.specs.declared.call.OrderProblem.{OrderProblem}
pub use Rattle.desk_model.specs.declared.entry.Wanted.{Wanted}
pub use Rattle.desk_model.specs.declared.entry.Wanted.TheVariants.{New as new, Reused as reused}
pub use Rattle.desk_model.specs.declared.entry.Entry.{Entry}
pub use Rattle.desk_model.specs.declared.entry.Entry.TheVariants.{Made as made, Issued as issued, Spent as spent}
pub use Rattle.desk_model.specs.declared.entry.Entry.TheVariants.{Opened as opened, ContactsChanged as contacts_changed, KeyChanged as key_changed}
pub use Rattle.desk_model.specs.declared.entry.Entry.TheVariants.{AccountEnded as account_ended, Ordered as ordered}
pub use Rattle.desk_model.specs.declared.entry.Entry.TheVariants.{Answered as answered, Reported as reported}
pub use Rattle.desk_model.specs.declared.entry.Entry.TheVariants.{AuthorizationEnded as authorization_ended}
pub use Rattle.desk_model.specs.declared.entry.Entry.TheVariants.{Finalized as finalized, Certified as certified}
pub use Rattle.desk_model.specs.declared.entry.Entry.TheVariants.{Failed as failed}
pub use Rattle.desk_model.specs.declared.entry.Dated.{Dated}
pub use Rattle.desk_model.specs.declared.entry.Move.{Move}
use Rattle.desk_model.specs.declared.entry.Move.TheVariants as move

-- the entry that a move is recorded as
abbrev pub entry_of : Move → Entry
entry_of (move.ContactsChanged account contacts) = contacts_changed account contacts
entry_of (move.KeyChanged account key) = key_changed account key
entry_of (move.AccountEnded account ending) = account_ended account ending
entry_of (move.Answered challenge) = answered challenge
entry_of (move.Reported challenge outcome) = reported challenge outcome
entry_of (move.AuthorizationEnded authorization ending) = authorization_ended authorization ending
entry_of (move.Finalized order csr) = finalized order csr
entry_of (move.Certified order certificate) = certified order certificate
entry_of (move.Failed order problem) = failed order problem

-- what was recorded, the latest first
abbrev pub History : Type 0
History = List Dated
