-- The dated facts of a desk, by the names that the model gives them.
pub use Rattle.desk_model.specs.{Entry.History, declared.entry.Dated.Dated, declared.entry.Entry.Entry}
pub use Rattle.desk_model.specs.declared.entry.Entry.TheVariants.{Made as made, Issued as issued, Spent as spent, Opened as opened}
pub use Rattle.desk_model.specs.declared.entry.Entry.TheVariants.{ContactsChanged as contacts_changed, KeyChanged as key_changed, AccountEnded as account_ended}
pub use Rattle.desk_model.specs.declared.entry.Entry.TheVariants.{Ordered as ordered, Answered as answered, Reported as reported}
pub use Rattle.desk_model.specs.declared.entry.Entry.TheVariants.{AuthorizationEnded as authorization_ended, Finalized as finalized, Certified as certified}
pub use Rattle.desk_model.specs.declared.entry.Entry.TheVariants.{Failed as failed}
pub use Rattle.desk_model.specs.declared.entry.Ending.TheVariants.{Deactivated as deactivated, Revoked as revoked}
pub use Rattle.desk_model.specs.declared.entry.Outcome.TheVariants.{Good as good, IncorrectResponse as incorrect_response, Connection as connection, Dns as dns}
pub use Rattle.desk_model.specs.declared.entry.Wanted.TheVariants.{New as new, Reused as reused}
