-- Entries that do not make the desk.
use Rattle.desk_model.specs.declared.entry.{Entry.Entry, Entry.TheVariants.Made as made}

-- the entry does not make the desk
abbrev pub IsLater : Entry → Type 0
IsLater (made terms) = ⊥
IsLater _ = Unit {0}
