-- What an entry may keep as text: UTF-8, and in no other encoding.
use Rattle.std.specs.Prelude.{ℕ, List, [], ◌∷◌, ◌++◌, codes}
use Rattle.desk_model.specs.Legal.{IsFormed}
use Rattle.model_examples.specs.{Calls.first_key, Entries.contacts_changed, Entries.failed, Entries.opened}

-- a contact with the character ü in UTF-8
abbrev pub utf8_contact : List ℕ
utf8_contact = codes "mailto:" ++ (195 ∷ 188 ∷ codes "@b.example")

-- and in Latin-1
abbrev pub latin_contact : List ℕ
latin_contact = codes "mailto:" ++ (252 ∷ codes "@b.example")

-- what an entry may keep as text
pub record EntriesAreFormed : Type 0 where
  -- contacts are changed to a text
  pub changes_to_text : IsFormed (contacts_changed 1 (utf8_contact ∷ []))
  -- and to nothing that is none, in whatever place
  pub changes_to_latin : ¬ IsFormed (contacts_changed 1 (utf8_contact ∷ latin_contact ∷ []))
  -- nor is an account opened with it
  pub opens_with_latin : ¬ IsFormed (opened first_key (latin_contact ∷ []))
  -- nor does an order fail by it
  pub fails_by_latin : ¬ IsFormed (failed 1 (record { kind = codes "badCSR"; detail = latin_contact }))
