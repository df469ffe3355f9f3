-- What is copied of what a desk that is served shows.
use Rattle.std.specs.Prelude.{◌≡◌, ◌↔◌, ℕ, ◌++◌, Bool, List, Option, IsTrue}
use Rattle.std.specs.Io.KnownBytes.{Appends, Consumes, IsAtEnd}

-- just this was shown: it was written, and what was read, up to the end, is a head, it and a last line
pub record Copies (head last : List ℕ) (input left was is : Option (List ℕ)) (shown : List ℕ) : Type 0 where
  pub read : Consumes input left (head ++ (shown ++ last))
  pub end : IsAtEnd left
  pub written : Appends was is shown

-- all that was shown was copied, and it is told whether that is a text
abbrev pub CopiesAll : (head last text : List ℕ) (input left was is : Option (List ℕ)) → Bool → Type 0
CopiesAll head last text input left was is is_text = (shown : List ℕ) × Copies head last input left was is shown × (IsTrue is_text ↔ (shown ≡ text))

-- the same, where of the bytes that were read nothing is known
abbrev pub WritesAll : (text : List ℕ) (was is : Option (List ℕ)) → Bool → Type 0
WritesAll text was is is_text = (shown : List ℕ) × Appends was is shown × (IsTrue is_text ↔ (shown ≡ text))

-- something was written, or nothing
abbrev pub WritesSome : (was is : Option (List ℕ)) → Type 0
WritesSome was is = (part : List ℕ) × Appends was is part

-- what was shown behind a piece that had been read was copied with it, up to the last line
pub record CopiesLong (piece last : List ℕ) (input left was is : Option (List ℕ)) : Type 0 where
  pub shown : List ℕ
  pub bytes : List ℕ
  pub read : Consumes input left bytes
  pub end : IsAtEnd left
  pub whole : piece ++ bytes ≡ shown ++ last
  pub written : Appends was is shown
