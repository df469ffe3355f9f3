-- What is true of the texts of moments.
use Rattle.std.specs.Prelude.{◌≡◌, List, ℕ}
use Rattle.desk_model.specs.Moment.{IsMomentText, moment_text}

-- the function gives the text of a moment
abbrev pub GivesTheText : Type 0
GivesTheText = (moment : ℕ) (text : List ℕ) → IsMomentText moment text → text ≡ moment_text moment

-- different moments have different texts
abbrev pub TellsMomentsApart : Type 0
TellsMomentsApart = (moment other : ℕ) (text : List ℕ) → IsMomentText moment text → IsMomentText other text → moment ≡ other
