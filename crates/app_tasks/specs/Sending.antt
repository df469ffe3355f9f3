-- The file of a desk and its log, as a backup of a desk that is served has them.
use Rattle.std.specs.Prelude.{◌≡◌, ℕ, ◌+◌, ◌++◌, List, Option, codes, decimal, length}
use Rattle.std.specs.Io.KnownBytes.{Appends, Consumes, IsAtEnd}

-- the line before them: how many bytes the file and its log have
abbrev pub sizes_line : (file log : ℕ) → List ℕ
sizes_line file log = decimal file ++ (codes " " ++ (decimal log ++ codes "\n"))

-- that line, the bytes of the file, and those of its log
abbrev pub backup_bytes : (file log : List ℕ) → List ℕ
backup_bytes file log = sizes_line (length file) (length log) ++ (file ++ log)

-- bytes were read of the one and written to the other, all but the rest of so many
pub record Moves (read left was is : Option (List ℕ)) (whole rest : ℕ) : Type 0 where
  pub bytes : List ℕ
  pub reads : Consumes read left bytes
  pub writes : Appends was is bytes
  pub count : length bytes + rest ≡ whole

-- so many bytes were, and there were no more to be read
pub record MovesAll (read left was is : Option (List ℕ)) (whole : ℕ) : Type 0 where
  pub moves : Moves read left was is whole 0
  pub ends : IsAtEnd left

-- a file and its log were read to their ends, and their backup was written
pub record SendsBoth (file_read file_left log_read log_left was is : Option (List ℕ)) : Type 0 where
  pub file : List ℕ
  pub log : List ℕ
  pub reads_file : Consumes file_read file_left file
  pub ends_file : IsAtEnd file_left
  pub reads_log : Consumes log_read log_left log
  pub ends_log : IsAtEnd log_left
  pub writes : Appends was is (backup_bytes file log)

-- the backup of some file and log was written
abbrev pub SendsBackup : (was is : Option (List ℕ)) → Type 0
SendsBackup was is = (file log : List ℕ) × Appends was is (backup_bytes file log)
