-- Errors of memory and of the disk.
use Rattle.std.specs.Prelude.{◌≡◌, ◌⊎◌}
use Rattle.sqlite.specs.declared.error.{Error.Error, Error.TheVariants.SqliteFailure}
use Rattle.sqlite.specs.declared.error.ErrorCode.TheVariants as code

-- memory was refused, or the disk failed, is full or returns what was not written
abbrev pub IsFailure : Error → Type 0
IsFailure e =
    (e ≡ SqliteFailure code.OutOfMemory)
    ⊎ ((e ≡ SqliteFailure code.SystemIoFailure) ⊎ ((e ≡ SqliteFailure code.DatabaseCorrupt) ⊎ (e ≡ SqliteFailure code.DiskFull)))
