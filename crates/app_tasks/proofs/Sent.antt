-- Bytes that are read of the one and written to the other, in steps.
use Rattle.std.proofs.Common.{◌≡◌, ℕ, ◌+◌, ◌++◌, List, Option, length, arith, subst}
use Rattle.std.proofs.{lemmas.List.length-append, KnownBytes.Appends-trans, KnownBytes.Consumes-trans}
use Rattle.std.specs.Io.KnownBytes.{Appends}
use Rattle.app_tasks.specs.Sending.{Moves, MovesAll, SendsBoth, sizes_line}

-- some more
pub moves_more : {read mid left was between is : Option (List ℕ)} {whole rest more after : ℕ}
    → Moves read mid was between whole rest → Moves mid left between is more 0 → after + more ≡ rest → Moves read left was is whole after
moves_more {read} {mid} {left} {was} {between} {is} h k e = record {
  bytes = h.bytes ++ k.bytes;
  reads = Consumes-trans read mid left h.bytes k.bytes h.reads k.reads;
  writes = Appends-trans was between is h.bytes k.bytes h.writes k.writes;
  count = omega (arith, length-append h.bytes k.bytes, h.count, k.count);
}

-- how many bytes were moved, where no rest is left
pub whole_is : {read left was is : Option (List ℕ)} {whole : ℕ} (h : Moves read left was is whole 0) → whole ≡ length h.bytes
whole_is h = omega (arith, h.count)

-- a line of sizes, and then as many bytes of the one and of the other
pub sends_both : {file_read file_left log_read log_left was begun between is : Option (List ℕ)} {file log : ℕ}
    → Appends was begun (sizes_line file log) → MovesAll file_read file_left begun between file → MovesAll log_read log_left between is log
    → SendsBoth file_read file_left log_read log_left was is
sends_both {file_read} {file_left} {log_read} {log_left} {was} {begun} {between} {is} {file} {log} line h k = record {
  file = h.moves.bytes;
  log = k.moves.bytes;
  reads_file = h.moves.reads;
  ends_file = h.ends;
  reads_log = k.moves.reads;
  ends_log = k.ends;
  writes =
      let sizes : sizes_line file log ≡ sizes_line (length h.moves.bytes) (length k.moves.bytes) =
      (λ i. sizes_line (whole_is h.moves i) (whole_is k.moves i)) in
      Appends-trans was begun is _ _ (subst (Appends was begun) sizes line)
      (Appends-trans begun between is h.moves.bytes k.moves.bytes h.moves.writes k.moves.writes);
}
