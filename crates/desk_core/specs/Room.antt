-- Whether a nonce can be issued.
use Rattle.std.specs.Prelude.{ℕ, ◌<◌, ◌≤◌, List, length}
use Rattle.desk_model.specs.{Limits.last_number, Tables.Tables}
use Rattle.core_rules.specs.declared.fault.CoreFault.{CoreFault}
use Rattle.core_rules.specs.declared.fault.CoreFault.TheVariants as fault

-- why no nonce is issued: out of memory, no number left, or a number and too few random bytes
abbrev pub IsIssueFault : Tables → List ℕ → CoreFault → Type 0
IsIssueFault T random fault.Memory = Unit {0}
IsIssueFault T random fault.Full = last_number ≤ T.meta.counters.nonces
IsIssueFault T random fault.ShortRandom = (T.meta.counters.nonces < last_number) × (length random < 16)
