-- Nonces (RFC 8555, 6.5).
use Rattle.std.specs.Prelude.{ℕ, ◌+◌, List, [], ◌∷◌, ◌++◌, length, Bool, ◌&&◌, ◌==◌, nat_le, Option, Some, None, find, is_none, if◌then◌else◌}
use Rattle.desk_model.specs.{Entry.Entry, Entry.issued, Entry.spent, Entry.History, History.first, History.terms}
pub use Rattle.desk_model.specs.declared.objects.Nonce.{Nonce}

-- the nonce that the entry issues, if it does
abbrev pub issued_by : Entry → (date number : ℕ) → List Nonce
issued_by (issued random) date number = (record { serial = number; random = random; issued = date }) ∷ []
issued_by _ date number = []

-- the nonces that were issued, by serial
abbrev pub nonces : History → List Nonce
nonces [] = []
nonces (e ∷ before) = nonces before ++ issued_by e.entry e.date (length (nonces before) + 1)

abbrev pub nonce : ℕ → History → Option Nonce
nonce serial F = find (λ n. n.serial == serial) (nonces F)

abbrev pub spending : ℕ → Entry → ℕ → Option ℕ
spending serial (spent nonce) date = if nonce == serial then Some date else None
spending serial _ date = None

-- when the nonce was spent
abbrev pub when_spent : ℕ → History → Option ℕ
when_spent serial F = first (λ e. spending serial e.entry e.date) F

-- it was issued, is not spent and not past its life
abbrev pub is_open : History → ℕ → Nonce → Bool
is_open F m n = is_none (when_spent n.serial F) && nat_le m (n.issued + (terms F).nonce_life)
