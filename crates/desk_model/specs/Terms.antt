-- What the operator fixes when the desk is made: the base of its URLs and the lives, in seconds.
use Rattle.std.specs.Prelude.{ℕ, Bool, not, ◌&&◌, ◌||◌, ◌==◌, nat_eq, ◌-◌, List, length, codes, slice_index}
use Rattle.std.specs.{Int.is_in_range, List.list_all, List.starts_with}
use Rattle.desk_model.specs.Limits.{longest_base, longest_life, shortest_base}

pub record Terms : Type 0 where
  pub base : List ℕ
  pub nonce_life : ℕ
  pub order_life : ℕ
  pub authz_life : ℕ

-- printable ASCII without the five characters space " < > \
abbrev pub is_base_byte : ℕ → Bool
is_base_byte c = is_in_range 33 126 c && not (c == 34 || c == 60 || c == 62 || c == 92)

-- a web scheme stands first
abbrev pub has_scheme : List ℕ → Bool
has_scheme b = starts_with nat_eq b (codes "http://") || starts_with nat_eq b (codes "https://")

-- a base URL: http or https, of so many such bytes, with no slash at its end
abbrev pub is_base : List ℕ → Bool
is_base b =
    has_scheme b
    && (is_in_range shortest_base longest_base (length b) && (list_all is_base_byte b && not (slice_index b (length b - 1) == 47)))

-- a number of seconds that something may live
abbrev pub is_life : ℕ → Bool
is_life n = is_in_range 1 longest_life n

-- a desk may be made with these terms
abbrev pub are_terms : Terms → Bool
are_terms t = is_base t.base && (is_life t.nonce_life && (is_life t.order_life && is_life t.authz_life))
