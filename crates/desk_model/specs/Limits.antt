-- The limits of the desk: moments, numbers, counts and lengths.
use Rattle.std.specs.Prelude.{ℕ, ◌^◌}

-- the last moment at which a call may be made
abbrev pub last_moment : ℕ
last_moment = 250000000000

-- the last moment of all and the longest life after it
abbrev pub last_end : ℕ
last_end = 250315360000

-- the bytes of the base of the URLs, at least
abbrev pub shortest_base : ℕ
shortest_base = 8

-- and at most
abbrev pub longest_base : ℕ
longest_base = 256

-- the longest life of nonces, orders and authorizations
abbrev pub longest_life : ℕ
longest_life = 315360000

-- the greatest number that an object may have
abbrev pub last_number : ℕ
last_number = 2 ^ 62

-- the names of an order
abbrev pub most_names : ℕ
most_names = 50

-- the contacts of an account
abbrev pub most_contacts : ℕ
most_contacts = 10

-- the bytes of a contact
abbrev pub longest_contact : ℕ
longest_contact = 320

-- the bytes of a CSR
abbrev pub longest_csr : ℕ
longest_csr = 8192

-- the bytes of a certificate
abbrev pub longest_certificate : ℕ
longest_certificate = 65536

-- the bytes of the detail of an order's problem
abbrev pub longest_detail : ℕ
longest_detail = 256

-- the bytes of the head of an HTTP request
abbrev pub longest_head : ℕ
longest_head = 16384

-- the bytes of the body of an HTTP request
abbrev pub longest_body : ℕ
longest_body = 131072
