-- How the examples write histories and calls.
use Rattle.std.specs.Prelude.{ℕ, List, [], ◌∷◌, false, Some, Ok, codes, replicate}
use Rattle.desk_model.specs.{Terms.Terms, Name.Name, declared.entry.Wanted.Wanted, declared.call.Call.Call, declared.call.Ask.Ask, declared.call.Target.Target}
use Rattle.model_examples.specs.Entries.{Entry, made, issued, opened, ordered, new, Dated, History}
use Rattle.desk_model.specs.declared.call.Ask.TheVariants as ask

-- the base https://ca.example, and these lives
abbrev pub terms_of : (nonce_life order_life authz_life : ℕ) → Terms
terms_of nonce_life order_life authz_life =
    record { base = codes "https://ca.example"; nonce_life = nonce_life; order_life = order_life; authz_life = authz_life }

-- the lives that a desk has where nothing else is said: an hour, a week and thirty days
abbrev pub default_terms : Terms
default_terms = terms_of 3600 604800 2592000

-- an entry with its date
abbrev pub on : ℕ → Entry → Dated
on date entry = record { date = date; entry = entry }

-- so many random bytes, all zero
abbrev pub zeros : ℕ → List ℕ
zeros n = replicate n 0

-- a desk that was made at 0 and has done nothing
abbrev pub new_desk : History
new_desk = on 0 (made default_terms) ∷ []

-- ---- two keys

-- the canonical text of a key
abbrev pub first_key : List ℕ
first_key = codes "{\"crv\":\"P-256\",\"kty\":\"EC\",\"x\":\"AQ\",\"y\":\"Ag\"}"

-- that of another
abbrev pub second_key : List ℕ
second_key = codes "{\"crv\":\"P-256\",\"kty\":\"EC\",\"x\":\"Aw\",\"y\":\"Ag\"}"

-- ---- the nonces of sixteen zero bytes, by serial

-- the first
abbrev pub nonce_one : List ℕ
nonce_one = codes "AAAAAAAAAAEAAAAAAAAAAAAAAAAAAAAA"

abbrev pub nonce_two : List ℕ
nonce_two = codes "AAAAAAAAAAIAAAAAAAAAAAAAAAAAAAAA"

abbrev pub nonce_three : List ℕ
nonce_three = codes "AAAAAAAAAAMAAAAAAAAAAAAAAAAAAAAA"

abbrev pub nonce_four : List ℕ
nonce_four = codes "AAAAAAAAAAQAAAAAAAAAAAAAAAAAAAAA"

abbrev pub nonce_five : List ℕ
nonce_five = codes "AAAAAAAAAAUAAAAAAAAAAAAAAAAAAAAA"

abbrev pub nonce_six : List ℕ
nonce_six = codes "AAAAAAAAAAYAAAAAAAAAAAAAAAAAAAAA"

abbrev pub nonce_seven : List ℕ
nonce_seven = codes "AAAAAAAAAAcAAAAAAAAAAAAAAAAAAAAA"

-- ---- calls

-- what is asked at a moment, with so many random bytes
abbrev pub asked : ℕ → ℕ → Ask → Call
asked at random what = record { at = at; random = zeros random; ask = what }

-- a signed request with a key and a nonce
abbrev pub signed : (key nonce : List ℕ) → Target → List ℕ → Ask
signed key nonce target payload = ask.Signed (record { target = target; key = Ok key; nonce = Some nonce; payload = payload })

-- by the first account, with the first nonce and the next random bytes, at a moment
abbrev pub request_at : ℕ → Target → List ℕ → Call
request_at at target payload = asked at 16 (signed first_key nonce_one target payload)

-- at 0
abbrev pub request : Target → List ℕ → Call
request target payload = request_at 0 target payload

-- ---- histories with an open nonce, the first

-- a desk with one account
abbrev pub account_desk : History
account_desk = on 0 (opened first_key []) ∷ on 0 (issued (zeros 16)) ∷ new_desk

-- the name with this base
abbrev pub simple : List ℕ → Name
simple base = record { base = base; wildcard = false }

-- a name with the tokens of its two challenges
abbrev pub wants : List ℕ → Wanted
wants base = new (simple base) (zeros 16 ∷ zeros 16 ∷ [])

-- a desk made with these terms, with an order of a.example
abbrev pub order_desk : Terms → History
order_desk terms = on 0 (ordered 1 (wants (codes "a.example") ∷ [])) ∷ on 0 (opened first_key []) ∷ on 0 (issued (zeros 16)) ∷ on 0 (made terms) ∷ []
