-- The first order, and what its names make (RFC 8555, 7.1.3, 7.1.4, 7.4).
use Rattle.std.specs.Prelude.{◌≡◌, ℕ, [], ◌∷◌, true, false, Some, None, codes}
use Rattle.desk_model.specs.{Name.Name, Run.fault, Run.run, declared.call.Call.Call, declared.call.Target.Target}
use Rattle.model_examples.specs.Entries.{Entry, issued, spent, ordered, new, History}
use Rattle.model_examples.specs.Computed.{Answer, Gives, plain, located, renewed, shows, Json, below}
use Rattle.model_examples.specs.Calls.{on, zeros, new_desk, first_key, asked, signed, nonce_four, nonce_five, nonce_six, nonce_seven}
use Rattle.model_examples.specs.Accounts.{opening, knowing, asking_existing, with_fifth_nonce}
use Rattle.desk_model.specs.declared.call.Ask.TheVariants as ask
use Rattle.desk_model.specs.declared.call.Target.TheVariants as to

-- an order of two spellings of one name and of its wildcard, with so many random bytes
abbrev pub ordering : ℕ → Call
ordering random = asked 0 random (signed first_key nonce_four to.NewOrder
    (codes "{\"identifiers\":[{\"type\":\"dns\",\"value\":\"Example.ORG\"},{\"type\":\"dns\",\"value\":\"example.org\"},{\"type\":\"dns\",\"value\":\"*.example.org\"}]}"))

-- the name of the order
abbrev pub example_org : Name
example_org = record { base = codes "example.org"; wildcard = false }

-- its wildcard
abbrev pub any_example_org : Name
any_example_org = record { base = codes "example.org"; wildcard = true }

-- a name once, with a token for each of its challenges
abbrev pub first_ordered : Entry
first_ordered = ordered 1 (new example_org (zeros 16 ∷ zeros 16 ∷ []) ∷ new any_example_org (zeros 16 ∷ []) ∷ [])

-- the first order: names that are equal keep their first place, a wildcard stands apart
abbrev pub FirstOrder : Type 0
FirstOrder = Gives with_fifth_nonce (ordering 64) (located (codes "https://ca.example/order/1") (renewed nonce_six (plain 201 (Json (codes
    "{\"authorizations\":[\"https://ca.example/authz/1\",\"https://ca.example/authz/2\"],\"expires\":\"1970-01-08T00:00:00Z\",\"finalize\":\"https://ca.example/order/1/finalize\",\"identifiers\":[{\"type\":\"dns\",\"value\":\"example.org\"},{\"type\":\"dns\",\"value\":\"*.example.org\"}],\"status\":\"pending\"}")))))
    (spent 4 ∷ issued (zeros 16) ∷ first_ordered ∷ [])

-- 64 random bytes are enough: 16 for the nonce and 16 for each of three challenges
abbrev pub EnoughRandom : Type 0
EnoughRandom = fault with_fifth_nonce (ordering 64) ≡ None

-- with one less the call has a fault, and records nothing
abbrev pub ShortRandomKeepsNonce : Type 0
ShortRandomKeepsNonce = fault with_fifth_nonce (ordering 63) ≡ Some 25

-- a call with a fault has no reply, and its nonce stays open
abbrev pub ShortRandomRecordsNothing : Type 0
ShortRandomRecordsNothing = run with_fifth_nonce (ordering 63 ∷ []) ≡ (record { replies = []; history = with_fifth_nonce })

-- the desk after the first order
abbrev pub with_order : History
with_order = on 0 first_ordered ∷ on 0 (issued (zeros 16)) ∷ on 0 (spent 4) ∷ with_fifth_nonce

-- the object is read with the next nonce, and the answer has one more
abbrev pub Shown : Target → Answer → Type 0
Shown target answer = Gives with_order (asked 0 16 (signed first_key nonce_five target [])) (renewed nonce_seven answer) (spent 5 ∷ issued (zeros 16) ∷ [])

-- the authorization of the name, with a challenge of each type
abbrev pub FirstAuthorization : Type 0
FirstAuthorization = Shown (to.Authz 1) (shows (codes
    "{\"challenges\":[{\"status\":\"pending\",\"token\":\"AAAAAAAAAAAAAAAAAAAAAA\",\"type\":\"http-01\",\"url\":\"https://ca.example/chall/1\"},{\"status\":\"pending\",\"token\":\"AAAAAAAAAAAAAAAAAAAAAA\",\"type\":\"dns-01\",\"url\":\"https://ca.example/chall/2\"}],\"expires\":\"1970-01-31T00:00:00Z\",\"identifier\":{\"type\":\"dns\",\"value\":\"example.org\"},\"status\":\"pending\"}"))

-- that of the wildcard, with the base name and the type that proves a whole zone
abbrev pub WildcardAuthorization : Type 0
WildcardAuthorization = Shown (to.Authz 2) (shows (codes
    "{\"challenges\":[{\"status\":\"pending\",\"token\":\"AAAAAAAAAAAAAAAAAAAAAA\",\"type\":\"dns-01\",\"url\":\"https://ca.example/chall/3\"}],\"expires\":\"1970-01-31T00:00:00Z\",\"identifier\":{\"type\":\"dns\",\"value\":\"example.org\"},\"status\":\"pending\",\"wildcard\":true}"))

-- its challenge, with a link to it
abbrev pub WildcardChallenge : Type 0
WildcardChallenge = Shown (to.Chall 3) (below (codes "https://ca.example/authz/2") (shows (codes
    "{\"status\":\"pending\",\"token\":\"AAAAAAAAAAAAAAAAAAAAAA\",\"type\":\"dns-01\",\"url\":\"https://ca.example/chall/3\"}")))

-- the desk gets there by the calls that were shown, in their order
abbrev pub FirstCalls : Type 0
FirstCalls = (run new_desk (asked 0 16 (ask.NewNonce false) ∷ opening ∷ opening ∷ knowing ∷ asking_existing ∷ ordering 64 ∷ [])).history ≡ with_order
