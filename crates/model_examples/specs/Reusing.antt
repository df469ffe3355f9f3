-- Orders that use valid authorizations again (RFC 8555, 7.4).
use Rattle.std.specs.Prelude.{◌≡◌, ℕ, [], ◌∷◌, Option, Some, None, true, codes, map, option_map}
use Rattle.desk_model.specs.{Authorization.authorizations, Authorization.count_challenges, Name.Name, Order.order_by_number, Rules.wanted, Tables.tables_at}
use Rattle.desk_model.specs.{Terms.Terms, Questions.order_on, Questions.serving_on, declared.entry.Wanted.Wanted, declared.status.OrderStatus.OrderStatus}
use Rattle.desk_model.specs.declared.status.OrderStatus.TheVariants as order
use Rattle.model_examples.specs.Entries.{History, answered, authorization_ended, certified, finalized, good}
use Rattle.model_examples.specs.Entries.{key_changed, opened, ordered, reported, reused, revoked}
use Rattle.model_examples.specs.Calls.{first_key, on, order_desk, second_key, simple, terms_of, wants, zeros}
use Rattle.model_examples.specs.Following.{May, MayNot}

-- a desk with these terms whose first authorization, for a.example, is valid
abbrev pub proved_desk : Terms → History
proved_desk terms = on 0 (reported 1 good) ∷ on 0 (answered 1) ∷ order_desk terms

-- authorizations live longer than orders
abbrev pub long : Terms
long = terms_of 3600 100 200

-- a.example with the authorization of this number
abbrev pub again : ℕ → Wanted
again n = reused (simple (codes "a.example")) n

abbrev pub wildcard : Name
wildcard = record { base = codes "a.example"; wildcard = true }

-- ---- which is used

-- the number of the one that serves
abbrev pub serving : History → ℕ → Name → Option ℕ
serving F m name = option_map (λ r. r.number) (serving_on (tables_at F m) 1 name)

-- a second order for the name, with an authorization of its own that was proved, too
abbrev pub twice_proved : History
twice_proved = on 0 (reported 3 good) ∷ on 0 (answered 3) ∷ on 0 (ordered 1 (wants (codes "a.example") ∷ [])) ∷ proved_desk long

-- ---- what is made

-- an order of a name with the authorization that was there, and of another
abbrev pub shared_desk : History
shared_desk = on 0 (ordered 1 (again 1 ∷ wants (codes "b.example") ∷ [])) ∷ proved_desk long

-- the status of an order at a moment
abbrev pub status : History → ℕ → ℕ → Option OrderStatus
status F m n = option_map (λ o. o.status) (order_on (tables_at F m) n)

-- ---- an authorization of several orders ends

-- the first order has its certificate
abbrev pub certified_desk : History
certified_desk = on 0 (ordered 1 (again 1 ∷ [])) ∷ on 0 (certified 1 (zeros 1)) ∷ on 0 (finalized 1 (zeros 1)) ∷ proved_desk long

-- orders that use valid authorizations again: which they may use, which is used, what is made, and what falls with it
pub record AuthorizationsAreShared : Type 0 where
  -- ---- what may follow
  -- the account's valid authorization for the name is used again
  pub reuses_valid : May (proved_desk long) (ordered 1 (again 1 ∷ [])) 0
  -- beside a new one
  pub reuses_beside_new : May (proved_desk long) (ordered 1 (again 1 ∷ wants (codes "b.example") ∷ [])) 0
  -- a new one for the same name may be made, too
  pub makes_another : May (proved_desk long) (ordered 1 (wants (codes "a.example") ∷ [])) 0
  -- a pending one is not used again
  pub reuses_pending : MayNot (order_desk long) (ordered 1 (again 1 ∷ [])) 0
  -- nor one that was revoked
  pub reuses_revoked : MayNot (on 0 (authorization_ended 1 revoked) ∷ proved_desk long) (ordered 1 (again 1 ∷ [])) 0
  -- nor one of another name
  pub reuses_other : MayNot (proved_desk long) (ordered 1 (reused (simple (codes "b.example")) 1 ∷ [])) 0
  -- nor that of the name for its wildcard
  pub reuses_for_wildcard : MayNot (proved_desk long) (ordered 1 (reused wildcard 1 ∷ [])) 0
  -- nor that of another account
  pub reuses_foreign : MayNot (on 0 (opened second_key []) ∷ proved_desk long) (ordered 2 (again 1 ∷ [])) 0
  -- an account that has another key uses its authorizations again
  pub reuses_under_new_key : May (on 0 (key_changed 1 second_key) ∷ proved_desk long) (ordered 1 (again 1 ∷ [])) 0
  -- and whoever opens an account with the key that it had does not
  pub reuses_under_old_key : MayNot (on 0 (opened first_key []) ∷ on 0 (key_changed 1 second_key) ∷ proved_desk long) (ordered 2 (again 1 ∷ [])) 0
  -- nor one that is not there
  pub reuses_unknown : MayNot (proved_desk long) (ordered 1 (again 2 ∷ [])) 0
  -- nor one twice
  pub reuses_twice : MayNot (proved_desk long) (ordered 1 (again 1 ∷ again 1 ∷ [])) 0
  -- it lives as long as the order
  pub reuses_to_the_end : May (proved_desk long) (ordered 1 (again 1 ∷ [])) 100
  -- and no second less
  pub reuses_too_short : MayNot (proved_desk long) (ordered 1 (again 1 ∷ [])) 101
  -- ---- which is used
  -- the valid one
  pub serves_valid : serving (proved_desk long) 0 (simple (codes "a.example")) ≡ Some 1
  -- none where it is pending, for the wildcard, or past the moment
  pub serves_no_pending : serving (order_desk long) 0 (simple (codes "a.example")) ≡ None
  pub serves_no_wildcard : serving (proved_desk long) 0 wildcard ≡ None
  pub serves_no_longer : serving (proved_desk long) 101 (simple (codes "a.example")) ≡ None
  -- of several the one of the least number
  pub serves_least : serving twice_proved 0 (simple (codes "a.example")) ≡ Some 1
  -- the next, where that was revoked
  pub serves_next : serving (on 0 (authorization_ended 1 revoked) ∷ twice_proved) 0 (simple (codes "a.example")) ≡ Some 2
  -- names get it, and the others new ones, with tokens from the random bytes
  pub picks : wanted (tables_at (proved_desk long) 0) 1 (simple (codes "a.example") ∷ simple (codes "b.example") ∷ []) (zeros 32)
      ≡ again 1 ∷ wants (codes "b.example") ∷ []
  -- ---- what is made
  -- one authorization is made, the second, with two challenges
  pub makes_one : map (λ a. a.number) (authorizations shared_desk) ≡ 1 ∷ 2 ∷ []
  pub makes_two_challenges : count_challenges (authorizations shared_desk) ≡ 4
  -- the order lists both
  pub lists_both : option_map (λ o. o.authorizations) (order_by_number 2 shared_desk) ≡ Some (1 ∷ 2 ∷ [])
  -- it is pending, by the new one
  pub beside_new_is_pending : status shared_desk 0 2 ≡ Some order.Pending
  -- an order that makes none is ready at once
  pub reused_is_ready : status (on 0 (ordered 1 (again 1 ∷ [])) ∷ proved_desk long) 0 2 ≡ Some order.Ready
  -- ---- an authorization of several orders ends
  -- it stays valid when the authorization is revoked
  pub certified_stays : status (on 0 (authorization_ended 1 revoked) ∷ certified_desk) 0 1 ≡ Some order.Valid
  -- the second falls
  pub sharing_falls : status (on 0 (authorization_ended 1 revoked) ∷ certified_desk) 0 2 ≡ Some order.Invalid
  -- both fall, where neither has one
  pub both_fall : status (on 0 (authorization_ended 1 revoked) ∷ shared_desk) 0 1 ≡ Some order.Invalid
  pub other_falls : status (on 0 (authorization_ended 1 revoked) ∷ shared_desk) 0 2 ≡ Some order.Invalid
