-- The resource that each shown URL is meant for.
use Rattle.std.specs.Prelude.{◌≡◌, ℕ, List, ◌++◌, codes}
use Rattle.desk_model.specs.Document.{account_url, authorization_url, certificate_url, challenge_url, finalize_url, order_url, orders_url, url}
use Rattle.desk_model.specs.Terms.{Terms}
use Rattle.desk_model.specs.declared.call.Target.TheVariants as target
use Rattle.http_routes.specs.{Routes.IsResourceAt, declared.routes.Resource.Resource}
use Rattle.http_routes.specs.declared.routes.Resource.TheVariants as resource

-- the URL is the base and a path, which leads to the resource and to no other
pub record IsServed (t : Terms) (x : Resource) (shown : List ℕ) : Type 0 where
  pub path : List ℕ
  pub place : shown ≡ t.base ++ path
  pub leads : IsResourceAt path x
  pub alone : (y : Resource) → IsResourceAt path y → y ≡ x

-- ---- URLs without a number (RFC 8555, 7.1, 7.1.1)

-- the URL of the directory; http_wire writes the text of the link to it
abbrev pub directory_url : Terms → List ℕ
directory_url t = url t (codes "/directory")

-- of newAccount
abbrev pub new_account_url : Terms → List ℕ
new_account_url t = url t (codes "/new-account")

-- of newNonce
abbrev pub new_nonce_url : Terms → List ℕ
new_nonce_url t = url t (codes "/new-nonce")

-- of keyChange
abbrev pub key_change_url : Terms → List ℕ
key_change_url t = url t (codes "/key-change")

-- of newOrder
abbrev pub new_order_url : Terms → List ℕ
new_order_url t = url t (codes "/new-order")

-- ---- all of them

-- each shown URL, and what is served there; n is the number of an account, an order, an authorization or a challenge
pub record AreServed (t : Terms) (n : ℕ) : Type 0 where
  pub directory : IsServed t resource.Directory (directory_url t)
  pub new_account : IsServed t (resource.Signed target.NewAccount) (new_account_url t)
  pub new_nonce : IsServed t resource.NewNonce (new_nonce_url t)
  pub key_change : IsServed t (resource.Signed target.KeyChange) (key_change_url t)
  pub new_order : IsServed t (resource.Signed target.NewOrder) (new_order_url t)
  pub account : IsServed t (resource.Signed (target.Account n)) (account_url t n)
  pub orders : IsServed t (resource.Signed (target.Orders n)) (orders_url t n)
  pub order : IsServed t (resource.Signed (target.Order n)) (order_url t n)
  pub finalize : IsServed t (resource.Signed (target.Finalize n)) (finalize_url t n)
  pub certificate : IsServed t (resource.Signed (target.Cert n)) (certificate_url t n)
  pub authorization : IsServed t (resource.Signed (target.Authz n)) (authorization_url t n)
  pub challenge : IsServed t (resource.Signed (target.Chall n)) (challenge_url t n)
