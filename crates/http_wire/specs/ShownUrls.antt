-- Where documents and replies show URLs.
use Rattle.std.specs.Prelude.{◌≡◌, ℕ, Some, IsTrue, true, codes, is_some, map}
use Rattle.std.specs.List.{filter}
use Rattle.serde_json.specs.{Data.string, Find.get}
use Rattle.http_wire.specs.Replies.{index_line, link}
use Rattle.desk_model.specs.Document.{account_document, account_url, is_listed, orders_document, authorization_url, certificate_url, challenge_document}
use Rattle.desk_model.specs.Document.{challenge_url, directory, finalize_url, order_document, order_url, orders_url}
use Rattle.desk_model.specs.{Derived.numbers_of, Json.list, Keys.text_member, Tables.Tables, Terms.Terms}
use Rattle.desk_model.specs.Shown.{client_challenge_in, located_account, located_order}
use Rattle.desk_model.specs.declared.rows.{AccountRow.AccountRow, AuthorizationRow.AuthorizationRow, ChallengeRow.ChallengeRow, OrderRow.OrderRow}
use Rattle.http_wire.specs.Served.{directory_url, key_change_url, new_account_url, new_nonce_url, new_order_url}

-- the URLs of the directory (RFC 8555, 7.1.1)
pub record HasDirectoryUrls (t : Terms) : Type 0 where
  pub new_account : text_member (codes "newAccount") (directory t) ≡ Some (new_account_url t)
  pub new_nonce : text_member (codes "newNonce") (directory t) ≡ Some (new_nonce_url t)
  pub key_change : text_member (codes "keyChange") (directory t) ≡ Some (key_change_url t)
  pub new_order : text_member (codes "newOrder") (directory t) ≡ Some (new_order_url t)

-- the URLs of an order, one of them where it is certified (RFC 8555, 7.1.3)
pub record HasOrderUrls (T : Tables) (o : OrderRow) : Type 0 where
  pub authorizations :
      get (codes "authorizations") (order_document T o)
      ≡ Some (list (map (λ n. string (authorization_url T.meta.policy n)) (numbers_of o.listed)))
  pub finalize : text_member (codes "finalize") (order_document T o) ≡ Some (finalize_url T.meta.policy o.number)
  pub certificate : IsTrue (is_some o.certified) → text_member (codes "certificate") (order_document T o) ≡ Some (certificate_url T.meta.policy o.number)

-- the members of documents that are a URL or a list of them
pub record HaveUrls (T : Tables) : Type 0 where
  pub directory : HasDirectoryUrls T.meta.policy
  pub account : (a : AccountRow) → text_member (codes "orders") (account_document T.meta.policy a) ≡ Some (orders_url T.meta.policy a.number)
  pub orders :
      (n : ℕ)
      → get (codes "orders") (orders_document T n)
      ≡ Some (list (map (λ o. string (order_url T.meta.policy o.number)) (filter (is_listed n) T.orders)))
  pub order : (o : OrderRow) → HasOrderUrls T o
  pub challenge : (c : ChallengeRow) → text_member (codes "url") (challenge_document T.meta.policy c) ≡ Some (challenge_url T.meta.policy c.number)

-- the fields of replies that are a URL: Location, and the links to the directory and from a challenge to its authorization
-- (RFC 8555, 7.1, 7.3, 7.4, 7.5.1)
pub record NameUrls (T : Tables) : Type 0 where
  pub account : (status : ℕ) (a : AccountRow) → (located_account status T a).location ≡ Some (account_url T.meta.policy a.number)
  pub order : (status : ℕ) (o : OrderRow) → (located_order status T o).location ≡ Some (order_url T.meta.policy o.number)
  pub directory : index_line true T.meta.policy.base ≡ link (directory_url T.meta.policy) (codes "index")
  pub authorization : (n : ℕ) (a : AuthorizationRow) → (client_challenge_in T n a).up ≡ Some (authorization_url T.meta.policy a.number)
