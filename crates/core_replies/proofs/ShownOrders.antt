-- What the documents of orders show.
use Rattle.std.proofs.{Common.◌≡◌, Common.List, Common.[], Common.◌∷◌, Common.map, Common.rules, lemmas.Simd.map-map}
use Rattle.std.specs.{List.flat_map}
use Rattle.serde_json.specs.Data.{string}
use Rattle.desk_model.specs.{Terms.Terms, Derived.numbers_of, declared.rows.Listed.Listed, Document.authorization_url}

-- the URLs of what an order lists
pub urls-shown : (t : Terms) (listed : List Listed) →
    flat_map (λ l. string (authorization_url t l.authorization) ∷ []) listed ≡ map (λ n. string (authorization_url t n)) (numbers_of listed)
urls-shown t listed = search (rules, map-map)
