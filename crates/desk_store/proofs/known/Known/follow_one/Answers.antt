use Rattle.desk_store.proofs.Knowing.{authorization_followed, followed_as, nonce_followed, order_followed, removal_followed}
use Rattle.desk_store.proofs.known.Known.follow_one.Goals as goal

pub returns-in-PutNonce : goal.returns-in-PutNonce
returns-in-PutNonce c T known =
    followed_as _ _ _ T c.in-PutNonce.is (nonce_followed c.args.self.now _ c.in-PutNonce.nonce c.add_nonce.ensures T known)

pub returns-in-PutAuthorization : goal.returns-in-PutAuthorization
returns-in-PutAuthorization c T known =
    followed_as _ _ _ T c.in-PutAuthorization.is
    (authorization_followed c.args.self.now _ _ c.in-PutAuthorization.row c.place.ensures.place c.lower.ensures T known)

pub returns-in-PutOrder : goal.returns-in-PutOrder
returns-in-PutOrder c T known =
    followed_as _ _ _ T c.in-PutOrder.is
    (order_followed c.args.self.now _ _ c.in-PutOrder.row c.place-in-PutOrder.ensures.place c.lower-in-PutOrder.ensures T known)

pub returns-in-RemoveNonce : goal.returns-in-RemoveNonce
returns-in-RemoveNonce c T known =
    followed_as _ _ _ T c.in-RemoveNonce.is (removal_followed c.args.self.now _ c.in-RemoveNonce.serial c.remove_nonce.ensures T known)
