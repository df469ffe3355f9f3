use Rattle.std.proofs.Common.{◌∙◌}
use Rattle.sql_read.proofs.ListingFound.{listing_are, listing_find, listing_have, listing_orders}
use Rattle.sql_read.proofs.{LookUpReadings.listing_reading, Looking.finds_as, Looking.looked, Looking.query_as}
use Rattle.sql_read.proofs.orders.orders_with_authorization.Goals as goal

pub find_wholes-requires : goal.find_wholes-requires
find_wholes-requires g c = query_as c.number-query.ensures (listing_reading c.args.number).selecting

pub returns : goal.returns
returns g c =
    let n = c.args.number in
    looked (λ T. listing_orders T n)
    (λ T has book. (
      listing_have g.S.Store c.args.conn.now T has n,
      finds_as c.number-query.ensures (listing_find g.S.Store c.args.conn.now T has book n),
    ))
    (λ T has book rows are. are ∙ listing_are T n) c.find_wholes.ensures
