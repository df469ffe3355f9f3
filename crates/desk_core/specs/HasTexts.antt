-- Where the moments that are shown have a text.
use Rattle.std.specs.Prelude.{◌≤◌}
use Rattle.desk_model.specs.{Limits.last_end, Kept.EachOf, Tables.Tables}
use Rattle.core_replies.specs.Shown.{HasMoments}

-- each moment that may be shown has a text
pub record HasTexts (T : Tables) : Type 0 where
  pub authorizations : EachOf HasMoments T.authorizations
  pub orders : EachOf (λ o. o.expires ≤ last_end) T.orders
