-- The laws of the URLs that the desk shows.
use Rattle.std.specs.Prelude.{ℕ, ◌≤◌}
use Rattle.desk_model.specs.{Limits.last_number, Tables.Tables, Terms.Terms}
use Rattle.http_wire.specs.{Served.AreServed, ShownUrls.HaveUrls, ShownUrls.NameUrls}

-- each URL is served as what it is meant for, under any terms and for every number that an object may have
abbrev pub ShownUrlsAreServed : Type 0
ShownUrlsAreServed = (t : Terms) (n : ℕ) → 1 ≤ n → n ≤ last_number → AreServed t n

-- members of documents are these URLs
abbrev pub DocumentsHaveUrls : Type 0
DocumentsHaveUrls = (T : Tables) → HaveUrls T

-- and so are fields of replies
abbrev pub RepliesNameUrls : Type 0
RepliesNameUrls = (T : Tables) → NameUrls T
