-- The URLs of documents and replies.
use Rattle.std.proofs.Common.{◌≡◌, Option, Some, None, codes, refl}
use Rattle.desk_model.specs.Document.{challenge_document, challenge_url}
use Rattle.desk_model.specs.{Keys.text_member, Tables.Tables, Terms.Terms, declared.entry.Outcome.Outcome, declared.objects.Report.Report}
use Rattle.desk_model.specs.declared.rows.{ChallengeRow.ChallengeRow, DatedBytes.DatedBytes, DatedProblem.DatedProblem, OrderRow.OrderRow}
use Rattle.desk_model.specs.declared.entry.Outcome.TheVariants.{Good, IncorrectResponse, Connection, Dns}
use Rattle.http_wire.specs.{UrlLaws.DocumentsHaveUrls, UrlLaws.RepliesNameUrls, ShownUrls.HasDirectoryUrls, ShownUrls.HasOrderUrls}

-- the directory has its URLs
directory_urls : (t : Terms) → HasDirectoryUrls t
directory_urls t = record { new_account = refl; new_nonce = refl; key_change = refl; new_order = refl }

-- an order has its URLs, whatever became of it
order_urls : (T : Tables) (o : OrderRow) (k : Option DatedBytes) (f : Option DatedProblem) → HasOrderUrls T (record o { certified = k; failed = f })
order_urls T o None None = record { authorizations = refl; finalize = refl; certificate = λ certified. cc }
order_urls T o None (Some f) = record { authorizations = refl; finalize = refl; certificate = λ certified. cc }
order_urls T o (Some k) None = record { authorizations = refl; finalize = refl; certificate = λ certified. refl }
order_urls T o (Some k) (Some f) = record { authorizations = refl; finalize = refl; certificate = λ certified. refl }

-- a challenge has its URL
abbrev HasItsUrl : Terms → ChallengeRow → Type 0
HasItsUrl t c = text_member (codes "url") (challenge_document t c) ≡ Some (challenge_url t c.number)

-- whatever was found
found_url : (t : Terms) (c : ChallengeRow) (r : Report) (found : Outcome) → HasItsUrl t (record c { reported = Some (record r { outcome = found }) })
found_url t c r Good = refl
found_url t c r IncorrectResponse = refl
found_url t c r Connection = refl
found_url t c r Dns = refl

-- and where nothing was
challenge_has : (t : Terms) (c : ChallengeRow) (r : Option Report) → HasItsUrl t (record c { reported = r })
challenge_has t c None = refl
challenge_has t c (Some r) = found_url t c r r.outcome

-- documents have these URLs
pub have_urls : DocumentsHaveUrls
have_urls T =
    record {
      directory = directory_urls T.meta.policy;
      account = λ a. refl;
      orders = λ n. refl;
      order = λ o. order_urls T o o.certified o.failed;
      challenge = λ c. challenge_has T.meta.policy c c.reported;
    }

-- and so have replies
pub name_urls : RepliesNameUrls
name_urls T = record { account = λ status a. refl; order = λ status o. refl; directory = refl; authorization = λ n a. refl }
