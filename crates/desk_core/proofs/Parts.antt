-- What the code answers by a part of the rows it answers by all of them.
use Rattle.std.proofs.Common.{ℕ, List, drop, filter, Bool, Option, Some, None, sym, subst, ◌∙◌, false, arith, rules}
use Rattle.desk_model.specs.{Decide.entries_of, Tables.Tables, Kept.EachOf, Limits.last_end, Effect.effects, Effect.swept, Rules.office_verdict}
use Rattle.desk_model.specs.{Rules.signed_verdict, Shown.nonce_reply, declared.call.Ask.Ask, declared.call.OfficeAsk.OfficeAsk, declared.call.Signed.Signed}
use Rattle.desk_model.specs.{declared.reply.Reply.Reply, declared.rows.AuthorizationRow.AuthorizationRow, declared.rows.ChallengeRow.ChallengeRow}
use Rattle.desk_model.specs.{declared.rows.Change.Change, declared.verdict.Verdict.Verdict}
use Rattle.desk_model.specs.declared.call.Ask.TheVariants as ask
use Rattle.desk_core.specs.{HasTexts.HasTexts, Outcomes.IsAskFault, Outcomes.Issues, Outcomes.MeetsAsk, Outcomes.MeetsSigned, Outcomes.Passes, Outcomes.Settles}
use Rattle.core_replies.specs.Shown.{HasMoments}
use Rattle.model_laws.specs.Ordered.{IsOrdered}
use Rattle.model_parts.specs.AnswersAs.{AnswersAs, CarriesOutAs, IssuesAs, PassesAs, SettlesAs}
use Rattle.model_parts.specs.Thinned.{Thinning, thinned, with_challenges}
use Rattle.model_parts.proofs.Lists.{filtered_each}
use Rattle.model_laws.proofs.Basics.{each, each-map}
use Rattle.core_rules.specs.declared.fault.CoreFault.{CoreFault}

-- moments that have texts in all challenges of a row have them in some of them
some_moments : (c : ℕ → ChallengeRow → Bool) (a : AuthorizationRow) → HasMoments a → HasMoments (with_challenges c a)
some_moments c a texts = search (rules, filtered_each, each)

-- moments that have texts in all rows have them in those of a part
texts_then : (m : ℕ) (T P : Tables) (v : Verdict) → CarriesOutAs m T P v → HasTexts (effects m (swept m T) (entries_of v))
    → HasTexts (effects m (swept m P) (entries_of v))
texts_then m T P v alike texts =
    record {
      authorizations =
          subst (EachOf HasMoments) (sym alike.authorizations)
          (each-map HasMoments (with_challenges alike.challenges) (filter alike.kept (effects m (swept m T) (entries_of v)).authorizations)
          (filtered_each _ alike.kept (effects m (swept m T) (entries_of v)).authorizations
          (each _ _ (effects m (swept m T) (entries_of v)).authorizations (λ a f kept. some_moments alike.challenges a f) texts.authorizations)));
      orders = alike.ends last_end texts.orders;
    }

-- ---- answers

issues_whole : (m : ℕ) (k : Thinning) (T : Tables) (random : List ℕ) (answer : Reply) (changes : List Change) (reply : Reply) → IssuesAs m T (thinned k T) →
    Issues m (thinned k T) random answer changes reply → Issues m T random answer changes reply
issues_whole m k T random answer changes reply alike h = search rules

settles_whole : (m : ℕ) (k : Thinning) (T : Tables) (a : OfficeAsk) (changes : List Change) (reply : Reply) → IsOrdered (thinned k T)
    → SettlesAs m a T (thinned k T) →
    Settles m (thinned k T) (office_verdict (swept m (thinned k T)) a) changes reply → Settles m T (office_verdict (swept m T) a) changes reply
settles_whole m k T a changes reply ordered alike met =
    let v : Verdict = office_verdict (swept m T) a in
    let h : Settles m (thinned k T) v changes reply = subst (λ x. Settles m (thinned k T) x changes reply) alike.judged met in
    record {
      recorded = λ whole. h.recorded ordered ∙ alike.records;
      replies = λ whole texts. h.replies ordered (texts_then m T (thinned k T) v alike.verdict texts) ∙ alike.verdict.shows false;
    }

passes_whole : (m : ℕ) (k : Thinning) (T : Tables) (random : List ℕ) (serial : ℕ) (s : Signed) (changes : List Change) (reply : Reply)
    → IsOrdered (thinned k T) →
    PassesAs m s T (thinned k T) →
    Passes m (thinned k T) random serial (signed_verdict (swept m (thinned k T)) (drop 16 random) s) changes reply →
    Passes m T random serial (signed_verdict (swept m T) (drop 16 random) s) changes reply
passes_whole m k T random serial s changes reply ordered alike met = search (rules, texts_then)

signed_whole : (m : ℕ) (k : Thinning) (T : Tables) (random : List ℕ) (s : Signed) (changes : List Change) (reply : Reply) → IsOrdered (thinned k T) →
    PassesAs m s T (thinned k T) → (o : Option ℕ) → MeetsSigned m (thinned k T) random s o changes reply → MeetsSigned m T random s o changes reply
signed_whole m k T random s changes reply ordered alike None met = grind arith
signed_whole m k T random s changes reply ordered alike (Some serial) met = passes_whole m k T random serial s changes reply ordered alike met

-- what the code answers to an ask
pub asks_whole : (m : ℕ) (k : Thinning) (T : Tables) (random : List ℕ) (a : Ask) (changes : List Change) (reply : Reply) → IsOrdered (thinned k T) →
    AnswersAs m a T (thinned k T) → MeetsAsk m (thinned k T) random a changes reply → MeetsAsk m T random a changes reply
asks_whole m k T random (ask.NewNonce head) changes reply ordered alike met = issues_whole m k T random (nonce_reply head) changes reply alike met
asks_whole m k T random (ask.Signed s) changes reply ordered alike met = grind (arith, signed_whole)
asks_whole m k T random (ask.Office a) changes reply ordered alike met = settles_whole m k T a changes reply ordered alike met

-- ---- faults

-- why an ask is not answered
pub faults_whole : (m : ℕ) (k : Thinning) (T : Tables) (random : List ℕ) (a : Ask) (e : CoreFault) → AnswersAs m a T (thinned k T) →
    IsAskFault m (thinned k T) random a e → IsAskFault m T random a e
faults_whole m k T random a e h l = grind arith
