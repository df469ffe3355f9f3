-- What the documents of authorizations and challenges show.
use Rattle.std.proofs.Common.{◌≡◌, List, [], ◌∷◌, map, filter, Bool, true, false, refl, sym, ap, ◌∙◌, arith, rules}
use Rattle.std.proofs.lemmas.Simd.{map-map}
use Rattle.std.specs.{Prelude.is_some, Prelude.not, Prelude.◌||◌, List.flat_map, List.list_any}
use Rattle.desk_model.specs.{Terms.Terms, Kept.EachOf, declared.rows.ChallengeRow.ChallengeRow}
use Rattle.desk_model.specs.declared.{rows.AuthorizationRow.AuthorizationRow}
use Rattle.desk_model.specs.Document.{challenge_document, or_all, shown_challenges}
use Rattle.core_replies.specs.Shown.{capped_challenge, capped_authorization, HasDatedReport, HasMoments, shown_challenge}
use Rattle.core_replies.proofs.{Gathered.passing-show-one}

-- ---- moments that have a text are shown as they are

capped_challenges-same : (cs : List ChallengeRow) → EachOf (λ c. HasDatedReport c.reported) cs → map capped_challenge cs ≡ cs
capped_challenges-same [] dated = refl
capped_challenges-same (c ∷ cs) dated = grind (arith, (capped_challenges-same cs dated.1))

pub capped_authorization-same : (a : AuthorizationRow) → HasMoments a → capped_authorization a ≡ a
capped_authorization-same a dated = search (rules, capped_challenges-same)

-- ---- challenges

-- or_all by a test that one passes, or that none does
or_all-any : (p : ChallengeRow → Bool) (rows all : List ChallengeRow) → list_any p rows ≡ true → or_all (filter p rows) all ≡ filter p rows
or_all-any p [] all any = cc
or_all-any p (r ∷ rs) all any = grind (arith, (or_all-any p rs all))

none-filtered : (p : ChallengeRow → Bool) (rows : List ChallengeRow) → list_any p rows ≡ false → filter p rows ≡ []
none-filtered p [] none = refl
none-filtered p (r ∷ rs) none = grind (arith, (none-filtered p rs))

all-filtered : (rows : List ChallengeRow) → filter (λ r. true) rows ≡ rows
all-filtered [] = refl
all-filtered (r ∷ rs) = ap (λ l. r ∷ l) (all-filtered rs)

-- the rows that pass, if one does, else all, are filtered in one pass
or_all-filtered : (p : ChallengeRow → Bool) (rows : List ChallengeRow) (b : Bool) → b ≡ list_any p rows →
    filter (λ r. not b || p r) rows ≡ or_all (filter p rows) rows
or_all-filtered p rows true is = sym (or_all-any p rows rows (sym is))
or_all-filtered p rows false is = all-filtered rows ∙ sym (ap (λ l. or_all l rows) (none-filtered p rows (sym is)))

-- what the challenges show, each where it was reported, or where none was
pub challenges-shown : (t : Terms) (rows : List ChallengeRow) (reported : Bool) → reported ≡ list_any (λ c. is_some c.reported) rows →
    flat_map (shown_challenge t reported) rows ≡ map (λ c. challenge_document t (capped_challenge c)) (shown_challenges rows)
challenges-shown t rows reported is =
    passing-show-one (λ c. challenge_document t (capped_challenge c)) (λ c. not reported || is_some c.reported) rows
    ∙ ap (map (λ c. challenge_document t (capped_challenge c))) (or_all-filtered (λ c. is_some c.reported) rows reported is)

reported-capped : (cs : List ChallengeRow) → filter (λ c. is_some c.reported) (map capped_challenge cs)
    ≡ map capped_challenge (filter (λ c. is_some c.reported) cs)
reported-capped [] = refl
reported-capped (c ∷ cs) = grind (arith, (reported-capped cs))

-- which challenges are shown does not depend on the dates of reports
pub shown-capped : (t : Terms) (cs : List ChallengeRow) →
    map (λ c. challenge_document t (capped_challenge c)) (shown_challenges cs) ≡ map (challenge_document t) (shown_challenges (map capped_challenge cs))
shown-capped t cs = search (rules, map-map, reported-capped)
