-- What the validator and the operator do to an authorization reads no account.
use Rattle.std.proofs.Common.{◌≡◌, ◌≤◌, ◌+◌, ℕ, List, [], ◌∷◌, ◌++◌, map, refl, sym, ap, subst, ◌∙◌, Bool, arith}
use Rattle.desk_model.specs.Change.{authorizations_put, changes, nonces_put, orders_put, recorded_changes, spent_by, sweep_changes}
use Rattle.desk_model.specs.{Account.opened_by, Kept.EachOf, Tables.Tables, Decide.entries_of, Decide.verdict_reply, Effect.effects, Effect.fresh_account}
use Rattle.desk_model.specs.{Effect.noted_account, Effect.swept, Rules.office_verdict}
use Rattle.desk_model.specs.declared.rows.Change.TheVariants.{PutAccount, PutAuthorization, PutMeta, PutNonce, PutOrder, RemoveNonce}
use Rattle.desk_model.specs.declared.{call.OfficeAsk.OfficeAsk, entry.Ending.Ending, entry.Entry.Entry, entry.Outcome.Outcome, rows.AccountRow.AccountRow}
use Rattle.desk_model.specs.declared.{rows.Change.Change, verdict.Verdict.Verdict, entry.Entry.TheVariants.AuthorizationEnded as authorization_ended}
use Rattle.desk_model.specs.declared.{entry.Entry.TheVariants.Reported as reported, verdict.Verdict.TheVariants.Answers as answers}
use Rattle.desk_model.specs.declared.{verdict.Verdict.TheVariants.Moves as moves, verdict.Verdict.TheVariants.Refused as refused}
use Rattle.desk_model.specs.declared.call.OfficeAsk.TheVariants as office
use Rattle.desk_model.specs.declared.entry.Move.TheVariants as move
use Rattle.desk_model.specs.declared.verdict.Shows.TheVariants as show
use Rattle.model_parts.specs.AnswersAs.{SettlesAs}
use Rattle.model_lives.proofs.Judged.{OfOffice, office_judged}
use Rattle.model_parts.proofs.Lists.{filter_nothing}

-- rows without accounts
abbrev pub without_accounts : Tables → Tables
without_accounts S = record S { accounts = [] }

-- a report, and the end of an authorization by the operator
abbrev pub IsOfAuthorization : OfficeAsk → Type 0
IsOfAuthorization (office.Report n finding) = Unit {0}
IsOfAuthorization (office.RevokeAuthz n) = Unit {0}
IsOfAuthorization _ = ⊥

-- each is refused, shows a challenge or an authorization, or moves one
abbrev NeedsNoAccount : Verdict → Type 0
NeedsNoAccount (refused why subproblems) = Unit {0}
NeedsNoAccount (answers (show.Challenge n)) = Unit {0}
NeedsNoAccount (answers (show.Authorization n)) = Unit {0}
NeedsNoAccount (moves (move.Reported n outcome)) = Unit {0}
NeedsNoAccount (moves (move.AuthorizationEnded n ending)) = Unit {0}
NeedsNoAccount _ = ⊥

-- the verdict
office_way : (S : Tables) (a : OfficeAsk) (v : Verdict) → IsOfAuthorization a → OfOffice S a v → NeedsNoAccount v
office_way S a v of (OfOffice.declined b why) = tt
office_way S a v of (OfOffice.report_shown n finding r found) = tt
office_way S a v of (OfOffice.reported n finding r c outcome found there waits) = tt
office_way S a v of (OfOffice.authorization_shown n r found) = tt
office_way S a v of (OfOffice.authorization_revoked n r found live) = tt
office_way S a v of _ = absurd of

-- the verdict is the same without accounts
same_verdict : (S : Tables) (a : OfficeAsk) → IsOfAuthorization a → office_verdict (without_accounts S) a ≡ office_verdict S a
same_verdict S a h = grind arith

-- what it makes of the rows
effects_without_accounts : (m : ℕ) (S : Tables) (v : Verdict) → NeedsNoAccount v → effects m (without_accounts S) (entries_of v)
    ≡ without_accounts (effects m S (entries_of v))
effects_without_accounts m S (refused why ss) is = refl
effects_without_accounts m S (answers what) is = refl
effects_without_accounts m S (moves (move.Reported n outcome)) is = refl
effects_without_accounts m S (moves (move.AuthorizationEnded n ending)) is = refl
effects_without_accounts m S _ is = absurd is

-- what it shows
shows_without_accounts : (index : Bool) (E : Tables) (v : Verdict) → NeedsNoAccount v → verdict_reply index (without_accounts E) v ≡ verdict_reply index E v
shows_without_accounts index E v h = grind arith

-- what an entry changes, with these accounts in the place of those that it moves
abbrev changes_with : ℕ → Tables → Entry → List AccountRow → List Change
changes_with m S e rows =
    map RemoveNonce (spent_by e)
    ++ (map PutNonce (nonces_put S e m)
    ++ (map PutAccount (map (noted_account e m) rows ++ map fresh_account (opened_by e m (S.meta.counters.accounts + 1)))
    ++ (map PutAuthorization (authorizations_put S e m)
    ++ map PutOrder (orders_put S e m))))

-- a report changes the same without accounts
reported_without_accounts : (m : ℕ) (S : Tables) (n : ℕ) (outcome : Outcome) → changes m (without_accounts S) (reported n outcome) ≡ changes m S (reported n
    outcome)
reported_without_accounts m S n outcome = ap (changes_with m S (reported n outcome)) (filter_nothing S.accounts)

-- and so does an end
ended_without_accounts : (m : ℕ) (S : Tables) (n : ℕ) (ending : Ending) → changes m (without_accounts S) (authorization_ended n ending) ≡ changes m S
    (authorization_ended n ending)
ended_without_accounts m S n ending = ap (changes_with m S (authorization_ended n ending)) (filter_nothing S.accounts)

-- what it records
records_without_accounts : (m : ℕ) (S : Tables) (v : Verdict) → NeedsNoAccount v → recorded_changes m (without_accounts S) (entries_of v)
    ≡ recorded_changes m S (entries_of v)
records_without_accounts m S (refused why ss) is = refl
records_without_accounts m S (answers what) is = refl
records_without_accounts m S (moves (move.Reported n outcome)) is =
    λ i. sweep_changes m S
    ++ ((reported_without_accounts m (swept m S) n outcome i ++ []) ++ PutMeta (effects m (swept m S) (reported n outcome ∷ [])).meta ∷ [])
records_without_accounts m S (moves (move.AuthorizationEnded n ending)) is =
    λ i. sweep_changes m S
    ++ ((ended_without_accounts m (swept m S) n ending i ++ []) ++ PutMeta (effects m (swept m S) (authorization_ended n ending ∷ [])).meta ∷ [])
records_without_accounts m S _ is = absurd is

-- so rows that answer it answer it without accounts
pub settles_without_accounts : (T S : Tables) (m : ℕ) (a : OfficeAsk) → IsOfAuthorization a → SettlesAs m a T S → SettlesAs m a T (without_accounts S)
settles_without_accounts T S m a of h =
    record {
      judged = same_verdict (swept m S) a of ∙ h.judged;
      verdict = record {
        kept = h.verdict.kept;
        challenges = h.verdict.challenges;
        authorizations = ap (λ (E : Tables). E.authorizations) (effects_without_accounts m (swept m S) v is) ∙ h.verdict.authorizations;
        ends = λ n all. subst (EachOf (λ o. o.expires ≤ n)) (sym (ap (λ (E : Tables). E.orders) (effects_without_accounts m (swept m S) v is))) (h.verdict.ends
            n all);
        shows = λ index. ap (λ E. verdict_reply index E v) (effects_without_accounts m (swept m S) v is)
            ∙ shows_without_accounts index (effects m (swept m S) (entries_of v)) v is ∙ h.verdict.shows index;
      };
      records = records_without_accounts m S v is ∙ h.records;
    }
  where
    v : Verdict
    v = office_verdict (swept m T) a

    is : NeedsNoAccount v
    is = office_way (swept m T) a v of (office_judged (swept m T) a)
