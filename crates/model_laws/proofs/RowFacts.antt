-- What an entry does to a row that is there.
use Rattle.std.proofs.Common.{◌≡◌, ◌≤◌, ◌<◌, ℕ, List, [], ◌∷◌, map, Option, Some, None, refl, sym, ap, ◌∙◌, true, false, Bool, cond, arith, ltb}
use Rattle.std.proofs.{lemmas.Bool.ltb-true, lemmas.Bool.lt-ltb, lemmas.Bool.and_parts, lemmas.Bool.or_parts, lemmas.Bool.Decides.nat_tests}
use Rattle.std.specs.{Prelude.◌==◌, Prelude.◌&&◌, Prelude.◌||◌, Prelude.is_some, List.list_any}
use Rattle.desk_model.specs.Authorization.{ends, in_time, authorization_end, authorization_status, ends_by, when_proved, proving, answer, answer_by}
use Rattle.desk_model.specs.Authorization.{reporting, when_answered, report, challenge_status, is_good, has_challenge}
use Rattle.desk_model.specs.Effect.{key_numbered, noted_challenge, noted_authorization, row_ends, has_row, touches_authorization, moved_authorization}
use Rattle.desk_model.specs.Effect.{is_overdue, swept_authorization}
use Rattle.desk_model.specs.{Entry.History, Lookup.holds, Kept.EachOf, History.clock, History.first, History.earlier, Account.account_key, Account.accounts}
use Rattle.desk_model.specs.{Legal.may_follow, Legal.is_processing_challenge, Legal.EachFollows, Tables.account_row, Tables.authorization_row}
use Rattle.desk_model.specs.{Tables.challenge_row, Derived.restated_authorization, declared.entry.Outcome.Outcome, declared.objects.Authorization.Authorization}
use Rattle.desk_model.specs.{declared.objects.AuthorizationEnd.AuthorizationEnd, declared.objects.Challenge.Challenge, declared.objects.Report.Report}
use Rattle.desk_model.specs.{declared.rows.AccountRow.AccountRow, declared.rows.AuthorizationRow.AuthorizationRow, declared.rows.ChallengeRow.ChallengeRow}
use Rattle.desk_model.specs.declared.entry.Entry.{Entry, TheVariants.AccountEnded as account_ended, TheVariants.Answered as answered}
use Rattle.desk_model.specs.declared.entry.Entry.{TheVariants.Reported as reported, TheVariants.AuthorizationEnded as authorization_ended}
use Rattle.desk_model.specs.declared.status.AuthzStatus.TheVariants as authz
use Rattle.model_laws.proofs.Basics.{is_some-earlier, list_any-map, list_any-same, any_or, each, each_all, find-map, map-moved}

-- ---- challenges

-- an answer is one under each key
answer_some : (key : List ℕ) (o : Option ℕ) → is_some (answer_by key o) ≡ is_some o
answer_some key o = grind arith

-- an answer stands where the challenge was answered
pub answered_alike : (account n : ℕ) (F : History) → is_some (answer account n F) ≡ is_some (when_answered n F)
answered_alike account n [] = refl
answered_alike account n (e ∷ F) = grind (arith, is_some-earlier, answer_some, (answered_alike account n F))

-- the row of a challenge after an entry
challenge_moves : (F : History) (e : Entry) (m account : ℕ) (c : Challenge) →
    challenge_row (record { date = m; entry = e } ∷ F) account c ≡ noted_challenge e m (account_key account F) (challenge_row F account c)
challenge_moves F e m account c = grind arith

-- the key in an account's row is the one that the account has
pub key_row : (n : ℕ) (F : History) → key_numbered n (map (account_row F) (accounts F)) ≡ account_key n F
key_row n F = grind (arith, find-map)

-- ---- the end of an authorization

-- an authorization has the challenges of its row
pub has_row-row : (n : ℕ) (F : History) (t : ℕ) (a : Authorization) → has_row n (authorization_row F t a) ≡ has_challenge n a
has_row-row n F t a = list_any-map (λ c. n == c.number) (challenge_row F a.account) a.challenges

-- an entry ends an authorization where it ends its row
row_ends-row : (F : History) (t : ℕ) (a : Authorization) (e : Entry) (m : ℕ) → row_ends (authorization_row F t a) e m ≡ ends a e m
row_ends-row F t a e m = λ i. ends_by a.number a.account (λ n. has_row-row n F t a i) e m

-- the first end of an authorization, in time or not
abbrev first_end : Authorization → History → Option AuthorizationEnd
first_end a F = first (λ e. ends a e.entry e.date) F

-- the first end is no later than the clock
end_by : (a : Authorization) (F : History) (x : AuthorizationEnd) → first_end a F ≡ Some x → x.date ≤ clock F
end_by a [] x h = cc
end_by a (e ∷ F) x h = grind (arith, (end_by a F x))

-- the end that counts, after one more entry that is no earlier
end_moves : (a : Authorization) (F : History) (e : Entry) (m : ℕ) → clock F ≤ m →
    authorization_end a (record { date = m; entry = e } ∷ F) ≡ earlier (authorization_end a F) (in_time a.expires (ends a e m))
end_moves a F e m le = grind (arith, end_by)

-- ---- a good report

-- there is a report, and it is good
abbrev is_good_report : Option Report → Bool
is_good_report r = holds (λ r. is_good r.outcome) r

-- a challenge that is processing has no report
pub processing_unreported : (n : ℕ) (F : History) → is_processing_challenge (challenge_status n F) ≡ true → report n F ≡ None
processing_unreported n F h = grind arith

-- a report on a challenge that had none
good_on : (n : ℕ) (o : Outcome) (m : ℕ) (F : History) → report n F ≡ None → (c : Challenge) →
    is_good_report (earlier (report c.number F) (reporting c.number (reported n o) m))
    ≡ (is_good_report (report c.number F) || is_good_report (reporting c.number (reported n o) m))
good_on n o m F none c = grind arith

-- a good report on a challenge is one on each of its number
good_any : (n : ℕ) (o : Outcome) (m : ℕ) (cs : List Challenge) →
    list_any (λ c. is_good_report (reporting c.number (reported n o) m)) cs ≡ (is_good o && list_any (λ c. n == c.number) cs)
good_any n o m [] = grind arith
good_any n o m (c ∷ cs) = grind (arith, (good_any n o m cs))

-- an entry proves an authorization where it reports well on one of its challenges
proving_any : (a : Authorization) (n : ℕ) (o : Outcome) (m : ℕ) →
    is_some (proving a (reported n o) m) ≡ list_any (λ c. is_good_report (reporting c.number (reported n o) m)) a.challenges
proving_any a n o m = grind (arith, (good_any n o m a.challenges))

-- a good report stands exactly where one of the challenges has a good one: there is never a second report
pub proved_by : (a : Authorization) (F : History) → EachFollows F → is_some (when_proved a F) ≡ list_any (λ c. is_good_report (report c.number F)) a.challenges
proved_by a [] each = none a.challenges
  where
    none : (cs : List Challenge) → false ≡ list_any (λ (c : Challenge). false) cs
    none [] = refl
    none (c ∷ cs) = none cs
proved_by a (e ∷ F) each = by e.entry e.date each.0.allowed (proved_by a F each.1)
  where
    by : (entry : Entry) (m : ℕ) → may_follow F entry m ≡ true →
        is_some (when_proved a F) ≡ list_any (λ c. is_good_report (report c.number F)) a.challenges →
        is_some (earlier (when_proved a F) (proving a entry m))
        ≡ list_any (λ c. is_good_report (earlier (report c.number F) (reporting c.number entry m))) a.challenges
    by (reported n o) m may ih =
        let none : report n F ≡ None = processing_unreported n F (and_parts _ (is_processing_challenge (challenge_status n F)) may).1 in
        is_some-earlier (when_proved a F) (proving a (reported n o) m)
        ∙ (λ i. ih i || proving_any a n o m i)
        ∙ sym (any_or (λ c. is_good_report (report c.number F)) (λ c. is_good_report (reporting c.number (reported n o) m)) a.challenges)
        ∙ sym (list_any-same _ _ a.challenges (good_on n o m F none))
    by _ m may ih = ih

-- ---- an authorization's row

-- the status that a history gives is the one that the row ought to have
pub authorization_stated : (F : History) → EachFollows F → (t u : ℕ) (a : Authorization) →
    authorization_row F t a ≡ restated_authorization t (authorization_row F u a)
authorization_stated F each t u a = grind (arith, proved_by, list_any-map)

-- the row of an authorization after an entry, in general
pub authorization_noted : (F : History) (e : Entry) (m t : ℕ) (a : Authorization) → EachFollows (record { date = m; entry = e } ∷ F) → clock F ≤ m →
    authorization_row (record { date = m; entry = e } ∷ F) m a
    ≡ restated_authorization m (noted_authorization e m (map (account_row F) (accounts F)) (authorization_row F t a))
authorization_noted F e m t a each le =
    let G : History = record { date = m; entry = e } ∷ F in
    let ended : authorization_end a G ≡ earlier (authorization_end a F) (in_time a.expires (row_ends (authorization_row F t a) e m)) =
    end_moves a F e m le ∙ ap (λ o. earlier (authorization_end a F) (in_time a.expires o)) (sym (row_ends-row F t a e m)) in
    let key : List ℕ = key_numbered a.account (map (account_row F) (accounts F)) in
    let challenges : map (challenge_row G a.account) a.challenges ≡ map (noted_challenge e m key) (map (challenge_row F a.account) a.challenges) =
    map-moved (challenge_row F a.account) (noted_challenge e m (account_key a.account F)) (challenge_row G a.account) a.challenges
    (each_all _ a.challenges (challenge_moves F e m a.account))
    ∙ ap (λ k. map (noted_challenge e m k) (map (challenge_row F a.account) a.challenges)) (sym (key_row a.account F)) in
    authorization_stated G each m m a
    ∙ (λ i. restated_authorization m (record (authorization_row G m a) { ended = ended i; challenges = challenges i }))

-- where no challenge has the number, each has another
has_none : (n : ℕ) (cs : List ChallengeRow) → list_any (λ c. n == c.number) cs ≡ false → EachOf (λ c. (n == c.number) ≡ false) cs
has_none n [] h = tt
has_none n (c ∷ cs) h = let p = or_parts (n == c.number) _ h in (p.0, has_none n cs p.1)

-- challenges that stay what they are
pub kept_challenges : (move : ChallengeRow → ChallengeRow) (cs : List ChallengeRow) → EachOf (λ c. move c ≡ c) cs → map move cs ≡ cs
kept_challenges move [] h = refl
kept_challenges move (c ∷ cs) h = λ i. h.0 i ∷ kept_challenges move cs h.1 i

-- challenges that the entry does not concern
other_challenges : (e : Entry) (m : ℕ) (key : List ℕ) (cs : List ChallengeRow) → ((c : ChallengeRow) → noted_challenge e m key c ≡ c) →
    map (noted_challenge e m key) cs ≡ cs
other_challenges e m key cs f = kept_challenges (noted_challenge e m key) cs (each_all _ cs f)

-- an authorization that the entry does not touch keeps its columns
pub authorization_untouched : (e : Entry) (m : ℕ) (accounts : List AccountRow) (row : AuthorizationRow) → touches_authorization e row ≡ false →
    noted_authorization e m accounts row ≡ row
authorization_untouched (answered n) m accounts row h = grind (arith, kept_challenges, each, (has_none n row.challenges h))
authorization_untouched (reported n o) m accounts row h = grind (arith, kept_challenges, each, (has_none n row.challenges h))
authorization_untouched (authorization_ended n s) m accounts row h = grind (arith, other_challenges)
authorization_untouched (account_ended n s) m accounts row h = grind (arith, other_challenges)
authorization_untouched e m accounts row h = grind (arith, other_challenges)

-- and its row
pub authorization_kept : (F : History) (e : Entry) (m : ℕ) (a : Authorization) → EachFollows (record { date = m; entry = e } ∷ F) → clock F ≤ m →
    touches_authorization e (authorization_row F m a) ≡ false → authorization_row (record { date = m; entry = e } ∷ F) m a ≡ authorization_row F m a
authorization_kept F e m a each le h = grind (
  arith,
  nat_tests,
  authorization_noted,
  each,
  authorization_untouched,
  authorization_stated,
  (authorization_noted F e m m a each le),
  (authorization_untouched e m (map (account_row F) (accounts F)) (authorization_row F m a) h),
  (authorization_stated F each.1 m m a),
)

-- the row of an authorization after an entry
pub authorization_moves : (F : History) (e : Entry) (m : ℕ) (a : Authorization) → EachFollows (record { date = m; entry = e } ∷ F) → clock F ≤ m →
    authorization_row (record { date = m; entry = e } ∷ F) m a ≡ moved_authorization e m (map (account_row F) (accounts F)) (authorization_row F m a)
authorization_moves F e m a each le = grind (arith, (authorization_noted F e m m a each le), (authorization_kept F e m a each le))

-- ---- the passing of time

-- what is past stays past
pub past_later : (x t m : ℕ) → t ≤ m → ltb x t ≡ true → ltb x m ≡ true
past_later x t m le h = let past : x < t = ltb-true x t h in lt-ltb x m (omega arith)

-- an authorization's status at a later moment
pub authorization_later : (F : History) (t m : ℕ) (a : Authorization) → t ≤ m →
    authorization_status a F m ≡ cond (is_overdue m (authorization_row F t a)) authz.Expired (authorization_status a F t)
authorization_later F t m a le = grind arith

-- an authorization's row at a later moment
pub authorization_swept : (F : History) (t m : ℕ) (a : Authorization) → t ≤ m → authorization_row F m a ≡ swept_authorization m (authorization_row F t a)
authorization_swept F t m a le = grind arith
