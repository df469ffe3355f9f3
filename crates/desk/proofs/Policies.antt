-- No call changes the policy.
use Rattle.std.proofs.Common.{◌≡◌, List, [], ◌∷◌, ℕ, true, false, refl, ◌∙◌, rules}
use Rattle.desk_model.specs.{History.moment_of, History.record_all, History.terms, History.terms_after, Legal.BeginsMade, Legal.EachFollows, Legal.Legal}
use Rattle.desk_model.specs.{Legal.is_empty, Legal.may_follow, Entry.History, Decide.decide, Life.made_by, declared.call.Call.Call, declared.entry.Entry.Entry}
use Rattle.model_laws.proofs.Step.{follows_before}

-- an entry that may follow others leaves the terms
same_terms : (F : History) (e : Entry) (m : ℕ) → is_empty F ≡ false → may_follow F e m ≡ true → terms_after e (terms F) ≡ terms F
same_terms F e m h k = search rules

-- entries that may follow others leave the terms
terms_stay : (m : ℕ) (es : List Entry) (F : History) → is_empty F ≡ false → EachFollows (record_all m es F) → terms (record_all m es F) ≡ terms F
terms_stay m [] F begun h = refl
terms_stay m (e ∷ es) F begun h =
    let longer : History = record { date = m; entry = e } ∷ F in
    terms_stay m es longer refl h ∙ same_terms F e m begun (follows_before m es longer h).0.allowed

-- a history that is recorded further is not empty
stays_begun : (m : ℕ) (es : List Entry) (F : History) → is_empty F ≡ false → is_empty (record_all m es F) ≡ false
stays_begun m [] F begun = begun
stays_begun m (e ∷ es) F begun = stays_begun m es _ refl

-- what calls made is not empty
made_begun : (start : History) (calls : List Call) → is_empty start ≡ false → is_empty (made_by start calls) ≡ false
made_begun start [] begun = begun
made_begun start (c ∷ calls) begun = stays_begun _ (decide (made_by start calls) c).entries (made_by start calls) (made_begun start calls begun)

-- calls leave the terms
calls_leave : (start : History) (calls : List Call) → is_empty start ≡ false → EachFollows (made_by start calls) → terms (made_by start calls) ≡ terms start
calls_leave start [] begun h = refl
calls_leave start (c ∷ calls) begun h =
    let before = made_by start calls in
    let m = moment_of c.at before in
    let es = (decide before c).entries in
    terms_stay m es before (made_begun start calls begun) h ∙ calls_leave start calls begun (follows_before m es before h)

-- a history that begins is not empty
begins_begun : (F : History) → BeginsMade F → is_empty F ≡ false
begins_begun F h = search rules

-- the policy is the one that the desk was made with
pub policy_stays : (start : History) (calls : List Call) → Legal start → Legal (made_by start calls) → terms (made_by start calls) ≡ terms start
policy_stays start calls is legal = calls_leave start calls (begins_begun start is.begins) legal.each
