-- That a part answers a call as the whole tables do.
use Rattle.std.specs.Prelude.{ℕ, ◌≤◌, ◌≡◌, List, [], ◌∷◌, Bool, map}
use Rattle.std.specs.List.{filter}
use Rattle.desk_model.specs.Rules.{office_verdict, open_nonce, signed_verdict}
use Rattle.desk_model.specs.{Change.recorded_changes, Tables.Tables, Kept.EachOf, Decide.entries_of, Decide.verdict_reply, Effect.effects, Effect.swept}
use Rattle.desk_model.specs.{declared.call.Ask.Ask, declared.call.OfficeAsk.OfficeAsk, declared.call.Signed.Signed}
use Rattle.desk_model.specs.{declared.rows.AuthorizationRow.AuthorizationRow, declared.rows.ChallengeRow.ChallengeRow, declared.verdict.Verdict.Verdict}
use Rattle.desk_model.specs.{declared.entry.Entry.TheVariants.Issued as issued, declared.entry.Entry.TheVariants.Spent as spent}
use Rattle.desk_model.specs.declared.call.Ask.TheVariants as ask
use Rattle.model_parts.specs.Thinned.{with_challenges}

-- a nonce that is issued changes the same
pub record IssuesAs (m : ℕ) (whole part : Tables) : Type 0 where
  pub records : (random : List ℕ) → recorded_changes m part (issued random ∷ []) ≡ recorded_changes m whole (issued random ∷ [])

-- the verdict shows the same, and then the part's authorizations are among the whole's, with some of their challenges, and its orders end no later
pub record CarriesOutAs (m : ℕ) (whole part : Tables) (v : Verdict) : Type 0 where
  pub kept : AuthorizationRow → Bool
  pub challenges : ℕ → ChallengeRow → Bool
  pub authorizations : (effects m (swept m part) (entries_of v)).authorizations
      ≡ map (with_challenges challenges) (filter kept (effects m (swept m whole) (entries_of v)).authorizations)
  pub ends : (n : ℕ) → EachOf (λ o. o.expires ≤ n) (effects m (swept m whole) (entries_of v)).orders
      → EachOf (λ o. o.expires ≤ n) (effects m (swept m part) (entries_of v)).orders
  pub shows : (index : Bool) → verdict_reply index (effects m (swept m part) (entries_of v)) v
      ≡ verdict_reply index (effects m (swept m whole) (entries_of v)) v

-- a request without a nonce
pub record SettlesAs (m : ℕ) (a : OfficeAsk) (whole part : Tables) : Type 0 where
  pub judged : office_verdict (swept m part) a ≡ office_verdict (swept m whole) a
  pub verdict : CarriesOutAs m whole part (office_verdict (swept m whole) a)
  pub records : recorded_changes m part (entries_of (office_verdict (swept m whole) a))
      ≡ recorded_changes m whole (entries_of (office_verdict (swept m whole) a))

-- a signed request
pub record PassesAs (m : ℕ) (s : Signed) (whole part : Tables) : Type 0 where
  pub nonce : open_nonce (swept m part) s.nonce ≡ open_nonce (swept m whole) s.nonce
  pub issues : IssuesAs m whole part
  pub judged : (random : List ℕ) → signed_verdict (swept m part) random s ≡ signed_verdict (swept m whole) random s
  pub verdict : (random : List ℕ) → CarriesOutAs m whole part (signed_verdict (swept m whole) random s)
  pub records : (random : List ℕ) (serial : ℕ) (fresh : List ℕ) →
      recorded_changes m part (spent serial ∷ issued fresh ∷ entries_of (signed_verdict (swept m whole) random s))
      ≡ recorded_changes m whole (spent serial ∷ issued fresh ∷ entries_of (signed_verdict (swept m whole) random s))

abbrev pub AnswersAs : ℕ → Ask → Tables → Tables → Type 0
AnswersAs m (ask.NewNonce head) whole part = IssuesAs m whole part
AnswersAs m (ask.Signed s) whole part = PassesAs m s whole part
AnswersAs m (ask.Office a) whole part = SettlesAs m a whole part
