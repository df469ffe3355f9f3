-- What a word does, by what its steps say.
use Rattle.std.proofs.Common.{◌≡◌, ◌≤◌, ℕ, zero, suc, List, [], Option, Result, Ok, Err, IsErrAnd, arith, ap, inl, inr, refl, unwrap_or}
use Rattle.app_batch.specs.InTurn.{AnswersFirst, StopsBehind}
use Rattle.app_words.specs.declared.command.{Revocation.Revocation, Serving.Serving}
use Rattle.app_tasks.specs.Deeds.{AnswersLines, Revokes, Serves, TakesAny, ask_of, served, watch_at}
use Rattle.app_tasks.specs.{Showing.desk_shower, declared.fault.Fault.Fault}
use Rattle.app_tasks.specs.declared.fault.Fault.TheVariants as fault
use Rattle.desk_http.specs.{InTurn.ServesConnections, declared.serve_fault.ServeFault.ServeFault, declared.moment_bound.MomentBound.MomentBound}
use Rattle.desk.specs.{Faults.closes, Office.AnswersOffice, SeenDesks.IsSeenOn, State.DeskState, declared.fault.DeskFault.DeskFault}
use Rattle.store_api.specs.{Sight.Sight, Storing.Causes}

-- the end of what was done is this fault
abbrev Fails : Result ℕ Fault → Fault → Type 0
Fails how f = IsErrAnd how (λ e. e ≡ f)

module _ {S C : Type 0} (v : Sight S C) where
  -- the lines of a batch
  pub lines_answered : (bytes was is : Option (List ℕ)) (desk ended : DeskState S) (status : ℕ) → status ≤ 1 → IsSeenOn v desk ended
      → (status ≡ 0 → AnswersFirst v bytes was [] is desk ended) → (status ≡ 1 → StopsBehind v bytes was is desk ended)
      → AnswersLines v bytes was is desk ended (Ok status)
  lines_answered bytes was is desk ended zero most seen all first = record { seen = seen; answers = inl (refl, all refl) }
  lines_answered bytes was is desk ended (suc zero) most seen all first = record { seen = seen; answers = inr (refl, first refl) }
  lines_answered bytes was is desk ended (suc (suc n)) most seen all first = absurd (omega (arith, most))

  -- the desk had a fault
  pub not_revoked : (what : Revocation) (at : ℕ) (desk ended : DeskState S) (cause : DeskFault) (how : Result ℕ Fault)
      → AnswersOffice v at (ask_of what) desk.store ended.store (Err cause) → ended.is_closed ≡ closes cause → ended.policy ≡ desk.policy
      → Fails how (fault.Desk cause) → Revokes v what at desk ended how
  not_revoked what at desk ended cause (Ok status) answers flag policy told = absurd told
  not_revoked what at desk ended cause (Err f) answers flag policy told =
      record { answer = Err cause; answers = answers; flag = flag; policy = policy; told = ap Err told }

  module _ (causes : Causes S) (s : Serving) (clock : ℕ) where
    -- serving was ended by a fault
    pub served_until : (desk ended : DeskState S) (bound : MomentBound) (cause : ServeFault) (how : Result ℕ Fault) → IsSeenOn v desk ended
        → ServesConnections v causes (desk_shower v) TakesAny (unwrap_or s.count 18446744073709551615) desk (watch_at s.max_step clock) ended
        (record { overseer = tt; bound = bound }) (Err cause)
        → Fails how (fault.Serve cause) → Serves v causes s clock desk ended how
    served_until desk ended bound cause (Ok status) seen all told = absurd told
    served_until desk ended bound cause (Err f) seen all told = served (Err cause) bound seen all (ap Err told)
