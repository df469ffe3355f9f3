-- A life that goes on in another one.
use Rattle.std.proofs.Common.{◌≡◌, ◌∙◌, List, [], ◌∷◌, ◌++◌, true, false, None, IsTrue, ap, refl, subst, sym}
use Rattle.desk.specs.Seen.{replied}
use Rattle.desk_model.specs.{Decide.decide, Entry.History, Run.fault}
use Rattle.desk_model.specs.Life.{Event, Faulted, IsLife, MayHappen, Reopened, Replied, Stopped, history, is_running, kept_calls, step}

-- the events of a life and those of a later one, which begins with an opening
abbrev joined : (later before : List Event) → List Event
joined later before = later ++ (Reopened ∷ before)

pub history_on : (F : History) (before later : List Event) → history F (joined later before) ≡ history (history F before) later
history_on F before [] = refl
history_on F before (e ∷ es) = ap (step e) (history_on F before es)

running_on : (before later : List Event) → is_running (joined later before) ≡ is_running later
running_on before [] = refl
running_on before (Replied call reply ∷ es) = refl
running_on before (Faulted call ∷ es) = refl
running_on before (Stopped call kept ∷ es) = refl
running_on before (Reopened ∷ es) = refl

-- the desk runs there, too
runs_on : (before later : List Event) → IsTrue (is_running later) → IsTrue (is_running (joined later before))
runs_on before later runs = running_on before later ∙ runs

-- what may happen in the later life may happen in the joined one
may_on : (F : History) (before : List Event) (e : Event) (es : List Event) → MayHappen e (history (history F before) es) es
    → MayHappen e (history F (joined es before)) (joined es before)
may_on F before (Replied call reply) es may = (
  runs_on before es may.0,
  may.1,
  subst (λ H. fault H call ≡ None) (sym (history_on F before es)) may.2,
  subst (λ H. reply ≡ (decide H call).reply) (sym (history_on F before es)) may.3,
)
may_on F before (Faulted call) es may = runs_on before es may
may_on F before (Stopped call true) es may =
    (runs_on before es may.0, may.1, subst (λ H. fault H call ≡ None) (sym (history_on F before es)) may.2)
may_on F before (Stopped call false) es may = runs_on before es may
may_on F before Reopened es may = tt

pub lives_on : (F : History) (before later : List Event) → IsLife F before → IsLife (history F before) later → IsLife F (joined later before)
lives_on F before [] lives goes = (tt, lives)
lives_on F before (e ∷ es) lives goes = (may_on F before e es goes.0, lives_on F before es lives goes.1)

pub replied_on : (before later : List Event) → replied (joined later before) ≡ replied later ++ replied before
replied_on before [] = refl
replied_on before (Replied call reply ∷ es) = ap (λ told. record { call = call; reply = reply } ∷ told) (replied_on before es)
replied_on before (Faulted call ∷ es) = replied_on before es
replied_on before (Stopped call kept ∷ es) = replied_on before es
replied_on before (Reopened ∷ es) = replied_on before es

pub kept_on : (before later : List Event) → kept_calls (joined later before) ≡ kept_calls later ++ kept_calls before
kept_on before [] = refl
kept_on before (Replied call reply ∷ es) = ap (λ calls. call ∷ calls) (kept_on before es)
kept_on before (Faulted call ∷ es) = kept_on before es
kept_on before (Stopped call true ∷ es) = ap (λ calls. call ∷ calls) (kept_on before es)
kept_on before (Stopped call false ∷ es) = kept_on before es
kept_on before (Reopened ∷ es) = kept_on before es
