-- A part that is ready for an ask: closed, and with all that the ask names and that may change by it.
use Rattle.std.proofs.Common.{◌≡◌, ℕ, List, refl, arith, rules}
use Rattle.desk_model.specs.Effect.{effect, falls, is_overdue, swept, swept_authorization, swept_order}
use Rattle.desk_model.specs.declared.verdict.Verdict.TheVariants.{Refused as refused, KeyTaken as key_taken, Answers as answers, Opens as opens}
use Rattle.desk_model.specs.declared.verdict.Verdict.TheVariants.{Orders as orders, Moves as moves}
use Rattle.desk_model.specs.{Shown.reply_of, Shown.made_account, Shown.made_order, Shown.moved_reply, declared.reply.Reply.Reply, declared.call.Ask.Ask}
use Rattle.desk_model.specs.{declared.entry.Entry.Entry, declared.rows.AuthorizationRow.AuthorizationRow, declared.rows.OrderRow.OrderRow}
use Rattle.desk_model.specs.{declared.verdict.Verdict.Verdict, Tables.Tables, Entry.entry_of, Kept.Covers, Kept.IsClosed, Kept.Kept, Kept.restricted}
use Rattle.desk_model.specs.{declared.entry.Entry.TheVariants.Opened as opened, declared.entry.Entry.TheVariants.Ordered as ordered, Asked.names_owner}
use Rattle.model_laws.proofs.Basics.{each, each-map, one_kept}
use Rattle.model_laws.proofs.{Local.swept_number, Local.swept_order_number, SweptParts.swept_account, SweptParts.swept_covers}
use Rattle.model_laws.specs.Parts.{ReusedKept}
use Rattle.model_parts.proofs.Grown.{IsNamedBy, KeepsNamed, KeepsRestated, keeps_entry, may_restate}

-- by the tables before the sweep
pub record IsReady (k : Kept) (T : Tables) (m : ℕ) (a : Ask) : Type 0 where
  pub closed : IsClosed k T
  pub restated : KeepsRestated (may_restate a) k T m a
  pub named : KeepsNamed k T a

-- an authorization is named and held as before it was swept
pub swept_named : (a : Ask) (m : ℕ) (r : AuthorizationRow) → names_owner a (swept_authorization m r) ≡ names_owner a r
swept_named a m r = grind arith

-- a swept authorization keeps its name
swept_name : (m : ℕ) (r : AuthorizationRow) → (swept_authorization m r).name ≡ r.name
swept_name m r = one_kept (λ (a : AuthorizationRow). a.name) (is_overdue m r) _ r refl

-- a swept order keeps its account
swept_order_account : (m : ℕ) (rows : List AuthorizationRow) (o : OrderRow) → (swept_order m rows o).account ≡ o.account
swept_order_account m rows o = one_kept (λ (r : OrderRow). r.account) (falls m rows o) _ o refl

-- what is kept of the swept tables
pub swept_names : (k : Kept) (T : Tables) (m : ℕ) (a : Ask) → KeepsNamed k T a → KeepsNamed k (swept m T) a
swept_names k T m a h = search (rules, each-map, each, swept_number, swept_named, swept_order_number, swept_order_account, swept_name, swept_account)

-- ---- what is asked of a verdict: its entry touches kept rows alone, a new order uses again what is kept, and the part shows what the whole shows

-- an entry touches kept rows alone, and the reply is the same
abbrev pub IsCarried : Kept → ℕ → Tables → Entry → (Tables → Reply) → Type 0
IsCarried k m S e reply = Covers k S e × (reply (restricted k (effect m S e)) ≡ reply (effect m S e))

-- what is asked of each verdict
abbrev pub IsAnswered : Kept → ℕ → Tables → Verdict → Type 0
IsAnswered k m S (refused why subproblems) = Unit {0}
IsAnswered k m S (key_taken account) = Unit {0}
IsAnswered k m S (answers what) = reply_of (restricted k S) what ≡ reply_of S what
IsAnswered k m S (opens key contacts) = IsCarried k m S (opened key contacts) made_account
IsAnswered k m S (orders account wanted) = ReusedKept k (ordered account wanted) × IsCarried k m S (ordered account wanted) made_order
IsAnswered k m S (moves move) = IsCarried k m S (entry_of move) (λ T. moved_reply T move)

-- an entry that touches what the ask names
pub covered : {k : Kept} {T : Tables} {m : ℕ} {a : Ask} {e : Entry} → IsReady k T m a → IsNamedBy T a e → Covers k (swept m T) e
covered {k} {T} {m} {a} {e} ready named = swept_covers k T m e (keeps_entry k T m a e ready.restated named)
