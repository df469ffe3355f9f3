-- What the desk decides on a call: a reply, and the entries to record, all at the moment at which the call acts.
use Rattle.std.specs.Prelude.{ℕ, List, [], ◌∷◌, ◌++◌, take, drop, Bool, false, true, Option, Some, None}
use Rattle.desk_model.specs.Entry.{Entry, entry_of, issued, spent, opened, ordered, History}
use Rattle.desk_model.specs.Verdict.{Verdict, refused, key_taken, answers, opens, orders, moves}
use Rattle.desk_model.specs.Shown.{Reply, reply_of, made_account, made_order, moved_reply, refusal_reply, taken_reply, nonce_reply, with_nonce, fresh_nonce}
use Rattle.desk_model.specs.{History.moment_of, History.record_all, Tables.Tables, Tables.tables_at, Rules.signed_verdict, Rules.office_verdict}
use Rattle.desk_model.specs.{Rules.open_nonce, declared.call.Call.Call, declared.call.Ask.Ask, declared.call.Signed.Signed}
use Rattle.desk_model.specs.declared.call.Ask.TheVariants as ask
use Rattle.desk_model.specs.declared.refusal.Refusal.TheVariants as refusal

pub record Decision : Type 0 where
  pub reply : Reply
  pub entries : List Entry

-- the entries that a verdict records
abbrev pub entries_of : Verdict → List Entry
entries_of (refused why subproblems) = []
entries_of (key_taken account) = []
entries_of (answers what) = []
entries_of (opens key contacts) = opened key contacts ∷ []
entries_of (orders account wanted) = ordered account wanted ∷ []
entries_of (moves move) = entry_of move ∷ []

-- the reply of a verdict, by the tables after its entries
abbrev pub verdict_reply : (index : Bool) → Tables → Verdict → Reply
verdict_reply index T (refused why subproblems) = refusal_reply index why subproblems
verdict_reply index T (key_taken account) = taken_reply index T account
verdict_reply index T (answers what) = reply_of T what
verdict_reply index T (opens key contacts) = made_account T
verdict_reply index T (orders account wanted) = made_order T
verdict_reply index T (moves move) = moved_reply T move

-- the tables after these entries, recorded at m
abbrev pub tables_after : ℕ → List Entry → History → Tables
tables_after m es F = tables_at (record_all m es F) m

-- a call that carries no nonce
abbrev pub office_decision : History → ℕ → Verdict → Decision
office_decision F m v = record { reply = verdict_reply false (tables_after m (entries_of v) F) v; entries = entries_of v }

-- the nonce is spent and a fresh one issued
abbrev pub nonce_entries : ℕ → List ℕ → List Entry
nonce_entries serial random = spent serial ∷ issued (take 16 random) ∷ []

abbrev pub passed_decision : History → ℕ → List ℕ → ℕ → Verdict → Decision
passed_decision F m random serial v =
    record {
      reply = with_nonce (fresh_nonce (tables_at F m) random) (verdict_reply true (tables_after m (nonce_entries serial random ++ entries_of v) F) v);
      entries = nonce_entries serial random ++ entries_of v;
    }

-- a signed request without an open nonce is refused with a fresh one; another is judged by the tables
-- after its nonce was spent and a fresh one issued (RFC 8555, 6.5)
abbrev pub signed_decision : History → ℕ → List ℕ → Signed → Option ℕ → Decision
signed_decision F m random s None =
    record { reply = with_nonce (fresh_nonce (tables_at F m) random) (refusal_reply true refusal.BadNonce []); entries = issued (take 16 random) ∷ [] }
signed_decision F m random s (Some serial) =
    passed_decision F m random serial (signed_verdict (tables_after m (nonce_entries serial random) F) (drop 16 random) s)

abbrev pub decide_at : History → ℕ → List ℕ → Ask → Decision
decide_at F m random (ask.NewNonce head) =
    record { reply = with_nonce (fresh_nonce (tables_at F m) random) (nonce_reply head); entries = issued (take 16 random) ∷ [] }
decide_at F m random (ask.Signed s) = signed_decision F m random s (open_nonce (tables_at F m) s.nonce)
decide_at F m random (ask.Office a) = office_decision F m (office_verdict (tables_at F m) a)

abbrev pub decide : History → Call → Decision
decide F call = decide_at F (moment_of call.at F) call.random call.ask

-- the history after a call
abbrev pub after : History → Call → History
after F call = record_all (moment_of call.at F) (decide F call).entries F
