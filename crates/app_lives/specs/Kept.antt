-- Calls to a desk over any store, and what is left behind them.
use Rattle.std.specs.Prelude.{◌≡◌, ◌⊎◌, List, [], ◌∷◌, Ok, Err}
use Rattle.desk.specs.{Meets.Meets, State.DeskState, declared.fault.DeskFault.DeskFault, Seen.Told, Seen.replied}
use Rattle.desk_model.specs.{Entry.History, Tables.picture, declared.call.Call.Call, declared.reply.Reply.Reply}
use Rattle.desk_model.specs.Life.{Event, IsLife, history, kept_calls}
use Rattle.store_api.specs.Sight.{Sight}

-- the calls that were replied to
abbrev pub calls_of : List Told → List Call
calls_of [] = []
calls_of (t ∷ earlier) = t.call ∷ calls_of earlier

-- these calls were kept, and one more at most, which a fault cut off
abbrev pub AreKept : (calls kept : List Call) → Type 0
AreKept calls kept = (kept ≡ calls) ⊎ ((call : Call) × (kept ≡ call ∷ calls))

module _ {S C : Type 0} (v : Sight S C) where
  -- calls to a desk, one after the other: those that it replied to, with their replies, the latest first, and between them some that it
  -- declined
  pub data Answered (old : DeskState S) : List Told → DeskState S → Type 0 where
    not_one : Answered old [] old
    one_more :
        {told : List Told} {mid new : DeskState S} (call : Call) (reply : Reply) → Answered old told mid → Meets v call mid new (Ok reply)
        → Answered old (record { call = call; reply = reply } ∷ told) new
    one_declined :
        {told : List Told} {mid new : DeskState S} (call : Call) (why : DeskFault) → Answered old told mid → Meets v call mid new (Err why)
        → Answered old told new

  -- the content has the tables of a life from this history on, in which these were the replies; the calls that were kept are theirs, each
  -- whole, and one more at most
  pub record HasLife (F : History) (told : List Told) (c : C) : Type 0 where
    pub life : List Event
    pub lives : IsLife F life
    pub replies : replied life ≡ told
    pub kept : AreKept (calls_of told) (kept_calls life)
    pub tables : v.has c (picture (history F life))
