-- Lines that are answered, one after the other.
use Rattle.std.proofs.Common.{arith, ◌≡◌, ◌≢◌, ℕ, List, [], ◌∷◌, ◌++◌, Option, None, Some, Result, Ok, Err, ◌∙◌, refl, sym, subst}
use Rattle.std.proofs.KnownBytes.{Appends-nil, Appends-trans}
use Rattle.std.specs.{Prelude.IfErr, Prelude.IfOk, Prelude.IfSome, Prelude.IsErr, Prelude.OnOk, Prelude.unwrap_or, Io.KnownBytes.Appends, Io.KnownBytes.IsAtEnd}
use Rattle.std.specs.{Io.Buffered.reader_buffer, Io.Buffered.reader_inner, Io.BufRead.DropsThrough, Io.BufRead.drop_through, Io.BufRead.first_piece}
use Rattle.std.specs.{Io.Buffered.reader_capacity, Io.Buffered.reader_remaining, Io.KnownBytes.prepend_known, declared.io.buffered.BufReader.BufReader}
use Rattle.app_batch.specs.InTurn.{AnswersEach, AnswersFirst, AnswersLine, AnswersLines, AreLines, IsNextLine, Stops, StopsBehind, no_line, not_one}
use Rattle.app_batch.specs.InTurn.{one_line_more, one_more, silent, unwritten}
use Rattle.app_batch.specs.{Said.Answered, Said.Says, declared.fault.AnswerFault.AnswerFault}
use Rattle.desk.specs.State.{DeskState}
use Rattle.store_api.specs.Sight.{Sight}

-- ---- the reader's bytes

-- no bytes before what remains leave it
prepend_nothing : (remaining : Option (List ℕ)) → prepend_known [] remaining ≡ remaining
prepend_nothing None = refl
prepend_nothing (Some xs) = refl

-- these lines were read of a reader whose bytes may be known, and this is what it still gives
pub record IsReadTo (bytes now : Option (List ℕ)) (lines : List (List ℕ)) (left : List ℕ) : Type 0 where
  pub read : IfSome bytes (λ xs. AreLines xs lines left)
  pub unread : IfSome bytes (λ xs. now ≡ Some left)

-- a reader that has read nothing ahead gives what its inner one does
pub remaining_anew : {T A : Type 0} (remaining : T → Option (List ℕ)) (r : BufReader T A) (inner : T) → reader_inner r ≡ inner → reader_buffer r ≡ []
    → reader_capacity r ≡ 8192 → reader_remaining remaining r ≡ remaining inner
remaining_anew remaining r inner same empty capacity =
    grind (arith, prepend_nothing)

-- nothing was read yet
pub read_nothing : (bytes now : Option (List ℕ)) → now ≡ bytes → IsReadTo bytes now [] (unwrap_or bytes [])
read_nothing None now same = record { read = tt; unread = tt }
read_nothing (Some xs) now same = record { read = no_line; unread = same }

-- one line more
pub read_more : (bytes now next : Option (List ℕ)) (lines : List (List ℕ)) (left line : List ℕ) → IsReadTo bytes now lines left
    → IfSome now (λ xs. (xs ≢ []) × (line ≡ first_piece 10 xs)) → DropsThrough now next 10
    → IsReadTo bytes next (lines ++ line ∷ []) (drop_through 10 left)
read_more bytes now next lines left line before some rest = grind (arith, one_line_more)

-- the line that was read is the first of those that are left
pub read_next : (bytes now : Option (List ℕ)) (lines : List (List ℕ)) (left line : List ℕ) → IsReadTo bytes now lines left
    → IfSome now (λ xs. (xs ≢ []) × (line ≡ first_piece 10 xs)) → IsNextLine bytes left line
read_next bytes now lines left line before some = grind arith

-- ---- the desk and the writer

module _ {S C : Type 0} (v : Sight S C) where
  -- what became of a line, by what was said to it and what was written
  pub line_answered : {V E : Type 0} (items : V → List ℕ) (line : List ℕ) (was is : Option (List ℕ)) (old new : DeskState S)
      (answered : Result V AnswerFault) (result : Result Unit E)
      → Answered v items old line answered new → IfOk answered (λ said. OnOk result (Appends was is (items said ++ 10 ∷ [])))
      → IfErr answered (λ why. IsErr result × (is ≡ was)) → AnswersLine v line was is old new result
  line_answered items line was is old new (Ok said) (Ok done) says written none = (items said, says, written)
  line_answered items line was is old new (Ok said) (Err e) says written none = unwritten (items said) says
  line_answered items line was is old new (Err why) (Ok done) says written none = absurd (cc none.0)
  line_answered items line was is old new (Err why) (Err e) says written none = silent why says none.1

  -- lines that were answered so far: which, what was said to them, and what the reader still gives
  pub record IsAnsweredTo (bytes now was is : Option (List ℕ)) (old new : DeskState S) : Type 0 where
    pub lines : List (List ℕ)
    pub said : List ℕ
    pub left : List ℕ
    pub read : IsReadTo bytes now lines left
    pub answered : AnswersEach v old lines said new
    pub written : Appends was is said

  -- the first of them, where a line that was read is not counted yet
  pub first_of : (bytes now was is : Option (List ℕ)) (old new : DeskState S) (a : IsAnsweredTo bytes now was is old new)
      → AnswersFirst v bytes was a.left is old new
  first_of bytes now was is old new a = record { lines = a.lines; said = a.said; read = a.read.read; answered = a.answered; written = a.written }

  -- none yet
  pub answered_none : (bytes now was : Option (List ℕ)) (old : DeskState S) → now ≡ bytes → IsAnsweredTo bytes now was was old old
  answered_none bytes now was old same = record {
    lines = [];
    said = [];
    left = unwrap_or bytes [];
    read = read_nothing bytes now same;
    answered = not_one;
    written = Appends-nil was;
  }

  -- one more
  pub answered_more : (bytes now next was mid is : Option (List ℕ)) (line : List ℕ) (old between new : DeskState S)
      → IsAnsweredTo bytes now was mid old between → IfSome now (λ xs. (xs ≢ []) × (line ≡ first_piece 10 xs)) → DropsThrough now next 10
      → (text : List ℕ) × Says v between line text new × Appends mid is (text ++ 10 ∷ []) → IsAnsweredTo bytes next was is old new
  answered_more bytes now next was mid is line old between new a some rest one = record {
    lines = a.lines ++ line ∷ [];
    said = a.said ++ (one.0 ++ 10 ∷ []);
    left = drop_through 10 a.left;
    read = read_more bytes now next a.lines a.left line a.read some rest;
    answered = one_more a.answered one.1;
    written = Appends-trans was mid is a.said (one.0 ++ 10 ∷ []) a.written one.2;
  }

  -- all, where the reader gives no more
  pub answered_all : (bytes now was is : Option (List ℕ)) (old new : DeskState S) → IsAnsweredTo bytes now was is old new → IsAtEnd now
      → AnswersFirst v bytes was [] is old new
  answered_all None now was is old new a end = record { lines = a.lines; said = a.said; read = tt; answered = a.answered; written = a.written }
  answered_all (Some xs) None was is old new a end = absurd (cc (a.read.unread))
  answered_all (Some xs) (Some ys) was is old new a end =
      let same : ys ≡ a.left = cc (a.read.unread) in
      record {
        lines = a.lines;
        said = a.said;
        read = subst (λ l. AreLines xs a.lines l) (sym same ∙ end) a.read.read;
        answered = a.answered;
        written = a.written;
      }

  -- and then came what was not answered
  pub stops_behind : (bytes now was mid is : Option (List ℕ)) (old between new : DeskState S) → (a : IsAnsweredTo bytes now was mid old between)
      → Stops v bytes a.left mid is between new → StopsBehind v bytes was is old new
  stops_behind bytes now was mid is old between new a s =
      record { left = a.left; mid = between; written = mid; first = first_of bytes now was mid old between a; stops = s }

  -- and so is the result that tells it
  pub told_stop : {E : Type 0} (bytes was is : Option (List ℕ)) (old new : DeskState S) (result : Result Unit E) → IsErr result
      → StopsBehind v bytes was is old new → AnswersLines v bytes was is old new result
  told_stop bytes was is old new result failed s = grind arith
