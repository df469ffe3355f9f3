-- What answering the lines of a reader, one after the other, does to a desk and a writer.
use Rattle.std.specs.Prelude.{◌≡◌, ◌≢◌, ℕ, List, [], ◌∷◌, ◌++◌, Option, Result, Ok, Err, IfSome}
use Rattle.std.specs.{Io.BufRead.drop_through, Io.BufRead.first_piece, Io.KnownBytes.Appends}
use Rattle.app_batch.specs.{Said.Says, Said.SaysNothing, declared.fault.AnswerFault.AnswerFault}
use Rattle.desk.specs.State.{DeskState}
use Rattle.store_api.specs.Sight.{Sight}

-- the first lines of these bytes, without their ends, and the bytes behind them
pub data AreLines (bytes : List ℕ) : List (List ℕ) → List ℕ → Type 0 where
  no_line : AreLines bytes [] bytes
  one_line_more : {lines : List (List ℕ)} {left : List ℕ} → AreLines bytes lines left → left ≢ []
      → AreLines bytes (lines ++ first_piece 10 left ∷ []) (drop_through 10 left)

-- the first line of a reader's last bytes, without its end, where its bytes are known
abbrev pub IsNextLine : (bytes : Option (List ℕ)) → (left line : List ℕ) → Type 0
IsNextLine bytes left line = IfSome bytes (λ _. (left ≢ []) × (line ≡ first_piece 10 left))

module _ {S C : Type 0} (v : Sight S C) where
  -- these lines were answered, one after the other, and this is what was said to them, each text with its end
  pub data AnswersEach (old : DeskState S) : List (List ℕ) → List ℕ → DeskState S → Type 0 where
    not_one : AnswersEach old [] [] old
    one_more : {lines : List (List ℕ)} {said line text : List ℕ} {mid new : DeskState S} → AnswersEach old lines said mid → Says v mid line text new
        → AnswersEach old (lines ++ line ∷ []) (said ++ (text ++ 10 ∷ [])) new

  -- the lines before these last bytes of a reader, where its bytes are known, were answered, and a writer got what was said to them
  pub record AnswersFirst (bytes was : Option (List ℕ)) (left : List ℕ) (is : Option (List ℕ)) (old new : DeskState S) : Type 0 where
    pub lines : List (List ℕ)
    pub said : List ℕ
    pub read : IfSome bytes (λ xs. AreLines xs lines left)
    pub answered : AnswersEach old lines said new
    pub written : Appends was is said

  -- a line was not answered, and the writer is as it was; or it was answered, but that could not be written
  pub data StopsAt (line : List ℕ) (was is : Option (List ℕ)) (old new : DeskState S) : Type 0 where
    silent : (why : AnswerFault) → SaysNothing v old line why new → is ≡ was → StopsAt line was is old new
    unwritten : (text : List ℕ) → Says v old line text new → StopsAt line was is old new

  -- of these last bytes of a reader the next line could not be read, and nothing was done; or it was, and was not told its answer
  pub data Stops (bytes : Option (List ℕ)) (left : List ℕ) (was is : Option (List ℕ)) (old new : DeskState S) : Type 0 where
    unread : new ≡ old → is ≡ was → Stops bytes left was is old new
    untold : (line : List ℕ) → IsNextLine bytes left line → StopsAt line was is old new → Stops bytes left was is old new

  -- lines were answered, and then came one that was not
  pub record StopsBehind (bytes was is : Option (List ℕ)) (old new : DeskState S) : Type 0 where
    pub left : List ℕ
    pub mid : DeskState S
    pub written : Option (List ℕ)
    pub first : AnswersFirst bytes was left written old mid
    pub stops : Stops bytes left written is mid new

  -- all lines were answered; or the first ones, and then came one that was not
  abbrev pub AnswersLines : {E : Type 0} (bytes was is : Option (List ℕ)) (old new : DeskState S) → Result Unit E → Type 0
  AnswersLines bytes was is old new (Ok done) = AnswersFirst bytes was [] is old new
  AnswersLines bytes was is old new (Err why) = StopsBehind bytes was is old new

  -- what became of one line
  abbrev pub AnswersLine : {E : Type 0} (line : List ℕ) (was is : Option (List ℕ)) (old new : DeskState S) → Result Unit E → Type 0
  AnswersLine line was is old new (Ok done) = (text : List ℕ) × Says v old line text new × Appends was is (text ++ 10 ∷ [])
  AnswersLine line was is old new (Err why) = StopsAt line was is old new
