-- What is shown, copied in pieces.
use Rattle.std.proofs.Common.{◌≡◌, ◌≢◌, ◌∙◌, ◌<◌, ◌+◌, ◌-◌, ◌++◌, ℕ, false, List, [], Option, Result, Ok, Err, ap, append_assoc, arith, drop, length}
use Rattle.std.proofs.Common.{take, take-append-drop, subst, sym}
use Rattle.std.proofs.{KnownBytes.Appends-trans, KnownBytes.Consumes-trans, lemmas.List.drop_at, lemmas.List.length-append}
use Rattle.std.specs.{Prelude.OnErr, Io.KnownBytes.Appends, Io.KnownBytes.Consumes, Io.KnownBytes.IsAtEnd}
use Rattle.http_wire.specs.Head.{Adds}
use Rattle.desk_http.specs.{Copied.CopiesAll, Copied.CopiesLong, Copied.WritesSome}

-- behind a first piece these bytes were read, and all but the last piece was written
pub record HasCopied (first piece : List ℕ) (input left was is : Option (List ℕ)) : Type 0 where
  pub shown : List ℕ
  pub bytes : List ℕ
  pub read : Consumes input left bytes
  pub whole : first ++ bytes ≡ shown ++ piece
  pub written : Appends was is shown

-- what was written before some bytes, and then some
pub writes_more : (was mid is : Option (List ℕ)) (bytes : List ℕ) → Appends was mid bytes → WritesSome mid is → WritesSome was is
writes_more was mid is bytes before it = (bytes ++ it.0, Appends-trans was mid is bytes it.0 before it.1)

-- what is so whatever the result is so of a failed one
pub where_failed : {A E : Type 0} (r : Result A E) (P : Type 0) → P → OnErr r P
where_failed r P p = grind (arith, Ok, Err)

-- a piece more: what was held of it stands before what was added
pub whole_next : (first piece held full added bytes shown : List ℕ) (n : ℕ) → first ++ bytes ≡ shown ++ piece → held ≡ drop n piece
    → full ≡ held ++ added → first ++ (bytes ++ added) ≡ (shown ++ take n piece) ++ full
whole_next first piece held full added bytes shown n whole front is =
    sym (append_assoc first bytes added)
    ∙ (ap (λ l. l ++ added) whole
    ∙ (append_assoc shown piece added
    ∙ (ap (λ l. shown ++ (l ++ added)) (sym (take-append-drop n piece))
    ∙ (ap (λ l. shown ++ l) (append_assoc (take n piece) (drop n piece) added)
    ∙ (ap (λ l. shown ++ (take n piece ++ l)) (ap (λ h. h ++ added) (sym front) ∙ sym is) ∙ sym (append_assoc shown (take n piece) full))))))

module _ (first piece held : List ℕ) (input left more was is mid : Option (List ℕ)) (n : ℕ) where
  -- a full piece was read behind it
  pub copied_next : (full : List ℕ) → HasCopied first piece input left was is → held ≡ drop n piece → Appends is mid (take n piece) → Adds left more held full
      → HasCopied first full input more was mid
  copied_next full it front written adds = record {
    shown = it.shown ++ take n piece;
    bytes = it.bytes ++ adds.0;
    read = Consumes-trans input left more it.bytes adds.0 it.read adds.2;
    whole = whole_next first piece held full adds.0 it.bytes it.shown n it.whole front adds.1;
    written = Appends-trans was is mid it.shown (take n piece) it.written written;
  }

-- and what was read last ends with the last line
pub copied_long : (first end shown last : List ℕ) (input left was mid is : Option (List ℕ)) → HasCopied first end input left was mid → end ≡ shown ++ last
    → Appends mid is shown → IsAtEnd left → CopiesLong first last input left was is
copied_long first end shown last input left was mid is it ends written at_end = grind (arith, shown, append_assoc, Appends-trans)

-- ---- what stands behind the head

-- what is longer than a text and the last line is no such text
not_text : (piece bytes shown last text : List ℕ) → piece ++ bytes ≡ shown ++ last → length text + length last < length piece → shown ≢ text
not_text piece bytes shown last text whole room same =
    let lengths : length (piece ++ bytes) ≡ length (shown ++ last) = ap length whole in
    let alike : length shown ≡ length text = ap length same in
    omega (arith, length-append piece bytes, length-append shown last, lengths, alike)

-- what is longer than a text is copied as what is no text
pub all_long : (last text piece first : List ℕ) (input mid left was is : Option (List ℕ)) → piece ≡ first → Consumes input mid first
    → length text + length last < length piece → CopiesLong piece last mid left was is → CopiesAll [] last text input left was is false
all_long last text piece first input mid left was is same read room it = (
  it.shown,
  record {
    read = subst (Consumes input left) (ap (λ l. l ++ it.bytes) (sym same) ∙ it.whole) (Consumes-trans input mid left first it.bytes read it.read);
    end = it.end;
    written = it.written;
  },
  (λ no. cc, λ is. absurd (not_text piece it.bytes it.shown last text it.whole room is)),
)

-- what has other bytes at its end does not end with the last line
pub no_last : (end rest last : List ℕ) (n : ℕ) → n ≡ length end - length last → rest ≡ drop n end → (rest ≡ last → ⊥) → (shown : List ℕ)
    → end ≡ shown ++ last → ⊥
no_last end rest last n at back other shown is =
    let lengths : length end ≡ length (shown ++ last) = ap length is in
    let before : length shown ≡ n = omega (arith, length-append shown last, lengths, at) in
    other (back ∙ (ap (drop n) is ∙ drop_at shown last n before))
