-- JSON values that are plain hold no float and are not deep.
use Rattle.std.proofs.Common.{◌≡◌, ◌≤◌, ◌∙◌, ℕ, zero, suc, List, [], ◌∷◌, map, Bool, true, false, Result, Ok, Err, IfOk, Some, refl, ap, sym, subst, arith}
use Rattle.std.specs.Prelude.{◌&&◌, ◌||◌, not}
use Rattle.serde_json.specs.Data.{Data, number, array, object, Items, no_items, item, Members, no_members, member, depth, items_depth, members_depth}
use Rattle.serde_json.specs.Written.{compact_text, has_float, items_have_float, members_have_float}
use Rattle.serde_json.specs.{Find.is_float, View.items_of, Read.max_depth, Read.read}
use Rattle.desk_model.specs.Plain.{is_document, is_plain, items_are_plain, members_are_plain}

-- both of two tests
both : (a b : Bool) → (a && b) ≡ true → (a ≡ true) × (b ≡ true)
both true b h = (refl, h)
both false b h = absurd (cc h)

-- neither of two
neither : (a b : Bool) → a ≡ false → b ≡ false → (a || b) ≡ false
neither true b p q = absurd (cc p)
neither false b p q = q

-- a test whose opposite holds fails
not_so : (a : Bool) → not a ≡ true → a ≡ false
not_so true h = absurd (cc h)
not_so false h = refl

-- a list whose items are made of others is plain where each of these is
pub each_plain : {X : Type 0} (n : ℕ) (f : X → Data) → ((x : X) → is_plain n (f x) ≡ true) → (xs : List X) → items_are_plain n (items_of (map f xs)) ≡ true
each_plain n f plain [] = refl
each_plain n f plain (x ∷ xs) = ap (λ b. b && items_are_plain n (items_of (map f xs))) (plain x) ∙ each_plain n f plain xs

mutual
  -- a plain value holds no float
  pub plain_has_no_float : (n : ℕ) (d : Data) → is_plain n d ≡ true → has_float d ≡ false
  plain_has_no_float n (number x) h = not_so (is_float x) h
  plain_has_no_float zero (array ds) h = absurd (cc h)
  plain_has_no_float (suc n) (array ds) h = items_have_none n ds h
  plain_has_no_float zero (object ms) h = absurd (cc h)
  plain_has_no_float (suc n) (object ms) h = members_have_none n ms h
  plain_has_no_float n _ h = refl

  items_have_none : (n : ℕ) (ds : Items) → items_are_plain n ds ≡ true → items_have_float ds ≡ false
  items_have_none n no_items h = refl
  items_have_none n (item d ds) h =
      let each = both (is_plain n d) (items_are_plain n ds) h in
      neither (has_float d) (items_have_float ds) (plain_has_no_float n d each.0) (items_have_none n ds each.1)

  members_have_none : (n : ℕ) (ms : Members) → members_are_plain n ms ≡ true → members_have_float ms ≡ false
  members_have_none n no_members h = refl
  members_have_none n (member k d ms) h =
      let each = both (is_plain n d) (members_are_plain n ms) h in
      neither (has_float d) (members_have_float ms) (plain_has_no_float n d each.0) (members_have_none n ms each.1)

mutual
  -- a plain value is no deeper than it may be
  pub plain_is_shallow : (n : ℕ) (d : Data) → is_plain n d ≡ true → depth d ≤ n
  plain_is_shallow zero (array ds) h = absurd (cc h)
  plain_is_shallow (suc n) (array ds) h = let low = items_are_shallow n ds h in omega (arith, low)
  plain_is_shallow zero (object ms) h = absurd (cc h)
  plain_is_shallow (suc n) (object ms) h = let low = members_are_shallow n ms h in omega (arith, low)
  plain_is_shallow n _ h = omega arith

  items_are_shallow : (n : ℕ) (ds : Items) → items_are_plain n ds ≡ true → items_depth ds ≤ n
  items_are_shallow n no_items h = omega arith
  items_are_shallow n (item d ds) h =
      let each = both (is_plain n d) (items_are_plain n ds) h in
      let here = plain_is_shallow n d each.0 in
      let rest = items_are_shallow n ds each.1 in
      omega (arith, here, rest)

  members_are_shallow : (n : ℕ) (ms : Members) → members_are_plain n ms ≡ true → members_depth ms ≤ n
  members_are_shallow n no_members h = omega arith
  members_are_shallow n (member k d ms) h =
      let each = both (is_plain n d) (members_are_plain n ms) h in
      let here = plain_is_shallow n d each.0 in
      let rest = members_are_shallow n ms each.1 in
      omega (arith, here, rest)

-- a document is no deeper than what is read
pub document_fits : (d : Data) → is_document d ≡ true → depth d ≤ max_depth
document_fits d plain = let low = plain_is_shallow 8 d plain in omega (arith, low)

-- the text that is written of a value which shows a plain document is the compact text of the document
pub written_text : {X E : Type 0} (bytes : X → List ℕ) (r : Result X E) (value shown : Data) → value ≡ shown → is_document shown ≡ true
    → IfOk r (λ s. has_float value ≡ false → bytes s ≡ compact_text value) → IfOk r (λ s. bytes s ≡ compact_text shown)
written_text bytes (Ok s) value shown is plain text = text (ap has_float is ∙ plain_has_no_float 8 shown plain) ∙ ap compact_text is
written_text bytes (Err e) value shown is plain text = tt

-- and reads back as it
pub written_reads : {X E : Type 0} (bytes : X → List ℕ) (r : Result X E) (value shown : Data) → value ≡ shown → is_document shown ≡ true
    → IfOk r (λ s. depth value ≤ max_depth → read (bytes s) ≡ Some value) → IfOk r (λ s. read (bytes s) ≡ Some shown)
written_reads bytes (Ok s) value shown is plain reads = reads (subst (λ d. depth d ≤ max_depth) (sym is) (document_fits shown plain)) ∙ ap Some is
written_reads bytes (Err e) value shown is plain reads = tt
