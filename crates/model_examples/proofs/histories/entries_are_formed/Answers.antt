use Rattle.std.proofs.{Common.◌≡◌, Common.true, Common.IsUtf8, Common.refl, lemmas.Str.IsUtf8-from_is_utf8, lemmas.Str.is_utf8-from_IsUtf8}
use Rattle.std.specs.{Str.chars, Str.is_utf8, Char.encode_utf8}
use Rattle.model_examples.proofs.histories.entries_are_formed.Goals as goal
use Rattle.model_examples.specs.Formed.{utf8_contact, latin_contact}

-- the contact in UTF-8 is text
is_text : IsUtf8 utf8_contact
unfolding is_utf8 chars encode_utf8
is_text = IsUtf8-from_is_utf8 utf8_contact refl

-- and that in Latin-1 is none
is_no_text : ¬ IsUtf8 latin_contact
unfolding is_utf8 chars encode_utf8
is_no_text h = let told : is_utf8 latin_contact ≡ true = is_utf8-from_IsUtf8 latin_contact h in cc

pub returns : goal.returns
returns c =
    record {
      changes_to_text = (is_text, tt);
      changes_to_latin = λ h. is_no_text h.1.0;
      opens_with_latin = λ h. is_no_text h.1.0;
      fails_by_latin = λ h. is_no_text h.detail;
    }
