-- The strings and keys among the tokens of a UTF-8 text are UTF-8.
use Rattle.std.proofs.Common.{◌≡◌, ◌<◌, ℕ, List, [], ◌∷◌, ◌++◌, Option, IsUtf8, IfSome, sym, subst, Bool, cond, arith, append_assoc}
use Rattle.desk_model.specs.Kept.{EachOf}
use Rattle.model_laws.proofs.AsciiTexts.{parted}
use Rattle.json.specs.Lex.{Class, Lexeme, Mode, Place, token, comma, colon, quote, class, string_token, between, lex_byte, lex, fresh, after_value, after_comma}
use Rattle.json.specs.Lex.{after_key, begins_colon, place_token, punctuate, tokens}
use Rattle.json.specs.{Text.content, Text.plain, Token.Token, Token.key, Token.string, Word.word}
use Rattle.model_lives.proofs.JsonContent.{string_text}

-- a string and a key are texts
abbrev pub IsTextToken : Token → Type 0
IsTextToken (key s) = IsUtf8 s
IsTextToken (string s) = IsUtf8 s
IsTextToken _ = Unit {0}

-- and so between commas and colons
abbrev IsTextLexeme : Lexeme → Type 0
IsTextLexeme (token t) = IsTextToken t
IsTextLexeme comma = Unit {0}
IsTextLexeme colon = Unit {0}

-- ---- lexemes

-- one of two tokens
either : (b : Bool) (t u : Token) → IsTextToken t → IsTextToken u → IsTextToken (cond b t u)
either b t u h k = grind arith

-- a word is no string
word_text : (text : List ℕ) → IsTextToken (word text)
unfolding word
word_text text = grind (arith, either)

-- a string's token
string_token_text : (o : Option (List ℕ)) → IfSome o IsUtf8 → IsTextToken (string_token o)
string_token_text o h = grind arith

-- a quotation mark is ASCII
quote_ascii : (x : ℕ) → class x ≡ quote → x < 128
quote_ascii x h = grind arith

-- what is read at a byte, where what is read behind it holds texts
byte_texts : (m : Mode) (c : Class) (x : ℕ) (rest : List ℕ) (next : Mode → List Lexeme) → (c ≡ quote → IsTextToken (string_token (content plain rest))) →
    ((mode : Mode) → EachOf IsTextLexeme (next mode)) → EachOf IsTextLexeme (lex_byte m c x rest next)
byte_texts m c x rest next h k = grind (arith, word_text)

-- the lexemes of the end of a text
lex_texts : (m : Mode) (front rest : List ℕ) → IsUtf8 (front ++ rest) → EachOf IsTextLexeme (lex m rest)
unfolding lex
lex_texts m front [] text = tt
lex_texts m front (x ∷ rest) text =
    byte_texts m (class x) x rest (λ mode. lex mode rest)
    (λ is. string_token_text (content plain rest) (string_text rest (parted front x rest text (quote_ascii x is)).after))
    (λ mode. lex_texts mode (front ++ x ∷ []) rest (subst IsUtf8 (sym (append_assoc front (x ∷ []) rest)) text))

-- ---- tokens

-- a token and what follows it
place_texts : (p : Place) (t : Token) (b : Bool) (next : Place → List Token) → IsTextToken t → ((q : Place) → EachOf IsTextToken (next q)) →
    EachOf IsTextToken (place_token p t b next)
place_texts p t b next h k = grind arith

-- the tokens of lexemes
punctuate_texts : (p : Place) (ls : List Lexeme) → EachOf IsTextLexeme ls → EachOf IsTextToken (punctuate p ls)
unfolding punctuate
punctuate_texts fresh [] h = tt
punctuate_texts after_value [] h = tt
punctuate_texts after_value (comma ∷ ls) h = punctuate_texts after_comma ls h.1
punctuate_texts after_key (colon ∷ ls) h = punctuate_texts fresh ls h.1
punctuate_texts p (token t ∷ ls) h = place_texts p t (begins_colon ls) (λ q. punctuate q ls) h.0 (λ q. punctuate_texts q ls h.1)
punctuate_texts _ _ h = (tt, tt)

-- the tokens of a text
pub tokens_texts : (text : List ℕ) → IsUtf8 text → EachOf IsTextToken (tokens text)
tokens_texts text h = punctuate_texts fresh (lex between text) (lex_texts between [] text h)
