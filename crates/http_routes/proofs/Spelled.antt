-- From the value of a line to its bytes, and the parts of a reply's line.
use Rattle.std.proofs.Common.{◌≡◌, ◌++◌, ℕ, List, Some, Result, MatchResult, append_assoc, subst, arith}
use Rattle.std.specs.Prelude.{IsUtf8, codes}
use Rattle.serde_json.specs.{Data.Data, Read.read}
use Rattle.http_routes.specs.{declared.lines.Line.Line, declared.lines.LineFault.LineFault, Lines.IsLine, Lines.IsNoLine, Lines.Spells, Lines.SpellsNone}
use Rattle.http_routes.specs.declared.lines.LineFault.TheVariants as linefault

-- bytes have one value
one_value : (bytes : List ℕ) (d e : Data) → read bytes ≡ Some d → read bytes ≡ Some e → e ≡ d
one_value bytes d e is_d is_e = cc

-- what is no line by its value is none by its bytes
pub spells_none : (bytes : List ℕ) (d : Data) (fault : LineFault) → read bytes ≡ Some d → IsNoLine d fault → SpellsNone bytes fault
spells_none bytes d linefault.NotACall is_d none =
    λ l s. none l (subst (λ v. IsLine v l) (one_value bytes d s.value is_d s.read) s.line)
spells_none bytes d linefault.Memory is_d none = tt

-- and what is a line stays one
pub spells_or_none : (bytes : List ℕ) (d : Data) (r : Result Line LineFault) → IsUtf8 bytes → read bytes ≡ Some d
    → MatchResult r (λ l. IsLine d l) (λ fault. IsNoLine d fault) → MatchResult r (λ l. Spells bytes l) (λ fault. SpellsNone bytes fault)
spells_or_none bytes d r utf8 is_d h = grind (arith, spells_none)

-- four parts of a line, with a space between them
pub spaced : (a b c d : List ℕ) → a ++ (codes " " ++ (b ++ (codes " " ++ (c ++ (codes " " ++ d))))) ≡ a ++ codes " " ++ b ++ codes " " ++ c ++ codes " " ++ d
spaced a b c d = grind (arith, append_assoc)
