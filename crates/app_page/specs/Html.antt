-- Texts within HTML.
use Rattle.std.specs.{Prelude.ℕ, Prelude.◌==◌, Prelude.List, Prelude.chars, Prelude.codes, Prelude.cond, List.flat_map}
use Rattle.app_reports.specs.Visible.{visible_char}

-- a character; the entity that stands for it, where HTML reads it otherwise: & < > " '; a backslash as JSON escapes it, and what is no visible
-- character of ASCII
abbrev pub escape : ℕ → List ℕ
escape c =
    cond (c == 38) (codes "&amp;") (cond (c == 60) (codes "&lt;") (cond (c == 62) (codes "&gt;") (cond (c == 34) (codes "&quot;")
    (cond (c == 39) (codes "&#39;") (cond (c == 92) (codes "\\\\") (visible_char c))))))

-- each character of a text so
abbrev pub escaped : List ℕ → List ℕ
escaped text = flat_map escape (chars text)
