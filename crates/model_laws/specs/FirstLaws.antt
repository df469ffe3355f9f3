-- Histories in which no account got another key: those of a file of format 1.
use Rattle.std.specs.Prelude.{ℕ, List, ◌≡◌, IfSome}
use Rattle.desk_model.specs.{Effect.key_numbered, Entry.History, Keys.thumbprint, Kept.EachOf, Tables.Tables}
use Rattle.desk_model.specs.declared.{entry.Entry.Entry, entry.Entry.TheVariants.KeyChanged as key_changed, rows.ChallengeRow.ChallengeRow}

-- the entry gives no account another key
abbrev pub IsNoKeyChange : Entry → Type 0
IsNoKeyChange (key_changed account key) = ⊥
IsNoKeyChange _ = Unit {0}

-- no entry does
abbrev pub KeepsKeys : History → Type 0
KeepsKeys F = EachOf (λ d. IsNoKeyChange d.entry) F

-- where the challenge was answered, it was under this key
abbrev pub IsUnder : List ℕ → ChallengeRow → Type 0
IsUnder key c = IfSome c.answered (λ a. a.thumb ≡ thumbprint key)

-- each answer was under the key that its account has now
abbrev pub AreUnderKeysNow : Tables → Type 0
AreUnderKeysNow T = EachOf (λ a. EachOf (IsUnder (key_numbered a.account T.accounts)) a.challenges) T.authorizations
