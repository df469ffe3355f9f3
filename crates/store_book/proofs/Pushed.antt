-- Faults pushed row by row.
use Rattle.std.proofs.Common.{◌≡◌, List, [], ◌++◌, ap, ◌∙◌, append_assoc, rules}
use Rattle.std.specs.List.{flat_map}
use Rattle.desk_model.specs.Derived.{account_faults, authorization_faults, challenge_faults, order_faults, sorted_challenges, status_faults}
use Rattle.desk_model.specs.{Tables.Tables, Tables.picture, Entry.History, History.clock, Legal.Legal, declared.rows.StatusFault.StatusFault}
use Rattle.model_laws.proofs.Faults.{no_faults}
use Rattle.store_book.specs.FaultNumbers.{challenges_of}

-- the picture of a legal history has no fault
pub picture-no_faults : (B : Tables) (F : History) → Legal F → B ≡ picture F → status_faults B ≡ []
picture-no_faults B F legal e = ap status_faults e ∙ no_faults F (clock F) legal.each

-- the faults of each table, one after the other
pub all_faults : (T : Tables) (before accounts orders authorizations now : List StatusFault) → accounts ≡ before ++ flat_map account_faults T.accounts →
    orders ≡ accounts ++ flat_map (order_faults T.meta.counters.clock T.authorizations) T.orders →
    authorizations ≡ orders ++ flat_map (authorization_faults T.meta.counters.clock) T.authorizations →
    now ≡ authorizations ++ flat_map challenge_faults (sorted_challenges (challenges_of T.authorizations)) → now ≡ before ++ status_faults T
all_faults T before accounts orders authorizations now of_accounts of_orders of_authorizations of_challenges = search (rules, append_assoc)
