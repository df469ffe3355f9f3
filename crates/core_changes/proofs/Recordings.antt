-- What is recorded, entry by entry.
use Rattle.std.proofs.Common.{◌≡◌, ℕ, ◌+◌, List, [], ◌∷◌, ◌++◌, length, None, Some, Result, OnOk, refl, sym, ap, ◌∙◌, append-nil, append_assoc, arith, rules}
use Rattle.std.proofs.{lemmas.List.length-append, lemmas.Bool.Decides.nat_tests}
use Rattle.std.specs.Prelude.{slice_get}
use Rattle.desk_model.specs.Change.{changes, all_changes}
use Rattle.desk_model.specs.declared.rows.Change.TheVariants.{PutNonce, RemoveNonce, PutAccount, PutOrder}
use Rattle.desk_model.specs.{Tables.Tables, Effect.effect, Effect.effects, Effect.swept, declared.objects.Nonce.Nonce}
use Rattle.desk_model.specs.{declared.rows.AccountRow.AccountRow, declared.rows.OrderRow.OrderRow, declared.rows.Change.Change, declared.rows.Counters.Counters}
use Rattle.desk_model.specs.declared.entry.Entry.{Entry, TheVariants.Issued as issued, TheVariants.Spent as spent, TheVariants.Opened as opened}
use Rattle.desk_model.specs.declared.status.AccountStatus.TheVariants as account
use Rattle.core_changes.specs.Recorded.{IsRecorded, last_account, last_change, last_order}
use Rattle.core_changes.proofs.QuietEntries.{spent_counters, spent_changes, issued_counters, issued_changes, opened_counters, opened_changes}

-- the changes of one more entry come last
all_changes-last : (m : ℕ) (T : Tables) (es : List Entry) (e : Entry) → all_changes m T (es ++ e ∷ []) ≡ all_changes m T es ++ changes m (effects m T es) e
all_changes-last m T [] e = append-nil (changes m T e)
all_changes-last m T (d ∷ es) e = grind (arith, append_assoc, (all_changes-last m (effect m T d) es e))

-- one more entry takes effect last
effects-last : (m : ℕ) (T : Tables) (es : List Entry) (e : Entry) → effects m T (es ++ e ∷ []) ≡ effect m (effects m T es) e
effects-last m T [] e = refl
effects-last m T (d ∷ es) e = effects-last m (effect m T d) es e

-- entries at a moment leave the clock at it
clocked : (m : ℕ) (T : Tables) (es : List Entry) → T.meta.counters.clock ≡ m → (effects m T es).meta.counters.clock ≡ m
clocked m T [] h = h
clocked m T (e ∷ es) h = clocked m (effect m T e) es refl

-- one more entry is recorded, which leaves the policy
pub one_more : (m : ℕ) (B : Tables) (es : List Entry) (e : Entry) (done more : List Change) (counters after : Counters) → IsRecorded m B es done counters →
    more ≡ changes m (effects m (swept m B) es) e → after ≡ (effect m (effects m (swept m B) es) e).meta.counters →
    (effect m (effects m (swept m B) es) e).meta.policy ≡ (effects m (swept m B) es).meta.policy → IsRecorded m B (es ++ e ∷ []) (done ++ more) after
one_more m B es e done more counters after h c r p = search (rules, append_assoc, all_changes-last, effects-last)

-- the clock of what is recorded
pub clock_is : (m : ℕ) (B : Tables) (es : List Entry) (done : List Change) (counters : Counters) → IsRecorded m B es done counters → counters.clock ≡ m
clock_is m B es done counters h = ap (λ (x : Counters). x.clock) h.counted ∙ clocked m (swept m B) es refl

-- counters whose clock is at the moment
pub same_clock : (m : ℕ) (x : Counters) → x.clock ≡ m → record x { clock = m } ≡ x
same_clock m x e = λ i. record x { clock = sym e i }

-- the counters of what is recorded, in terms of the tables
pub counters_then : (m : ℕ) (B : Tables) (es : List Entry) (done : List Change) (counters : Counters) → IsRecorded m B es done counters →
    counters ≡ record (effects m (swept m B) es).meta.counters { clock = m }
counters_then m B es done counters h = sym (same_clock m counters (clock_is m B es done counters h)) ∙ ap (λ (x : Counters). record x { clock = m }) h.counted

-- a nonce is spent
pub and_spent : (m : ℕ) (B : Tables) (es : List Entry) (n : ℕ) (done : List Change) (counters : Counters) → IsRecorded m B es done counters →
    IsRecorded m B (es ++ spent n ∷ []) (done ++ RemoveNonce n ∷ []) counters
and_spent m B es n done counters h =
    let T : Tables = effects m (swept m B) es in
    one_more m B es (spent n) done (RemoveNonce n ∷ []) counters counters h (sym (spent_changes m T n))
    (counters_then m B es done counters h ∙ sym (spent_counters m T n)) refl

-- a nonce is issued
pub and_issued : (m : ℕ) (B : Tables) (es : List Entry) (r : List ℕ) (done : List Change) (counters : Counters) → IsRecorded m B es done counters →
    (let fresh : Nonce = record { serial = counters.nonces + 1; random = r; issued = counters.clock } in
    IsRecorded m B (es ++ issued r ∷ []) (done ++ PutNonce fresh ∷ []) (record counters { nonces = counters.nonces + 1 }))
and_issued m B es r done counters h =
    let T : Tables = effects m (swept m B) es in
    one_more m B es (issued r) done _ counters _ h
    ((λ i. PutNonce (record { serial = (h.counted i).nonces + 1; random = r; issued = clock_is m B es done counters h i }) ∷ []) ∙ sym (issued_changes m T r))
    (ap (λ (x : Counters). record x { nonces = x.nonces + 1 }) (counters_then m B es done counters h) ∙ sym (issued_counters m T r)) refl

-- an account is opened
pub and_opened : (m : ℕ) (B : Tables) (es : List Entry) (key : List ℕ) (contacts : List (List ℕ)) (done : List Change) (counters : Counters)
    → IsRecorded m B es done counters →
    (let fresh : AccountRow = record {
      number = counters.accounts + 1;
      key = key;
      contacts = contacts;
      opened = counters.clock;
      ended = None;
      status = account.Valid;
    } in
    IsRecorded m B (es ++ opened key contacts ∷ []) (done ++ PutAccount fresh ∷ []) (record counters { accounts = counters.accounts + 1 }))
and_opened m B es key contacts done counters h =
    let T : Tables = effects m (swept m B) es in
    one_more m B es (opened key contacts) done _ counters _ h
    ((λ i. PutAccount (record {
      number = (h.counted i).accounts + 1;
      key = key;
      contacts = contacts;
      opened = clock_is m B es done counters h i;
      ended = None;
      status = account.Valid;
    }) ∷ [])
    ∙ sym (opened_changes m T key contacts))
    (ap (λ (x : Counters). record x { accounts = x.accounts + 1 }) (counters_then m B es done counters h) ∙ sym (opened_counters m T key contacts)) refl

-- the same recording, by equal changes and equal counters
pub recorded_as : (m : ℕ) (B : Tables) (es : List Entry) (done other : List Change) (counters others : Counters) → other ≡ done
    → others ≡ counters → IsRecorded m B es done counters → IsRecorded m B es other others
recorded_as m B es done other counters others c r h = record { changes = c ∙ h.changes; counted = r ∙ h.counted; policy = h.policy }

-- what two clauses give on the way that went well
pub both_ok : {T E : Type 0} {P Q S : Type 0} (r : Result T E) → OnOk r P → OnOk r Q → (P → Q → S) → OnOk r S
both_ok r h k l = search rules

-- ---- the row that the last change puts

-- the last change is found in its place
slice_get-end : (done : List Change) (c : Change) → slice_get (done ++ c ∷ []) (length done) ≡ Some c
slice_get-end [] c = refl
slice_get-end (d ∷ done) c = slice_get-end done c

-- what was pushed is the last change
last-pushed : (done : List Change) (c : Change) → last_change (done ++ c ∷ []) ≡ Some c
last-pushed done c = grind (arith, nat_tests, length-append, slice_get-end, (slice_get-end done c))

-- so an account or an order that was put is found there
pub last_account-pushed : (done all : List Change) (row : AccountRow) → all ≡ done ++ PutAccount row ∷ [] → last_account all ≡ Some row
last_account-pushed done all row pushed = search (rules, last-pushed)

-- the order that was put last
pub last_order-pushed : (done all : List Change) (row : OrderRow) → all ≡ done ++ PutOrder row ∷ [] → last_order all ≡ Some row
last_order-pushed done all row pushed = search (rules, last-pushed)
