-- The rows of a history after a nonce was spent and one issued: what they were.
use Rattle.std.proofs.Common.{◌≡◌, ℕ, ◌+◌, List, [], ◌∷◌, ◌++◌, length, map, unwrap_or, refl, ap, ◌∙◌, append-nil, length-append}
use Rattle.desk_model.specs.Authorization.{authorizations, count_challenges, authorization_status, is_over, is_valid}
use Rattle.desk_model.specs.Order.{orders, and_found, authorizations_at, certificate, csr, failure, order_status_by}
use Rattle.desk_model.specs.Tables.{account_row, authorization_row, order_row, tables_at}
use Rattle.desk_model.specs.{Entry.History, Nonce.nonces, declared.objects.Order.Order, History.latest, History.record_all, Account.accounts, Account.changing}
use Rattle.desk_model.specs.{Account.rekeying, declared.entry.Entry.TheVariants.Issued as issued, declared.entry.Entry.TheVariants.Spent as spent}
use Rattle.std.specs.{Prelude.◌==◌, Prelude.◌||◌, Prelude.find, Prelude.is_some, Prelude.nat_lt, List.list_all, List.list_any}
use Rattle.model_laws.proofs.Basics.{none_earlier}
use Rattle.desk_core.specs.SameRows.{SameRows}

-- nothing added twice
twice_nil : {X : Type 0} (xs : List X) → (xs ++ []) ++ [] ≡ xs
twice_nil xs = append-nil (xs ++ []) ∙ append-nil xs

-- the authorizations of these numbers are the same, where all are
at_same : (F G : History) → authorizations G ≡ authorizations F → (ns : List ℕ) → authorizations_at ns G ≡ authorizations_at ns F
at_same F G same [] = refl
at_same F G same (n ∷ ns) = λ i. and_found (find (λ a. a.number == n) (same i)) (at_same F G same ns i)

-- a nonce spent and one issued leave each row but the nonces'
pub nonce_rows : (F : History) (m serial : ℕ) (r : List ℕ) → SameRows (tables_at (record_all m (spent serial ∷ issued r ∷ []) F) m) (tables_at F m)
nonce_rows F m serial r =
    record {
      accounts =
          λ i. map (λ a. record (account_row F a) {
            key = unwrap_or (none_earlier (none_earlier (latest (λ d. rekeying a.number d.entry) F) i) i) a.key;
            contacts = unwrap_or (none_earlier (none_earlier (latest (λ d. changing a.number d.entry) F) i) i) a.contacts;
          }) (twice_nil (accounts F) i);
      authorizations = ap (map (authorization_row F m)) (twice_nil (authorizations F));
      orders =
          λ i. map (λ o. record (order_row F m o) {
            status = order_status_by (is_some (certificate o.number F))
                (is_some (failure o.number F) || (nat_lt o.expires m || list_any (λ a. is_over (authorization_status a F m)) (listed o i)))
                (is_some (csr o.number F)) (list_all (λ a. is_valid (authorization_status a F m)) (listed o i));
          }) (twice_nil (orders F) i);
      policy = refl;
      clock = refl;
      last_accounts = ap length (twice_nil (accounts F));
      last_orders = ap length (twice_nil (orders F));
      last_authorizations = ap length (twice_nil (authorizations F));
      last_challenges = ap count_challenges (twice_nil (authorizations F));
    }
  where
    listed : (o : Order) → authorizations_at o.authorizations (record_all m (spent serial ∷ issued r ∷ []) F) ≡ authorizations_at o.authorizations F
    listed o = at_same F (record_all m (spent serial ∷ issued r ∷ []) F) (twice_nil (authorizations F)) o.authorizations

-- and one nonce more is counted
pub nonces_more : (F : History) (m serial : ℕ) (r : List ℕ) → length (nonces (record_all m (spent serial ∷ issued r ∷ []) F)) ≡ length (nonces F) + 1
nonces_more F m serial r = length-append (nonces F ++ []) _ ∙ ap (λ l. length l + 1) (append-nil (nonces F))
