-- No date of a row is after the latest recorded moment.
use Rattle.std.proofs.Common.{◌≤◌, ℕ, ◌+◌, List, [], ◌∷◌, Option, arith}
use Rattle.std.specs.Prelude.{IfSome}
use Rattle.desk_model.specs.Authorization.{answer, authorizations, ends, in_time, made_for, reporting}
use Rattle.desk_model.specs.Tables.{account_row, authorization_row, challenge_row, order_row, tables_at}
use Rattle.desk_model.specs.{Account.accounts, Account.ends as account_ends, Entry.History, Kept.EachOf, Legal.EachFollows, Limits.last_moment}
use Rattle.desk_model.specs.{declared.entry.Entry.Entry, declared.entry.Wanted.Wanted, declared.objects.Authorization.Authorization}
use Rattle.desk_model.specs.{declared.objects.AuthorizationEnd.AuthorizationEnd, History.clock, Nonce.is_open, Nonce.nonces, Order.orders}
use Rattle.desk_model.specs.{declared.entry.Wanted.TheVariants.New, declared.entry.Wanted.TheVariants.Reused}
use Rattle.model_laws.specs.DateLaws.{AreDatedBy, IsChallengeDatedBy}
use Rattle.model_laws.proofs.Basics.{each, each_all, each-append, each-map}
use Rattle.model_laws.proofs.{Keeps.each-filter, OrderDates.order_dated, StatedFacts.first_dated}

-- ---- each fact has the date of its entry

-- how an account ended
account_end_dated : (n : ℕ) (e : Entry) (m : ℕ) → IfSome (account_ends n e m) (λ x. x.date ≤ m)
account_end_dated n e m = grind arith

-- the first one
answers_dated : (account n : ℕ) (F : History) → IfSome (answer account n F) (λ a. a.date ≤ clock F)
answers_dated account n [] = tt
answers_dated account n (e ∷ F) = grind (arith, (answers_dated account n F))

-- a report on a challenge
report_dated : (n : ℕ) (e : Entry) (m : ℕ) → IfSome (reporting n e m) (λ x. x.date ≤ m)
report_dated n e m = grind arith

-- how an authorization ended
authorization_end_dated : (a : Authorization) (e : Entry) (m : ℕ) → IfSome (ends a e m) (λ x. x.date ≤ m)
authorization_end_dated a e m = grind arith

-- an end that counts is an end
in_time_holds : (P : AuthorizationEnd → Type 0) (expires : ℕ) (o : Option AuthorizationEnd) → IfSome o P → IfSome (in_time expires o) P
in_time_holds P expires o h = grind arith

-- ---- what is made has the date of its entry

-- each nonce
nonces_issued : (F : History) → EachOf (λ n. n.issued ≤ clock F) (nonces F)
nonces_issued [] = tt
nonces_issued (e ∷ F) = grind (arith, each-append, each, (nonces_issued F))

-- each account
accounts_opened : (F : History) → EachOf (λ a. a.opened ≤ clock F) (accounts F)
accounts_opened [] = tt
accounts_opened (e ∷ F) = grind (arith, each-append, each, (accounts_opened F))

-- new authorizations of an order
made_for_dated : (account date expires : ℕ) (ws : List Wanted) (n c t : ℕ) → date ≤ t → EachOf (λ a. a.made ≤ t) (made_for account date expires ws n c)
made_for_dated account date expires [] n c t h = tt
made_for_dated account date expires (New name tokens ∷ ws) n c t h = (h, made_for_dated account date expires ws (n + 1) _ t h)
made_for_dated account date expires (Reused name k ∷ ws) n c t h = made_for_dated account date expires ws n c t h

-- each authorization
authorizations_made : (F : History) → EachOf (λ a. a.made ≤ clock F) (authorizations F)
authorizations_made [] = tt
authorizations_made (e ∷ F) = grind (arith, each-append, each, made_for_dated, (authorizations_made F))

-- each order
orders_made : (F : History) → EachOf (λ o. o.made ≤ clock F) (orders F)
orders_made [] = tt
orders_made (e ∷ F) = grind (arith, each-append, each, (orders_made F))

-- ---- rows

-- no date of a row is after the latest recorded moment
pub no_date_later : (F : History) (t : ℕ) → AreDatedBy (clock F) (tables_at F t)
no_date_later F t =
    record {
      nonces = each-filter _ (is_open F t) (nonces F) (nonces_issued F);
      accounts = each-map _ (account_row F) (accounts F)
          (each _ _ (accounts F) (λ a made. record {
            opened = made;
            ended = first_dated (λ x. x.date) _ (λ e. account_end_dated a.number e.entry e.date) F;
          }) (accounts_opened F));
      authorizations = each-map _ (authorization_row F t) (authorizations F)
          (each _ _ (authorizations F) (λ a made. record {
            made = made;
            ended = in_time_holds _ a.expires _ (first_dated (λ x. x.date) _ (λ e. authorization_end_dated a e.entry e.date) F);
            challenges = each-map (IsChallengeDatedBy (clock F)) (challenge_row F a.account) a.challenges
                (each_all _ a.challenges (λ c. record {
                  answered = answers_dated a.account c.number F;
                  reported = first_dated (λ x. x.date) _ (λ e. report_dated c.number e.entry e.date) F;
                }));
          }) (authorizations_made F));
      orders = each-map _ (order_row F t) (orders F) (each _ _ (orders F) (order_dated F t) (orders_made F));
    }

-- and that moment is not after the last of all
pub clock_in_time : (F : History) → EachFollows F → clock F ≤ last_moment
clock_in_time [] h = omega arith
clock_in_time (e ∷ F) h = grind arith
