-- The rows as they are needed are cut from the tables, and answer as the few rows in whole.
use Rattle.std.proofs.Common.{◌≡◌, ℕ, [], map, filter, refl, sym, ap, subst, ◌∙◌, true, false, Bool}
use Rattle.std.proofs.lemmas.Bool.{and_from, or_left, or_right}
use Rattle.std.specs.Prelude.{◌==◌, ◌&&◌, if◌then◌else◌}
use Rattle.desk_model.specs.Asked.{asks_authorizations, names_authorization, names_owner}
use Rattle.desk_model.specs.{Effect.is_overdue, Tables.Tables, Touched.is_named_account, Kept.EachOf, Kept.restricted, declared.call.Ask.Ask}
use Rattle.desk_model.specs.{declared.rows.AccountRow.AccountRow, declared.rows.AuthorizationRow.AuthorizationRow, declared.rows.ChallengeRow.ChallengeRow}
use Rattle.model_laws.specs.Ordered.{IsOrdered}
use Rattle.model_laws.proofs.{Basics.each, Basics.each_all, Basics.each_both, Basics.map-each, Local.filter_all}
use Rattle.model_parts.specs.AnswersAs.{AnswersAs}
use Rattle.model_parts.specs.MinimalPart.{as_needed, authorization_as_needed, minimal_rows, is_needed_authorization, is_needed_order, is_moved_authorization}
use Rattle.model_parts.specs.MinimalPart.{is_restated_authorization, is_whole_authorization, needed_rows, changes_statuses}
use Rattle.model_parts.specs.Thinned.{Thinning, thin, thinned, whole_if, with_challenges, with_orders}
use Rattle.model_parts.proofs.{Grown.kept_number, Grown.with_others, Lists.each_member, Trimming.AreWhole, Cut.at_number, Fewer.minimal_cut, Fewer.minimal_kept}
use Rattle.model_parts.proofs.{Grown.new_kept, Grown.same_kept, Lists.turned, Trimming.trimmed, Trimming.those, Cut.numbered, Thin.whole_orders}
use Rattle.model_parts.proofs.{Lists.filter_nothing, Lists.filtered_each, ListedAlone.needed_same, Thin.whole_authorizations, TrimmedVerdicts.IsNoList}
use Rattle.model_parts.proofs.{ListedAlone.needed_in_whole, ListedAlone.with_summaries, TrimmedVerdicts.KeepsWhole, TrimmedVerdicts.answers_trimmed}

-- the number of an authorization
abbrev number : AuthorizationRow → ℕ
number r = r.number

-- the authorizations that are needed with their challenges, by number, and new ones
abbrev needed_whole : Tables → ℕ → Ask → ℕ → Bool
needed_whole T m a = with_others number T.authorizations (at_number number (is_whole_authorization T m a) T.authorizations)

-- these rows, which lack other challenges, and of which other orders are summaries
abbrev pub needed : Tables → ℕ → Ask → Thinning
needed T m a = record { rows = minimal_kept T m a; challenges = those (needed_whole T m a); whole = needed_in_whole T m a }

-- the numbers of authorizations in whole are those of the ones that are needed so
whole_same : (T : Tables) (m : ℕ) (a : Ask) → IsOrdered T → EachOf (λ r. needed_whole T m a r.number ≡ is_whole_authorization T m a r) T.authorizations
whole_same T m a h =
    each _ _ T.authorizations (λ r e. e.0 ∙ e.1)
    (each_both _ _ T.authorizations (same_kept number T.authorizations (at_number number (is_whole_authorization T m a) T.authorizations))
    (numbered number (is_whole_authorization T m a) 1 T.authorizations h.authorizations.0))

-- ---- the cut

-- the rows as they are needed are cut from the tables
pub needed_cut : (T : Tables) (m : ℕ) (a : Ask) → IsOrdered T → needed_rows T m a ≡ thinned (needed T m a) T
needed_cut T m a h = start ∙ ap (thin (those (needed_whole T m a)) (needed_in_whole T m a)) (minimal_cut T m a h)
  where
    lacks : (r : AuthorizationRow) (b : Bool) → needed_whole T m a r.number ≡ b → is_whole_authorization T m a r ≡ b →
        authorization_as_needed T m a r ≡ with_challenges (those (needed_whole T m a)) r
    lacks r true is so =
        λ i. record r {
          challenges = (ap (λ b. if b then r.challenges else []) so
              ∙ sym (ap (λ b. filter (λ (c : ChallengeRow). b) r.challenges) is
              ∙ filter_all (λ (c : ChallengeRow). true) r.challenges (each_all _ r.challenges (λ c. refl)))) i;
        }
    lacks r false is so =
        λ i. record r {
          challenges = (ap (λ b. if b then r.challenges else []) so ∙ filter_nothing r.challenges
              ∙ sym (ap (λ b. filter (λ (c : ChallengeRow). b) r.challenges) is)) i;
        }

    start : needed_rows T m a ≡ thin (those (needed_whole T m a)) (needed_in_whole T m a) (minimal_rows T m a)
    start = λ i. record (minimal_rows T m a) {
      authorizations = map-each (authorization_as_needed T m a) (with_challenges (those (needed_whole T m a)))
          (filter (is_needed_authorization T m a) T.authorizations)
          (filtered_each _ (is_needed_authorization T m a) T.authorizations
          (each _ _ T.authorizations (λ r e few. lacks r (is_whole_authorization T m a r) e refl) (whole_same T m a h))) i;
      orders = map-each (as_needed T m a) (with_orders (needed_in_whole T m a)) (filter (is_needed_order T m a) T.orders)
          (filtered_each _ (is_needed_order T m a) T.orders
          (each _ _ T.orders (λ o e few i. whole_if (sym e i) o) (needed_same T m a h))) i;
    }

-- ---- what is in whole

module _ (T : Tables) (m : ℕ) (a : Ask) (h : IsOrdered T) where
  -- the few rows, with summaries of orders
  abbrev rows : Tables
  rows = thinned (with_summaries T m a) T

  -- what holds of each authorization holds of those that are kept
  kept_each : (P : AuthorizationRow → Type 0) → EachOf P T.authorizations → EachOf P rows.authorizations
  kept_each P each_one =
      subst (EachOf P) (sym (whole_authorizations (restricted (minimal_kept T m a) T).authorizations))
      (filtered_each P (λ (r : AuthorizationRow). (minimal_kept T m a).authorizations r.number) T.authorizations
      (each _ _ T.authorizations (λ r so kept. so) each_one))

  -- what passes a test is in whole, where it is needed so
  whole_each : (test : AuthorizationRow → Bool) → ((r : AuthorizationRow) → test r ≡ true → is_whole_authorization T m a r ≡ true) →
      AreWhole (needed_whole T m a) test T.authorizations
  whole_each test wide = each _ _ T.authorizations (λ r e so. e ∙ wide r so) (whole_same T m a h)

  -- an authorization that is named, or of an account that ends, is needed in whole
  moved_whole : (r : AuthorizationRow) → is_moved_authorization T a r ≡ true → is_whole_authorization T m a r ≡ true
  moved_whole r so = or_right (is_restated_authorization T m a r) _ (or_left _ _ so)

  -- so what the ask names, and what may end, is in whole
  kept_whole : KeepsWhole (needed_whole T m a) rows a
  kept_whole =
      record {
        authorization = kept_number number T.authorizations (at_number number (is_whole_authorization T m a) T.authorizations) (names_authorization a)
            (whole_each (λ r. names_authorization a r.number) (λ r so. moved_whole r (or_left _ _ (or_left _ _ so))));
        owner = kept_each _ (whole_each (names_owner a) (λ r so. moved_whole r (or_left _ _ (or_right (names_authorization a r.number) _ so))));
        own = filtered_each _ (λ (x : AccountRow). (minimal_kept T m a).accounts x.number) T.accounts
            (each _ _ T.accounts (λ x member kept named ends asks.
            kept_each _ (whole_each (λ r. x.number == r.account) (λ r own. moved_whole r (or_right _ _ (and_from (changes_statuses a) _ ends
            (and_from (asks_authorizations a) _ asks
            (member (λ y. is_named_account a y && (r.account == y.number)) (and_from _ _ named (turned x.number r.account own)))))))))
            (each_member T.accounts));
      }

  -- so they answer without the challenges of the others
  pub needed_answers : IsNoList a → AnswersAs m a T rows → AnswersAs m a T (thinned (needed T m a) T)
  needed_answers none answers =
      subst (AnswersAs m a T) same
      (answers_trimmed T rows m (needed_whole T m a) a none
      (new_kept number T.meta.counters.authorizations T.authorizations (at_number number (is_whole_authorization T m a) T.authorizations) h.authorizations.1)
      (kept_each _ (whole_each (is_overdue m) (λ r past. or_left _ _ (or_left _ _ past)))) kept_whole answers)
    where
      same : trimmed (needed_whole T m a) rows ≡ thinned (needed T m a) T
      same = λ i. record (thinned (needed T m a) T) {
        authorizations = map (with_challenges (those (needed_whole T m a))) (whole_authorizations (restricted (minimal_kept T m a) T).authorizations i);
        orders = whole_orders rows.orders i;
      }
