-- What is known of a new order that may follow, and of the authorizations that it makes.
use Rattle.std.proofs.Common.{◌≡◌, ◌≤◌, ◌<◌, ℕ, ◌+◌, List, [], ◌∷◌, length, map, true, Bool, arith}
use Rattle.std.proofs.lemmas.Bool.{and_parts}
use Rattle.std.specs.List.{list_all}
use Rattle.desk_model.specs.Account.{account_by_number, account_status, is_valid}
use Rattle.desk_model.specs.Authorization.{authorizations, challenges_from, count_challenges, kinds_of, made_by, made_for}
use Rattle.desk_model.specs.Legal.{EachFollows, all_different, is_wanted, may_follow, may_want, wanted_name}
use Rattle.desk_model.specs.{Entry.History, History.terms, Kept.EachOf, Lookup.holds, Name.Name, declared.entry.Dated.Dated, declared.entry.Entry.Entry}
use Rattle.desk_model.specs.{declared.entry.Entry.TheVariants.Ordered as ordered, declared.entry.Wanted.Wanted, declared.entry.Wanted.TheVariants.New}
use Rattle.desk_model.specs.{declared.entry.Wanted.TheVariants.Reused, declared.objects.Authorization.Authorization}
use Rattle.model_laws.specs.Reused.{OfReused}
use Rattle.model_laws.proofs.Basics.{each, each-append}

-- the tests that it passes
pub record MayBeOrdered (F : History) (m account : ℕ) (ws : List Wanted) : Type 0 where
  pub holder : holds (λ a. is_valid (account_status a F)) (account_by_number account F) ≡ true
  pub different : all_different (map wanted_name ws) ≡ true
  pub wanted : list_all is_wanted ws ≡ true
  pub reused : list_all (may_want F m account) ws ≡ true

-- a new order that may follow passes them
pub may_be_ordered : (F : History) (m account : ℕ) (ws : List Wanted) → may_follow F (ordered account ws) m ≡ true → MayBeOrdered F m account ws
may_be_ordered F m account ws may = grind arith

-- what follows for an authorization that is used again
pub of_reused : (P Q : ℕ → Type 0) → ((k : ℕ) → P k → Q k) → (w : Wanted) → OfReused P w → OfReused Q w
of_reused P Q f (New name tokens) h = tt
of_reused P Q f (Reused name k) h = f k h

-- what a test tells of those that are used again
pub reused_pass : (P : ℕ → Type 0) (test : Wanted → Bool) → ((name : Name) (k : ℕ) → test (Reused name k) ≡ true → P k) → (ws : List Wanted) →
    list_all test ws ≡ true → EachOf (OfReused P) ws
reused_pass P test f [] h = tt
reused_pass P test f (New name tokens ∷ ws) h = (tt, reused_pass P test f ws (and_parts (test (New name tokens)) _ h).1)
reused_pass P test f (Reused name k ∷ ws) h = let p = and_parts (test (Reused name k)) _ h in (f name k p.0, reused_pass P test f ws p.1)

-- the authorization that a new name gets
abbrev pub made_one : (account date expires : ℕ) → Name → List (List ℕ) → (number first_challenge : ℕ) → Authorization
made_one account date expires name tokens n c =
    record { number = n; account = account; name = name; made = date; expires = expires; challenges = challenges_from c (kinds_of name) tokens }

-- what holds of the one of each well-formed name holds of all that an order makes
pub each_made : (P : Authorization → Type 0) (account date expires : ℕ) (ws : List Wanted) (n c : ℕ) → list_all is_wanted ws ≡ true →
    ((name : Name) (tokens : List (List ℕ)) (k d : ℕ) → n ≤ k → c ≤ d → is_wanted (New name tokens) ≡ true →
    P (made_one account date expires name tokens k d)) →
    EachOf P (made_for account date expires ws n c)
each_made P account date expires [] n c h makes = tt
each_made P account date expires (New name tokens ∷ ws) n c h makes =
    let p = and_parts (is_wanted (New name tokens)) _ h in (
      makes name tokens n c (omega arith) (omega arith) p.0,
      each_made P account date expires ws (n + 1) _ p.1 (λ other more k d (le : n + 1 ≤ k)
          (few : c + length (challenges_from c (kinds_of name) tokens) ≤ d) is. makes other more k d (omega arith) (omega arith) is),
    )
each_made P account date expires (Reused name k ∷ ws) n c h makes =
    each_made P account date expires ws n c (and_parts (is_wanted (Reused name k)) _ h).1 makes

-- what holds of each authorization when it is made, and stays so, holds of all
pub each_authorization : (P : History → Authorization → Type 0) → ((e : Dated) (F : History) (a : Authorization) → P F a → P (e ∷ F) a) →
    ((F : History) (account m : ℕ) (ws : List Wanted) → EachFollows (record { date = m; entry = ordered account ws } ∷ F) →
    (name : Name) (tokens : List (List ℕ)) (n c : ℕ) → count_challenges (authorizations F) < c → is_wanted (New name tokens) ≡ true →
    P (record { date = m; entry = ordered account ws } ∷ F) (made_one account m (m + (terms F).authz_life) name tokens n c)) →
    (F : History) → EachFollows F → EachOf (P F) (authorizations F)
each_authorization P stays makes [] h = tt
each_authorization P stays makes (e ∷ F) h =
    each-append (P (e ∷ F)) (authorizations F) _ (each _ _ (authorizations F) (stays e F) (each_authorization P stays makes F h.1)) (more e.entry h)
  where
    more : (entry : Entry) → EachFollows (record { date = e.date; entry = entry } ∷ F) →
        EachOf (P (record { date = e.date; entry = entry } ∷ F))
        (made_by entry e.date (terms F).authz_life (length (authorizations F) + 1) (count_challenges (authorizations F) + 1))
    more (ordered account ws) h =
        each_made _ account e.date _ ws _ _ (may_be_ordered F e.date account ws h.0.allowed).wanted
        (λ name tokens n c low (few : count_challenges (authorizations F) + 1 ≤ c) is. makes F account e.date ws h name tokens n c (omega arith) is)
    more _ h = tt
