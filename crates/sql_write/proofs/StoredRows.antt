-- What is known to stand in the tables, behind changes.
use Rattle.std.specs.{Bool.then_some, Option.option_or, Prelude.find, Prelude.cond, Prelude.option_copied, Prelude.IfSome, Prelude.◌==◌}
use Rattle.std.proofs.Common.{◌≡◌, ◌≢◌, inl, inr, ℕ, ◌+◌, ◌<◌, ◌≤◌, ◌++◌, List, [], ◌∷◌, Option, Some, None, Bool, true, false, Bor, refl, sym, ap, subst, ◌∙◌}
use Rattle.std.proofs.Common.{arith, add-one, get_or, length, take, rules}
use Rattle.std.proofs.{Math.Seq.take-suc, lemmas.Bool.eqb-true, lemmas.Bool.ne_eqb}
use Rattle.sqlite_rules.specs.Lists.{Has}
use Rattle.model_laws.proofs.{RowLists.put_before, RowLists.put_instead, RowLists.put_past, Basics.each, Basics.each-append, Recorded.applied-append}
use Rattle.desk_model.specs.declared.rows.Change.TheVariants.{PutMeta, PutNonce, RemoveNonce, PutAccount, PutAuthorization, PutOrder}
use Rattle.desk_model.specs.{Change.applied, Change.applied_one, Change.put, Kept.EachOf, Tables.Tables, Questions.account_on, Questions.authorization_on}
use Rattle.desk_model.specs.{Questions.order_on, declared.rows.AccountRow.AccountRow, declared.rows.AuthorizationRow.AuthorizationRow}
use Rattle.desk_model.specs.{declared.rows.ChallengeRow.ChallengeRow, declared.rows.Change.Change, declared.rows.OrderRow.OrderRow}
use Rattle.sql_write.specs.Stored.{HasSome, IsRow, IsMadeAs, AreFound, IsPartOf}
use Rattle.sql_write.specs.{Highest.IsAbove, Highest.PutsNone, declared.stored.Highest.Highest}
use Rattle.sql_tables.proofs.Keyed.{ranked}

-- ---- look-ups

module _ {X : Type 0} (key : X → ℕ) where
  -- the row of this number
  abbrev at : ℕ → List X → Option X
  at n rows = find (λ r. key r == n) rows

  -- one of two rows is found, if any, since they have not one number
  apart : (n : ℕ) (x y : X) → key y ≢ key x → (o : Option X)
      → cond (key y == n) (Some y) (cond (key x == n) (Some x) o) ≡ cond (key x == n) (Some x) (cond (key y == n) (Some y) o)
  apart n x y differ o = go (key x == n) refl
    where
      go : (b : Bool) → (key x == n) ≡ b → cond (key y == n) (Some y) (cond b (Some x) o) ≡ cond b (Some x) (cond (key y == n) (Some y) o)
      go true e =
          let other : (key y == n) ≡ false = ne_eqb (key y) n (λ same. differ (same ∙ sym (eqb-true (key x) n e))) in
          ap (λ c. cond c (Some y) (Some x)) other
      go false e = refl

  -- a row that was put is found by its number, and the others as before
  pub find_put : (n : ℕ) (x : X) (rows : List X) → at n (put key x rows) ≡ cond (key x == n) (Some x) (at n rows)
  find_put n x [] = refl
  find_put n x (y ∷ ys) = elim (ranked (key y) (key x)) [
    | inl less ↦
        ap (at n) (put_past key x y ys less.low)
        ∙ ap (cond (key y == n) (Some y)) (find_put n x ys)
        ∙ apart n x y (λ e. omega (arith, e, less.low)) (at n ys)
    | inr (inl tied) ↦ ap (at n) (put_instead key x y ys tied.same) ∙ instead tied.same (key x == n) refl
    | inr (inr more) ↦ ap (at n) (put_before key x y ys more.high)
  ]
    where
      instead : key y ≡ key x → (b : Bool) → (key x == n) ≡ b → cond b (Some x) (at n ys) ≡ cond b (Some x) (cond (key y == n) (Some y) (at n ys))
      instead same true e = refl
      instead same false e = sym (ap (λ c. cond c (Some y) (at n ys)) (ap (λ k. k == n) same ∙ e))

  -- what is found by a number is a row, and has it
  pub found_has : (n : ℕ) (rows : List X) (x : X) → at n rows ≡ Some x → Has rows x × (key x ≡ n)
  found_has n [] x is = absurd (cc is)
  found_has n (z ∷ zs) x is = go (key z == n) refl (λ found. found_has n zs x found)
    where
      go : (b : Bool) → (key z == n) ≡ b → (at n zs ≡ Some x → Has zs x × (key x ≡ n)) → Has (z ∷ zs) x × (key x ≡ n)
      go true e rest =
          let here : Some z ≡ Some x = sym (ap (λ b. cond b (Some z) (at n zs)) e) ∙ is in
          let same : z ≡ x = cc here in
          (inl (sym same), ap key (sym same) ∙ eqb-true (key z) n e)
      go false e rest =
          let it = rest (sym (ap (λ b. cond b (Some z) (at n zs)) e) ∙ is) in
          (inr it.0, it.1)

  -- ---- rows of a part

  -- the row that was put, or what was found
  abbrev put_or : X → Option X → Bool → Option X
  put_or x o b = cond b (Some x) o

  -- with one more in both
  pub found_put : (IsOf : X → X → Type 0) → ((x : X) → IsOf x x) → (x : X) (part rows : List X) → AreFound key IsOf part rows
      → AreFound key IsOf (put key x part) (put key x rows)
  found_put IsOf same x part rows stand n =
      subst (λ o. IfSome o (λ z. (y : X) × (at n (put key x rows) ≡ Some y) × IsOf z y)) (sym (find_put n x part))
      (subst (λ o. IfSome (put_or x (at n part) (key x == n)) (λ z. (y : X) × (o ≡ Some y) × IsOf z y)) (sym (find_put n x rows))
      (go (key x == n) (at n part) (stand n)))
    where
      go : (b : Bool) (o : Option X) → IfSome o (λ z. (y : X) × (at n rows ≡ Some y) × IsOf z y)
          → IfSome (put_or x o b) (λ z. (y : X) × (put_or x (at n rows) b ≡ Some y) × IsOf z y)
      go true o h = (x, refl, same x)
      go false o h = h

-- ---- behind changes

-- a row has all of its challenges
pub all_of : (x : AuthorizationRow) → HasSome x x
all_of x = record { columns = refl; challenges = own x.challenges (λ c h. h) }
  where
    own : (cs : List ChallengeRow) → ((c : ChallengeRow) → Has cs c → Has x.challenges c) → EachOf (λ c. Has x.challenges c) cs
    own [] h = tt
    own (c ∷ cs) h = (h c (inl refl), own cs (λ d k. h d (inr k)))

-- each table of a part stands in that of the tables
all_found : (part T : Tables) → part.meta ≡ T.meta → AreFound (λ (a : AccountRow). a.number) IsRow part.accounts T.accounts
    → AreFound (λ (a : AuthorizationRow). a.number) HasSome part.authorizations T.authorizations
    → AreFound (λ (o : OrderRow). o.number) IsMadeAs part.orders T.orders → IsPartOf part T
all_found part T meta accounts authorizations orders = search rules

-- behind one
part_on : (c : Change) (part T : Tables) → IsPartOf part T → IsPartOf (applied_one c part) (applied_one c T)
part_on (PutMeta x) part T h = all_found _ _ refl h.accounts h.authorizations h.orders
part_on (PutNonce x) part T h = all_found _ _ h.meta h.accounts h.authorizations h.orders
part_on (RemoveNonce n) part T h = all_found _ _ h.meta h.accounts h.authorizations h.orders
part_on (PutAccount x) part T h =
    all_found _ _ h.meta (found_put (λ (a : AccountRow). a.number) IsRow (λ a. refl) x part.accounts T.accounts h.accounts) h.authorizations h.orders
part_on (PutAuthorization x) part T h =
    all_found _ _ h.meta h.accounts
    (found_put (λ (a : AuthorizationRow). a.number) HasSome all_of x part.authorizations T.authorizations h.authorizations) h.orders
part_on (PutOrder x) part T h =
    all_found _ _ h.meta h.accounts h.authorizations (found_put (λ (o : OrderRow). o.number) IsMadeAs (λ o. refl) x part.orders T.orders h.orders)

-- behind all
pub part_after : (cs : List Change) (part T : Tables) → IsPartOf part T → IsPartOf (applied cs part) (applied cs T)
part_after [] part T h = h
part_after (c ∷ cs) part T h = part_after cs (applied_one c part) (applied_one c T) (part_on c part T h)

-- ---- what is found of it is of a row of the tables

-- an account is there
pub account_found : (part : Tables) (n : ℕ) (T : Tables) → IsPartOf part T → IfSome (account_on part n) (λ a. Has T.accounts a × (a.number ≡ n))
account_found part n T h = go (account_on part n) (h.accounts n)
  where
    go : (o : Option AccountRow) → IfSome o (λ a. (b : AccountRow) × (account_on T n ≡ Some b) × (a ≡ b))
        → IfSome o (λ a. Has T.accounts a × (a.number ≡ n))
    go None k = tt
    go (Some a) k = found_has (λ (r : AccountRow). r.number) n T.accounts a (k.1 ∙ ap (λ r. Some r) (sym k.2))

-- ---- the last that was put

-- one more change
pub take_more : (cs : List Change) (i : ℕ) (c : Change) → i < length cs → c ≡ get_or cs i c → take (i + 1) cs ≡ take i cs ++ c ∷ []
take_more cs i c low is = ap (λ k. take k cs) (add-one i) ∙ take-suc cs i c low ∙ ap (λ x. take i cs ++ x ∷ []) (sym is)

-- behind it
pub applied_more : (cs : List Change) (i : ℕ) (c : Change) (T : Tables) → i < length cs → c ≡ get_or cs i c
    → applied (take (i + 1) cs) T ≡ applied_one c (applied (take i cs) T)
applied_more cs i c T low is = grind (arith, applied-append, (take_more cs i c low is))

-- what is found is this, or else that
pub copied_or : {X : Type 0} (a b : Option (Bor X)) → option_copied (option_or a b) ≡ option_or (option_copied a) (option_copied b)
copied_or a b = search rules

-- what a change puts is lent where it has the number, and is found before what was found
pub put_lent : {X : Type 0} (key : X → ℕ) (n : ℕ) (x : Bor X) (rows : List X) (lent : Option (Bor X)) → lent ≡ then_some (key x.now == n) x
    → find (λ r. key r == n) (put key x.now rows) ≡ option_or (option_copied lent) (find (λ r. key r == n) rows)
put_lent key n x rows lent is = find_put key n x.now rows ∙ grind arith

-- what each of some changes leaves, all of them leave
pub left_by_all : {X : Type 0} (on : Tables → ℕ → Option X) (n : ℕ) (cs : List Change) (T : Tables)
    → EachOf (λ c. (T : Tables) → on (applied_one c T) n ≡ on T n) cs → on (applied cs T) n ≡ on T n
left_by_all on n [] T all = refl
left_by_all on n (c ∷ cs) T all = left_by_all on n cs (applied_one c T) all.1 ∙ all.0 T

-- a higher number does, too
pub none_higher : {X : Type 0} (on : Tables → ℕ → Option X) (a b : ℕ) (cs : List Change) → a ≤ b → EachOf (PutsNone on a) cs → EachOf (PutsNone on b) cs
none_higher on a b cs low all = each _ _ cs (λ c none T n high. none T n (omega (arith, low, high))) all

-- above higher numbers no change puts a row, where one more puts none
pub above_more : (old new : Highest) (cs : List Change) (c : Change) → old.accounts ≤ new.accounts → old.authorizations ≤ new.authorizations
    → old.orders ≤ new.orders → PutsNone account_on new.accounts c → PutsNone authorization_on new.authorizations c → PutsNone order_on new.orders c
    → IsAbove old cs → IsAbove new (cs ++ c ∷ [])
above_more old new cs c accounts authorizations orders a b o all = search (rules, each-append, none_higher)

-- a row that is put is not above its number
pub put_below : {X : Type 0} (key : X → ℕ) (x : X) (highest : ℕ) → key x ≤ highest → (rows : List X) (n : ℕ) → highest < n
    → find (λ r. key r == n) (put key x rows) ≡ find (λ r. key r == n) rows
put_below key x highest low rows n high =
    let other : (key x == n) ≡ false = ne_eqb (key x) n (λ same. omega (arith, same, low, high)) in
    find_put key n x rows ∙ ap (λ b. cond b (Some x) (find (λ r. key r == n) rows)) other
