-- How many authorizations and tokens a new order asks for.
use Rattle.std.proofs.Common.{◌≡◌, ℕ, zero, suc, ◌+◌, ◌*◌, ◌<◌, ◌≤◌, List, [], ◌∷◌, ◌++◌, length, take, drop, get_or, map, Option, refl, arith, sym, ap, ◌∙◌}
use Rattle.std.proofs.Common.{rules}
use Rattle.std.proofs.{lemmas.List.at_drop_more, lemmas.List.drop-drop, lemmas.List.Sums.sum_by-cons}
use Rattle.std.specs.Prelude.{sum_by}
use Rattle.desk_model.specs.{Name.Name, Tables.Tables, Rules.pieces, Rules.wanted, Run.count_new, Run.count_tokens}
use Rattle.core_rules.specs.Making.{drawn_by, drawn_for, gets, leaves, made_by, made_for, served_name, wanted_for}
use Rattle.core_rules.specs.declared.new_orders.ServedName.{ServedName}

-- at most two tokens are drawn for a name
pub drawn-le : (s : ServedName) → drawn_for s ≤ 2
drawn-le s = search rules

-- and no more than two authorizations are made
pub made-le : (s : ServedName) → made_for s ≤ 2
made-le s = search rules

-- what is counted for each name, at most twice, is at most twice their number
count-le : (w : ServedName → ℕ) (ss : List ServedName) → ((s : ServedName) → w s ≤ 2) → sum_by w ss ≤ 2 * length ss
count-le w [] small = omega arith
count-le w (s ∷ ss) small = omega (arith, sum_by-cons w s ss, small s, count-le w ss small)

-- what is left begins with that of the next name
count-next : (w : ServedName → ℕ) (ss : List ServedName) (i : ℕ) (s : ServedName) → i < length ss → s ≡ get_or ss i s →
    sum_by w (drop i ss) ≡ w s + sum_by w (drop (i + 1) ss)
count-next w ss i s more is =
    at_drop_more (sum_by w) ss i s more
    ∙ sum_by-cons w (get_or ss i s) (drop (i + 1) ss)
    ∙ ap (λ (t : ServedName). w t + sum_by w (drop (i + 1) ss)) (sym is)

-- what was counted and that of the next name is twice the number of names at most
pub count-fits : (w : ServedName → ℕ) (ss : List ServedName) (i : ℕ) (s : ServedName) (count : ℕ) → ((s : ServedName) → w s ≤ 2) →
    i < length ss → s ≡ get_or ss i s → count + sum_by w (drop i ss) ≡ sum_by w ss → count + w s ≤ 2 * length ss
count-fits w ss i s count small more is counted = omega (arith, count-next w ss i s more is, count-le w ss small, counted)

-- the names of an order of the account, each with what serves it, get what the rules give them
pub wanted-served : (T : Tables) (account : ℕ) (ns : List Name) (random : List ℕ) →
    wanted_for (map (served_name T account) ns) random ≡ wanted T account ns random
wanted-served T account [] random = refl
wanted-served T account (n ∷ ns) random = grind (arith, (wanted-served T account ns))

-- a token for each challenge that is made
tokens-wanted : (ss : List ServedName) (random : List ℕ) → count_tokens (wanted_for ss random) ≡ sum_by drawn_for ss
tokens-wanted [] random = refl
tokens-wanted (s ∷ ss) random = by s.authorization (λ rest. tokens-wanted ss rest) ∙ sym (sum_by-cons drawn_for s ss)
  where
    by : (o : Option ℕ) → ((rest : List ℕ) → count_tokens (wanted_for ss rest) ≡ sum_by drawn_for ss) →
        count_tokens (gets o s.name random ∷ wanted_for ss (leaves o s.name random)) ≡ drawn_by o s.name + sum_by drawn_for ss
    by o h = grind arith

pub count_tokens-wanted : (T : Tables) (account : ℕ) (ns : List Name) (random : List ℕ) →
    count_tokens (wanted T account ns random) ≡ sum_by drawn_for (map (served_name T account) ns)
count_tokens-wanted T account ns random = search (rules, wanted-served, tokens-wanted)

-- an authorization for each name that none serves
new-wanted : (ss : List ServedName) (random : List ℕ) → count_new (wanted_for ss random) ≡ sum_by made_for ss
new-wanted [] random = refl
new-wanted (s ∷ ss) random = by s.authorization (λ rest. new-wanted ss rest) ∙ sym (sum_by-cons made_for s ss)
  where
    by : (o : Option ℕ) → ((rest : List ℕ) → count_new (wanted_for ss rest) ≡ sum_by made_for ss) →
        count_new (gets o s.name random ∷ wanted_for ss (leaves o s.name random)) ≡ made_by o + sum_by made_for ss
    by o h = grind arith

pub count_new-wanted : (T : Tables) (account : ℕ) (ns : List Name) (random : List ℕ) →
    count_new (wanted T account ns random) ≡ sum_by made_for (map (served_name T account) ns)
count_new-wanted T account ns random = search (rules, wanted-served, new-wanted)

-- the first pieces, and one more
pub pieces-last : (k : ℕ) (random : List ℕ) → pieces (suc k) random ≡ pieces k random ++ take 16 (drop (16 * k) random) ∷ []
pieces-last zero random = refl
pieces-last (suc k) random =
    ap (λ (ps : List (List ℕ)). take 16 random ∷ ps)
    (pieces-last k (drop 16 random)
    ∙ ap (λ r. pieces k (drop 16 random) ++ take 16 r ∷ []) (drop-drop (16 * k) 16 random ∙ ap (λ n. drop n random) behind))
  where
    behind : 16 + 16 * k ≡ 16 * suc k
    behind = omega arith
