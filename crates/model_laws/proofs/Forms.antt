-- What is drawn has 16 bytes, and what the signing office hands in is a problem.
use Rattle.std.proofs.Common.{◌≡◌, ℕ, ◌+◌, List, [], ◌∷◌, length, true, arith}
use Rattle.std.proofs.lemmas.Bool.{eqb-true, and_parts}
use Rattle.std.specs.{Prelude.◌==◌, Prelude.IfSome, List.list_all}
use Rattle.desk_model.specs.{Authorization.authorizations, Authorization.challenges_from, Authorization.kinds_of, BaseName.is_base_name}
use Rattle.desk_model.specs.{Entry.History, Kept.EachOf, Legal.EachFollows, Legal.Follows, Legal.is_problem, Nonce.nonces, Order.failure}
use Rattle.desk_model.specs.{declared.entry.Dated.Dated, declared.objects.Authorization.Authorization, declared.status.Kind.Kind}
use Rattle.model_laws.proofs.{Basics.each-append, NewOrders.each_authorization, StatedFacts.first_holds}

-- ---- random bytes

-- each nonce has 16 random bytes
pub nonces_drawn : (F : History) → EachFollows F → EachOf (λ n. length n.random ≡ 16) (nonces F)
nonces_drawn [] h = tt
nonces_drawn (e ∷ F) h = grind (arith, each-append, (nonces_drawn F h.1))

-- each challenge of the authorization has a token of 16 bytes
abbrev pub HasTokens : Authorization → Type 0
HasTokens a = EachOf (λ c. length c.token ≡ 16) a.challenges

-- challenges that are made of tokens of 16 bytes
challenges_drawn : (number : ℕ) (kinds : List Kind) (tokens : List (List ℕ)) → list_all (λ token. length token == 16) tokens ≡ true →
    EachOf (λ c. length c.token ≡ 16) (challenges_from number kinds tokens)
challenges_drawn number [] tokens h = tt
challenges_drawn number (kind ∷ kinds) [] h = tt
challenges_drawn number (kind ∷ kinds) (token ∷ tokens) h =
    let p = and_parts (length token == 16) _ h in
    (eqb-true (length token) 16 p.0, challenges_drawn (number + 1) kinds tokens p.1)

-- each token has 16 bytes
pub tokens_drawn : (F : History) → EachFollows F → EachOf HasTokens (authorizations F)
tokens_drawn =
    each_authorization (λ F. HasTokens) (λ e F a p. p)
    (λ F account m ws h name tokens n c few is.
    let drawn = (and_parts (is_base_name name.base) _ is).1 in
    challenges_drawn c (kinds_of name) tokens (and_parts (length tokens == length (kinds_of name)) _ drawn).1)

-- ---- problems

-- what holds of each entry that may follow those before it
pub each_follows : (P : Dated → Type 0) → ((e : Dated) (before : History) → Follows e before → P e) → (F : History) → EachFollows F → EachOf P F
each_follows P f [] h = tt
each_follows P f (e ∷ F) h = (f e F h.0, each_follows P f F h.1)

-- an order that failed did so by a problem that the signing office may hand in
pub problem_formed : (n : ℕ) (F : History) → EachFollows F → IfSome (failure n F) (λ f. is_problem f.problem ≡ true)
problem_formed n F h = grind (arith, first_holds, each_follows)
