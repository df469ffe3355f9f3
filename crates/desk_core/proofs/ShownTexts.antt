-- The moments of rows that are found have texts.
use Rattle.std.proofs.Common.{◌≡◌, ℕ, ◌≤◌, List, Option, IfSome, ◌∙◌, ap, subst, sym, rules}
use Rattle.std.specs.{Prelude.◌==◌, Prelude.find, Prelude.is_some, Prelude.Bool, Option.option_map}
use Rattle.model_laws.proofs.Finds.{each_found}
use Rattle.desk_model.specs.{Kept.EachOf, Limits.last_end, Effect.has_row, Shown.shown, Tables.Tables, declared.reply.Reply.Reply}
use Rattle.desk_model.specs.Questions.{authorization_on, order_on, owner_on}
use Rattle.core_replies.specs.Shown.{HasMoments}
use Rattle.desk_core.specs.HasTexts.{HasTexts}

-- what holds of each item holds of the one that is found
found_has : {X : Type 0} (P : X → Type 0) (test : X → Bool) (xs : List X) → EachOf P xs → IfSome (find test xs) P
found_has {X} P test xs h = search (rules, each_found)

-- so the order that is found ends at a moment with a text
pub order_ends : (T : Tables) (n : ℕ) → HasTexts T → IfSome (order_on T n) (λ o. o.expires ≤ last_end)
order_ends T n texts = found_has (λ o. o.expires ≤ last_end) (λ o. o.number == n) T.orders texts.orders

-- and the authorization that is found has such moments
pub authorization_moments : (T : Tables) (n : ℕ) → HasTexts T → IfSome (authorization_on T n) HasMoments
authorization_moments T n texts = found_has HasMoments (λ a. a.number == n) T.authorizations texts.authorizations

-- and the one that a challenge is of
pub owner_moments : (T : Tables) (n : ℕ) → HasTexts T → IfSome (owner_on T n) HasMoments
owner_moments T n texts = found_has HasMoments (has_row n) T.authorizations texts.authorizations

-- what is shown of one that is found is shown of what was looked for
pub shown_found : {X : Type 0} (f : X → Reply) (P : X → Type 0) (found on : Option X) (r : Reply) → found ≡ on → IfSome on P
    → (IfSome found P → r ≡ shown f found) → r ≡ shown f on
shown_found f P found on r is h said = said (subst (λ o. IfSome o P) (sym is) h) ∙ ap (shown f) is

-- a copy is there where the value is
pub mapped_some : {X Y : Type 0} (f : X → Y) (o : Option X) → is_some (option_map f o) ≡ is_some o
mapped_some f o = search rules
