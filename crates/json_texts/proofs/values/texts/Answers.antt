use Rattle.std.proofs.Common.{Some, List, [], ◌∷◌, ◌++◌, ℕ, sym, ap, ◌∙◌, arith}
use Rattle.std.specs.Prelude.{option_map}
use Rattle.serde_json.specs.Find.{as_str}
use Rattle.json_texts.proofs.EachIn.{each_in-none, each_in-last}
use Rattle.json_texts.proofs.values.texts.Goals as goal

pub returns-in_default : goal.returns-in_default
returns-in_default c =
    sym (each_in-none as_str c.args.items.now c.loop-item.item-index c.item-item.result (omega arith) c.item-item.is
    (sym c.as_str.ensures ∙ ap (option_map (λ s. s.now)) c.in_default.is))

pub loop-item-preserved : goal.loop-item-preserved
loop-item-preserved c =
    each_in-last as_str c.args.items.now c.loop-item.item-index c.item-item.result c.loop-item.found.items c.in-Some.text.now (omega arith) c.item-item.is
    c.loop-item.invariant (sym c.as_str.ensures ∙ ap (option_map (λ s. s.now)) c.in-Some.is)
    ∙ ap (λ (l : List (List ℕ)). Some l)
    (sym (c.in_ok-push.ensures.items ∙ ap (λ t. c.loop-item.found.items ++ t ∷ []) (c.new.ensures ∙ c.in_ok-from_str.ensures.ok)))
