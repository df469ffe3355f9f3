use Rattle.std.proofs.{Common.◌∙◌, Common.sym, Common.ap, Common.nat_cmp, Common.is_eq, lemmas.List.take_all, lemmas.List.map-id}
use Rattle.std.specs.Cmp.Lexicographic.{nat_list_cmp_total, same_text, slice_cmp, texts_ties}
use Rattle.store_book.proofs.Distinctness.{distinct-rows, equal_self}
use Rattle.store_book.proofs.accounts.have_distinct_texts.Goals as goal

pub returns : goal.returns
returns c =
    distinct-rows (λ k l. slice_cmp nat_cmp k.now l.now) (λ k. k.now) (λ key. key)
    (λ k l same. ap (λ t. is_eq (slice_cmp nat_cmp k.now t)) (sym same) ∙ equal_self (slice_cmp nat_cmp) nat_list_cmp_total k.now)
    (λ k l equal. same_text k.now l.now (sym (texts_ties k.now l.now ∙ equal)))
    c.loop-key.texts.items c.args.keys.now
    (c.loop-key.invariant ∙ take_all c.loop-key.key-index c.args.keys.now c.loop-key-test.false ∙ sym (map-id c.args.keys.now))
    c.are_distinct.result c.are_distinct.ensures
