use Rattle.std.proofs.{Common.lit<, lemmas.Iterator.Consumers.map_from_collect, lemmas.Iterator.Splits.YieldsList-from_str_split}
use Rattle.core_replies.proofs.documents.parts_of.Goals as goal

pub returns : goal.returns
returns c =
    map_from_collect _ c.collect.ensures.ran
    (YieldsList-from_str_split 34 c.args.text.now (lit< tt) c.split.ensures.text c.split.ensures.has_more c.split.ensures.pattern)
