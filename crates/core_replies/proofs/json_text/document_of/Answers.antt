use Rattle.std.proofs.Common.{◌≡◌, ◌∙◌, Some, sym}
use Rattle.core_replies.proofs.Writing.{document_reads}
use Rattle.core_replies.proofs.json_text.document_of.Goals as goal

pub of_text-requires : goal.of_text-requires
of_text-requires c =
    let known = c.requires in
    let reads = document_reads known.0 c.args.text _ known.1.plain known.1.values c.into_string.ensures.text c.into_string.ensures.reads_back in
    (known.0, reads.0, reads.1)

pub returns : goal.returns
returns c d is =
    let reads = document_reads d c.args.text _ is.plain is.values c.into_string.ensures.text c.into_string.ensures.reads_back in
    let same : Some c.of_text.result ≡ Some d = sym c.of_text.ensures ∙ reads.0 in
    cc same
