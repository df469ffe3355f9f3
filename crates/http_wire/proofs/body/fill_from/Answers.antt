use Rattle.std.proofs.{Common.◌-◌, Common.arith, Common.take, Common.length, Common.rules, lemmas.List.length-take}
use Rattle.http_wire.specs.Head.{TakesAtMost}
use Rattle.http_wire.proofs.Bytes.{adds_more, adds_none, takes_added, where_failed}
use Rattle.http_wire.proofs.body.fill_from.Goals as goal

pub loop-filled-init : goal.loop-filled-init
loop-filled-init g c = (omega arith, search rules, adds_none (g.R.Read.remaining c.args.reader.now) (take c.args.start c.args.buffer.now))

pub loop-filled-preserved : goal.loop-filled-preserved
loop-filled-preserved g c = (
  c.in_ok-count.ensures.within,
  omega arith,
  adds_more _ _ _ _ c.loop-filled.filled c.in_ok-count.count _ _ c.loop-filled.invariant.2 c.in_ok-count.ensures.bytes c.in_ok-count.ensures.front,
)

pub returns-in_err-count-clause-failed : goal.returns-in_err-count-clause-failed
returns-in_err-count-clause-failed g c =
    let remaining = g.R.Read.remaining c.args.reader.now in
    let left = g.R.Read.remaining c.fill.new.reader in
    let most = length c.args.buffer.now - c.args.start in
    let taken : TakesAtMost remaining left most =
    takes_added remaining (g.R.Read.remaining c.loop-filled.reader) left (take c.args.start c.args.buffer.now) c.loop-filled.buffer c.loop-filled.filled most
    (omega (arith, length-take c.args.start c.args.buffer.now)) c.loop-filled.invariant.2 c.in_err-count.ensures.kept in
    where_failed c.from_residual.result (TakesAtMost remaining left most) taken
