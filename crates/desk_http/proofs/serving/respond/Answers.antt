use Rattle.std.proofs.{Common.None, Common.Ok, Common.Some}
use Rattle.desk_http.proofs.Parsing.{answered, fails, form_parsed}
use Rattle.desk_http.proofs.serving.respond.Goals as goal
use Rattle.std.proofs.Common.{refl, ◌∙◌}

pub returns-in-Ok-clause-failed : goal.returns-in-Ok-clause-failed
returns-in-Ok-clause-failed g c remaining is =
    let reply = c.in-Ok.ensures.reply in
    let failed = c.in-Err-send.ensures.failed in
    rw (failed.0)
    (record {
      form = c.args.parsed.form;
      formed = form_parsed remaining c.args.parsed is;
      cause = None;
      by = (
        reply.0,
        answered g.K.Kept.sight g.K.Storage.causes c.args.at c.args.random.now remaining c.args.parsed c.args.desk.now c.reply_bytes.new.desk
            (Ok reply.0) is reply.1,
        rw (c.as_slice.ensures.value ∙ reply.2) at failed.1,
      );
    })

pub returns-in-Ok-write_fault-clause-served : goal.returns-in-Ok-write_fault-clause-served
returns-in-Ok-write_fault-clause-served g c remaining is = (
  c.args.parsed.form,
  form_parsed remaining c.args.parsed is,
  (
    fails g.K.Kept.sight g.K.Storage.causes c.args.at c.args.random.now remaining c.args.parsed c.args.desk.now c.reply_bytes.new.desk c.in-Err.cause is
        c.in-Err.ensures.reply,
    rw (c.index_for-index.ensures, c.base.ensures) at c.in-Ok-write_fault.ensures.written,
    refl,
  ),
)

pub returns-clause-failed : goal.returns-clause-failed
returns-clause-failed g c remaining is =
    let failed = c.in-Err-write_fault.ensures.failed in
    rw (failed.0)
    (record {
      form = c.args.parsed.form;
      formed = form_parsed remaining c.args.parsed is;
      cause = Some c.in-Err.cause;
      by = (
        fails g.K.Kept.sight g.K.Storage.causes c.args.at c.args.random.now remaining c.args.parsed c.args.desk.now c.reply_bytes.new.desk c.in-Err.cause is
            c.in-Err.ensures.reply,
        rw (c.index_for-index.ensures, c.base.ensures) at failed.1,
      );
    })
