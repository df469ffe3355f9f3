use Rattle.std.proofs.Common.{◌++◌, OnOk, codes, subst}
use Rattle.std.specs.{Fmt.decimal, Io.KnownBytes.Appends}
use Rattle.app_reports.proofs.tally.write_lives.Goals as goal

pub returns : goal.returns
returns g c =
    subst (λ t. OnOk c.writeln.result (Appends (g.W.Write.contents c.args.out.now) (g.W.Write.contents c.writeln.new.self) t))
    (λ i. codes "nonce life: " ++ (decimal (c.nonce_life-nonce.ensures.life i) ++ (codes "\norder life: " ++ (decimal (c.order_life-order.ensures.life i)
    ++ (codes "\nauthorization life: " ++ (decimal (c.authz_life-authz.ensures.life i) ++ codes "\n")))))) c.writeln.ensures.bytes
