use Rattle.std.proofs.Common.{◌-◌, ap, ◌∙◌}
use Rattle.std.specs.List.{flat_map}
use Rattle.identifiers.specs.Parsed.{ask_of}
use Rattle.store_api.proofs.{Found.finds_failing, Found.finds_put, Found.finds_then, Found.listed_as, Gathered.put_by, Gathered.put_then}
use Rattle.store_api.proofs.named.add_nonces.Goals as goal
use Rattle.desk_model.specs.declared.objects.Nonce.{Nonce}
use Rattle.model_parts.specs.{Loaded.serials, LookUps.nonces_before, LookUps.nonces_numbered}

pub returns : goal.returns
returns g c =
    let number = λ (n : Nonce). n.serial in
    finds_then c.add_found.result c.in_ok-add_each.ensures
    (finds_put number (λ rows. rows.items) (λ T. nonces_before T c.first_lasting.result) _ _
    c.find_nonces.ensures c.add_found.ensures.put c.add_found.ensures.lacks c.add_found.ensures.fails)
    (λ T carried past same.
    put_then number (flat_map (nonces_numbered T) (serials (ask_of c.args.ask.now))) (nonces_before T (c.args.moment - T.meta.policy.nonce_life)) _ _ _
    (put_by number (flat_map (nonces_numbered T)) _ _ _ _ carried (listed_as _ _ _ c.as_slice.ensures c.serial.ensures))
    (put_by number (nonces_before T) _ _ _ _ past (c.first_lasting.ensures ∙ ap (λ policy. c.args.moment - policy.nonce_life) same)))

pub returns-in_err-add_each : goal.returns-in_err-add_each
returns-in_err-add_each g c = finds_failing _ c.in_err-add_each.ensures c.from_residual.ensures.1
