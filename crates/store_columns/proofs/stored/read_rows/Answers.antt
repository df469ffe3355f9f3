use Rattle.std.proofs.Common.{ap}
use Rattle.store_columns.proofs.stored.read_rows.Goals as goal

pub returns-in_default : goal.returns-in_default
returns-in_default c = λ rows kept same.
    (rw c.in_default.is at c.in_ok-metas.ensures)
    (((rows.metas, rows.nonces), (rows.accounts, rows.orders)), ((rows.authorizations, rows.challenges), (rows.listed, rows.keys)))
    (((kept.metas, kept.nonces), (kept.accounts, kept.orders)), ((kept.authorizations, kept.challenges), (kept.listed, kept.keys)))
    (ap (λ s. (((s.metas, s.nonces), (s.accounts, s.orders)), ((s.authzs, s.challs), (s.order_authzs, s.chall_keys)))) same)
