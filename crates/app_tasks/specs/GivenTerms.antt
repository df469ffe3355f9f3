-- The terms that words give, and the limits of these.
use Rattle.std.specs.Prelude.{Bool}
use Rattle.app_words.specs.declared.command.Terms.{Terms as Words}
use Rattle.app_tasks.specs.declared.limits.Limit.{Limit}
use Rattle.app_tasks.specs.declared.limits.Limit.TheVariants as limit
use Rattle.desk_model.specs.Terms.{Terms, is_base, is_life}

-- the terms that the words give
abbrev pub terms_of : Words → Terms
terms_of w = record { base = w.base.now; nonce_life = w.nonce_life; order_life = w.order_life; authz_life = w.authz_life }

-- the terms keep this limit
abbrev pub keeps : Terms → Limit → Bool
keeps t limit.Base = is_base t.base
keeps t limit.NonceLife = is_life t.nonce_life
keeps t limit.OrderLife = is_life t.order_life
keeps t limit.AuthzLife = is_life t.authz_life
