use Rattle.std.proofs.Common.{◌≤◌, ◌∙◌, ap, sym, rules}
use Rattle.std.specs.Prelude.{option_copied}
use Rattle.model_laws.proofs.Finds.{found_passes}
use Rattle.desk_model.specs.Effect.{effect, names_order, swept, touches_account, touches_authorization}
use Rattle.desk_model.specs.{Entry.entry_of, Limits.last_end, Tables.Tables, declared.rows.Meta.Meta}
use Rattle.desk_model.specs.Shown.{account_reply, authorization_reply, challenge_in, client_challenge_in, located_order, moved_reply, order_reply, shown}
use Rattle.core_replies.specs.Shown.{HasMoments}
use Rattle.core_changes.proofs.ShownAfter.{policy_moved}
use Rattle.desk_core.proofs.MovedReplies.{account_there, authorization_there, named_after, order_there, owner_there}
use Rattle.desk_core.proofs.ShownTexts.{authorization_moments, order_ends, owner_moments, shown_found}
use Rattle.core_replies.proofs.Results.{ok_so}
use Rattle.desk_core.proofs.acts.show_moved.Goals as goal

pub show_client_challenge-requires : goal.show_client_challenge-requires
show_client_challenge-requires c = search (rules, found_passes)

pub show_challenge-requires : goal.show_challenge-requires
show_challenge-requires c = search (rules, found_passes)

pub returns-in-ContactsChanged : goal.returns-in-ContactsChanged
returns-in-ContactsChanged c =
    ok_so c.account_reply.result (λ r said m rows texts.
    let T : Tables = effect m (swept m c.args.book.now) (entry_of c.args.motion.now) in
    said T (policy_moved m c.args.book.now c.args.motion.now ∙ ap (λ (x : Meta). x.policy) (sym c.meta.ensures))
    ∙ ap (shown (account_reply 200 T)) (ap option_copied (sym c.unwrap.ensures) ∙ c.account.ensures
    ∙ account_there m c.args.book.now c.args.motion.now c.in-ContactsChanged.number _
    (λ a. ap (λ v. touches_account (entry_of v) a) c.in-ContactsChanged.is) rows.accounts)
    ∙ ap (moved_reply T) (sym c.in-ContactsChanged.is))
    c.account_reply.ensures

pub returns-in-KeyChanged : goal.returns-in-KeyChanged
returns-in-KeyChanged c =
    ok_so c.account_reply-in-KeyChanged.result (λ r said m rows texts.
    let T : Tables = effect m (swept m c.args.book.now) (entry_of c.args.motion.now) in
    said T (policy_moved m c.args.book.now c.args.motion.now ∙ ap (λ (x : Meta). x.policy) (sym c.meta.ensures))
    ∙ ap (shown (account_reply 200 T)) (ap option_copied (sym c.unwrap-in-KeyChanged.ensures) ∙ c.account-in-KeyChanged.ensures
    ∙ account_there m c.args.book.now c.args.motion.now c.in-KeyChanged.number _
    (λ a. ap (λ v. touches_account (entry_of v) a) c.in-KeyChanged.is) rows.accounts)
    ∙ ap (moved_reply T) (sym c.in-KeyChanged.is))
    c.account_reply-in-KeyChanged.ensures

pub returns-in-AccountEnded : goal.returns-in-AccountEnded
returns-in-AccountEnded c =
    ok_so c.account_reply-in-AccountEnded.result (λ r said m rows texts.
    let T : Tables = effect m (swept m c.args.book.now) (entry_of c.args.motion.now) in
    said T (policy_moved m c.args.book.now c.args.motion.now ∙ ap (λ (x : Meta). x.policy) (sym c.meta.ensures))
    ∙ ap (shown (account_reply 200 T)) (ap option_copied (sym c.unwrap-in-AccountEnded.ensures) ∙ c.account-in-AccountEnded.ensures
    ∙ account_there m c.args.book.now c.args.motion.now c.in-AccountEnded.number _
    (λ a. ap (λ v. touches_account (entry_of v) a) c.in-AccountEnded.is) rows.accounts)
    ∙ ap (moved_reply T) (sym c.in-AccountEnded.is))
    c.account_reply-in-AccountEnded.ensures

pub returns-in-Answered : goal.returns-in-Answered
returns-in-Answered c =
    ok_so c.show_client_challenge.result (λ r said m rows texts.
    let T : Tables = effect m (swept m c.args.book.now) (entry_of c.args.motion.now) in
    shown_found (client_challenge_in T c.in-Answered.number) HasMoments _ _ r
    (ap option_copied (sym c.unwrap-in-Answered.ensures) ∙ c.owner.ensures ∙ owner_there m c.args.book.now c.args.motion.now c.in-Answered.number _
    (λ a. ap (λ v. touches_authorization (entry_of v) a) c.in-Answered.is) rows.authorizations)
    (owner_moments T c.in-Answered.number texts) (said T (policy_moved m c.args.book.now c.args.motion.now ∙ ap (λ (x : Meta). x.policy) (sym c.meta.ensures)))
    ∙ ap (moved_reply T) (sym c.in-Answered.is))
    c.show_client_challenge.ensures

pub returns-in-Reported : goal.returns-in-Reported
returns-in-Reported c =
    ok_so c.show_challenge.result (λ r said m rows texts.
    let T : Tables = effect m (swept m c.args.book.now) (entry_of c.args.motion.now) in
    shown_found (challenge_in T c.in-Reported.number) HasMoments _ _ r
    (ap option_copied (sym c.unwrap-in-Reported.ensures) ∙ c.owner-in-Reported.ensures
    ∙ owner_there m c.args.book.now c.args.motion.now c.in-Reported.number _
    (λ a. ap (λ v. touches_authorization (entry_of v) a) c.in-Reported.is) rows.authorizations)
    (owner_moments T c.in-Reported.number texts) (said T (policy_moved m c.args.book.now c.args.motion.now ∙ ap (λ (x : Meta). x.policy) (sym c.meta.ensures)))
    ∙ ap (moved_reply T) (sym c.in-Reported.is))
    c.show_challenge.ensures

pub returns-in-AuthorizationEnded : goal.returns-in-AuthorizationEnded
returns-in-AuthorizationEnded c =
    ok_so c.authorization_reply.result (λ r said m rows texts.
    let T : Tables = effect m (swept m c.args.book.now) (entry_of c.args.motion.now) in
    shown_found (authorization_reply T) HasMoments _ _ r
    (ap option_copied (sym c.unwrap-in-AuthorizationEnded.ensures) ∙ c.authorization.ensures
    ∙ authorization_there m c.args.book.now c.args.motion.now c.in-AuthorizationEnded.number _
    (λ a. ap (λ v. touches_authorization (entry_of v) a) c.in-AuthorizationEnded.is) rows.authorizations)
    (authorization_moments T c.in-AuthorizationEnded.number texts)
    (said T (policy_moved m c.args.book.now c.args.motion.now ∙ ap (λ (x : Meta). x.policy) (sym c.meta.ensures)))
    ∙ ap (moved_reply T) (sym c.in-AuthorizationEnded.is))
    c.authorization_reply.ensures

pub returns-in-Finalized : goal.returns-in-Finalized
returns-in-Finalized c =
    ok_so c.show_finalized_order.result (λ r said m rows texts.
    let T : Tables = effect m (swept m c.args.book.now) (entry_of c.args.motion.now) in
    shown_found (located_order 200 T) (λ o. o.expires ≤ last_end) _ _ r
    (ap option_copied (sym c.unwrap-in-Finalized.ensures) ∙ c.order.ensures ∙ order_there m c.args.book.now c.args.motion.now c.in-Finalized.number _
    (λ k. ap (λ v. names_order (entry_of v) k) c.in-Finalized.is) rows.orders)
    (order_ends T c.in-Finalized.number texts) (said T (named_after m c.args.book.now c.args.motion.now))
    ∙ ap (moved_reply T) (sym c.in-Finalized.is))
    c.show_finalized_order.ensures

pub returns-in-Certified : goal.returns-in-Certified
returns-in-Certified c =
    ok_so c.show_order.result (λ r said m rows texts.
    let T : Tables = effect m (swept m c.args.book.now) (entry_of c.args.motion.now) in
    shown_found (order_reply 200 T) (λ o. o.expires ≤ last_end) _ _ r
    (ap option_copied (sym c.unwrap-in-Certified.ensures) ∙ c.order-in-Certified.ensures
    ∙ order_there m c.args.book.now c.args.motion.now c.in-Certified.number _
    (λ k. ap (λ v. names_order (entry_of v) k) c.in-Certified.is) rows.orders)
    (order_ends T c.in-Certified.number texts) (said T (named_after m c.args.book.now c.args.motion.now))
    ∙ ap (moved_reply T) (sym c.in-Certified.is))
    c.show_order.ensures

pub returns-in-Failed : goal.returns-in-Failed
returns-in-Failed c =
    ok_so c.show_order-in-Failed.result (λ r said m rows texts.
    let T : Tables = effect m (swept m c.args.book.now) (entry_of c.args.motion.now) in
    shown_found (order_reply 200 T) (λ o. o.expires ≤ last_end) _ _ r
    (ap option_copied (sym c.unwrap-in-Failed.ensures) ∙ c.order-in-Failed.ensures
    ∙ order_there m c.args.book.now c.args.motion.now c.in-Failed.number _ (λ k. ap (λ v. names_order (entry_of v) k) c.in-Failed.is) rows.orders)
    (order_ends T c.in-Failed.number texts) (said T (named_after m c.args.book.now c.args.motion.now))
    ∙ ap (moved_reply T) (sym c.in-Failed.is))
    c.show_order-in-Failed.ensures
