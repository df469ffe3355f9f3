-- The replies that refuse.
use Rattle.std.specs.Prelude.{Bool, List}
use Rattle.desk_model.specs.{Refusals.refusal_of, Shown.plain}
use Rattle.desk_model.specs.declared.{refusal.Refusal.Refusal, reply.Allow.Allow, reply.Reply.Reply, reply.Subproblem.Subproblem}
use Rattle.desk_model.specs.declared.reply.Body.TheVariants as body

-- a refusal with the identifiers that were refused, the methods that are served, and whether it links to the directory
abbrev pub refusal_reply : Refusal → List Subproblem → Allow → Bool → Reply
refusal_reply why subproblems methods index =
    plain (refusal_of why).status (body.Problem (record { refusal = why; subproblems = subproblems; allow = methods; index = index }))
