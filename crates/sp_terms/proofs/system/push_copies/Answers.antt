use Rattle.std.proofs.Common.{◌∷◌, ◌++◌, [], ap, ◌∙◌, append_assoc, replicate, List}
use Rattle.std.proofs.lemmas.List.{replicate_more}
use Rattle.sp_terms.specs.declared.system.Pending.{Pending}
use Rattle.sp_terms.proofs.system.push_copies.Goals as goal

pub loop-i-preserved : goal.loop-i-preserved
loop-i-preserved c =
    c.in_ok-push.ensures.items ∙ ap (λ (z : List Pending). z ++ c.args.term ∷ []) c.loop-i.invariant
    ∙ append_assoc c.args.pending.now.items (replicate c.loop-i._i c.args.term) (c.args.term ∷ [])
    ∙ ap (λ (z : List Pending). c.args.pending.now.items ++ z) (replicate_more c.loop-i._i c.args.term)
