use Rattle.std.proofs.Common.{◌∙◌, Result, Ok, Err}
use Rattle.std.specs.Result.{IfOk}
use Rattle.std.proofs.lemmas.Result.{IfOk-weaker}
use Rattle.elim_tree.proofs.Postordered.{parents-length, new-length, is_postordered, carried}
use Rattle.elim_tree.proofs.renumbering.postordered_etree.Goals as goal

-- of the value, if there is one, what follows from two facts
if_both : {T E : Type 0} (r : Result T E) (P Q R : T → Type 0) → ((x : T) → P x → Q x → R x) → IfOk r P → IfOk r Q → IfOk r R
if_both (Ok x) P Q R both p q = both x p q
if_both (Err e) P Q R both p q = tt

pub renumber-requires-clause-len : goal.renumber-requires-clause-len
renumber-requires-clause-len c =
    parents-length c.args.pattern.now c.args.perm.now c.in_ok-parents.parents c.in_ok-post.post c.in_ok-parents.ensures
    c.in_ok-post.ensures

pub returns-clause-len : goal.returns-clause-len
returns-clause-len c =
    IfOk-weaker c.renumber.result _ _
    (λ numbered along. new-length c.args.pattern.now c.args.perm.now c.in_ok-parents.parents c.in_ok-post.post c.in_ok-parents.ensures
    c.in_ok-post.ensures numbered.perm along ∙ c.requires)
    c.renumber.ensures.order

pub returns-clause-order : goal.returns-clause-order
returns-clause-order c =
    IfOk-weaker c.renumber.result _ _
    (λ numbered along. is_postordered c.args.pattern.now c.args.perm.now c.in_ok-parents.parents c.in_ok-post.post c.in_ok-parents.ensures
    c.in_ok-post.ensures numbered.perm along)
    c.renumber.ensures.order

pub returns-clause-tree : goal.returns-clause-tree
returns-clause-tree c =
    if_both c.renumber.result _ _ _
    (λ numbered along carry. carried c.args.pattern.now c.args.perm.now c.in_ok-parents.parents c.in_ok-post.post c.in_ok-parents.ensures
    c.in_ok-post.ensures numbered.perm along numbered.parents c.keeps.ensures c.requires carry)
    c.renumber.ensures.order c.renumber.ensures.tree
