use Rattle.std.proofs.Common.{◌≡◌, ◌∷◌, ◌++◌, [], arith, ap, sym, subst, ◌∙◌, List, None}
use Rattle.sp_terms.specs.declared.position.Position.TheVariants.{Hold}
use Rattle.sp_terms.specs.declared.system.Pending.{Pending}
use Rattle.sp_terms.specs.Values.{IsTaskPosition}
use Rattle.sp_terms.proofs.PendingLemmas.{opened_none, opened_all, last_read, some_pending, after_hold, after_task, after_par}
use Rattle.sp_terms.proofs.system.items_of.Goals as goal

pub loop-at-init : goal.loop-at-init
loop-at-init c =
    let e : c.push.new.self.items ≡ record { from = None; to = None } ∷ [] =
    c.in_ok-push.ensures.items ∙ ap (λ (z : List Pending). z ++ record { from = None; to = None } ∷ []) c.new-pending.ensures.items in
    rw (e, c.new-found.ensures.items) (opened_none c.args.positions.now c.args.tasks c.requires.terms c.requires.tasks)

pub overflow_sub-len : goal.overflow_sub-len
overflow_sub-len c =
    omega (arith, c.len.ensures, c.loop-at.pending.ok.0, some_pending _ _ _ _ _ c.requires.terms c.loop-at-test.true c.loop-at.invariant)

pub index-term-requires : goal.index-term-requires
index-term-requires c =
    omega (arith, c.len.ensures, c.loop-at.pending.ok.0, some_pending _ _ _ _ _ c.requires.terms c.loop-at-test.true c.loop-at.invariant)

pub loop-at-preserved-in-Continue-branch-2 : goal.loop-at-preserved-in-Continue-branch-2
loop-at-preserved-in-Continue-branch-2 c =
    let l = last_read _ _ _ _ _ (Hold 0) c.requires.terms c.loop-at-test.true c.loop-at.invariant
    _ _ c.len.ensures c.loop-at.pending.ok.0 c.index-term.result.now c.index-term.ensures in
    rw (c.in_ok-push-in-Hold.ensures.items, c.pop.ensures.rest, c.loop-at.pending.ok.0)
    (after_hold _ _ _ _ _ _ _ l c.in-Hold.size c.in-Hold.is)

pub overflow_sub-own : goal.overflow_sub-own
overflow_sub-own c =
    let l = last_read _ _ _ _ _ (Hold 0) c.requires.terms c.loop-at-test.true c.loop-at.invariant
    _ _ c.len.ensures c.loop-at.pending.ok.0 c.index-term.result.now c.index-term.ensures in
    (after_task _ _ _ _ _ _ _ l (subst IsTaskPosition (sym c.in-Task.is) tt)).0

pub loop-at-preserved-in-Task : goal.loop-at-preserved-in-Task
loop-at-preserved-in-Task c =
    let l = last_read _ _ _ _ _ (Hold 0) c.requires.terms c.loop-at-test.true c.loop-at.invariant
    _ _ c.len.ensures c.loop-at.pending.ok.0 c.index-term.result.now c.index-term.ensures in
    rw (c.in_ok-push-in-Task-2.ensures.items, c.in_ok-push-in-Task.ensures.items, c.pop.ensures.rest, c.loop-at.pending.ok.0)
    (after_task _ _ _ _ _ _ _ l (subst IsTaskPosition (sym c.in-Task.is) tt)).1

pub loop-at-preserved : goal.loop-at-preserved
loop-at-preserved c =
    let l = last_read _ _ _ _ _ (Hold 0) c.requires.terms c.loop-at-test.true c.loop-at.invariant
    _ _ c.len.ensures c.loop-at.pending.ok.0 c.index-term.result.now c.index-term.ensures in
    rw (c.in_ok-push_copies-in-Par.ensures, c.pop.ensures.rest, c.loop-at.pending.ok.0)
    (after_par _ _ _ _ _ _ _ l c.in-Par.parts c.in-Par.is)

pub returns : goal.returns
returns c = c.reverse.ensures.items ∙ opened_all _ _ _ _ _ (omega arith) c.loop-at.invariant
