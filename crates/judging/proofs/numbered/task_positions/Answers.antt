use Rattle.std.proofs.Common.{◌≡◌, ◌∙◌, ◌+◌, ◌<◌, ◌++◌, ◌∷◌, [], List, ℕ, ap, sym, subst, arith, length, get_or}
use Rattle.std.proofs.lemmas.List.{append-nil}
use Rattle.sp_terms.specs.declared.position.Position.{Position}
use Rattle.judging.specs.Numbered.{task_positions}
use Rattle.judging.proofs.NumberLemmas.{no_task, task_pushed}
use Rattle.judging.proofs.numbered.task_positions.Goals as goal
use Rattle.judging.proofs.numbered.task_positions.Goals.{in-Task+in_ok-push, in_default}

pub loop-done-preserved : goal.loop-done-preserved
loop-done-preserved c =
    let ps = c.args.terms.now in
    let i = c.loop-done.done in
    let p = c.at.result in
    let before = c.loop-done.found.items in
    let within : i < length ps = omega (arith, c.loop-done-test.true, c.len-done-end.ensures.value) in
    let here : p ≡ get_or ps i p = subst (λ (j : ℕ). p ≡ get_or ps j p) (omega arith) (c.at.ensures p) in
    let last = λ (q : Position). before ++ task_positions (i + 1) (q ∷ []) in
    elim c.match-at.branch [
      | in-Task+in_ok-push w ↦ rw w.found-is (
          task_pushed ps i p within here before w.push.new.self.items c.loop-done.invariant
          (w.in_ok-push.ensures.items ∙ ap last (sym w.in-Task.is))
          )
      | in_default w ↦ rw w.found-is (
          task_pushed ps i p within here before before c.loop-done.invariant
          (sym (append-nil before) ∙ ap (λ (ks : List ℕ). before ++ ks) (sym (no_task (i + 1) p w.in_default.not-Task)))
          )
    ]
