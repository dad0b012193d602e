use Rattle.std.proofs.Common.{◌≡◌, ◌∙◌, ℕ, ◌-◌, ◌<◌, List, ap, arith, get_or, length, refl, subst}
use Rattle.std.specs.Prelude.{All, IsTrue}
use Rattle.std.proofs.lemmas.Result.{IfOk-weaker}
use Rattle.mp_system.specs.declared.system.Task.{Task}
use Rattle.shared_systems.specs.Shared.{SharedItem, HasTask, shared_item_at}
use Rattle.shared_systems.specs.Paths.{ComesAfter}
use Rattle.fences.specs.Before.{IsImplied}
use Rattle.fences.proofs.Before.{by_join, by_task}
use Rattle.fences.proofs.implied.is_implied.Goals as goal

pub returns-then-fence-count-2-clause-implied : goal.returns-then-fence-count-2-clause-implied
returns-then-fence-count-2-clause-implied c =
    let system = c.args.system.now in
    let fence = c.args.fence in
    let count : length c.tasks-count.result.now ≡ length system.tasks = ap (λ (l : List Task). length l) c.tasks-count.ensures.value in
    let task : HasTask system fence.from = (omega (arith, c.if-fence-eq0.false), omega (arith, c.if-fence-count-2.true, count)) in
    IfOk-weaker c.comes_before.result (λ yes. IsTrue yes → ComesAfter system fence.from c.begin.new.self.task)
    (λ yes. IsTrue yes → IsImplied system fence)
    (λ yes is t. by_task system fence task (subst (λ (v : ℕ). ComesAfter system fence.from v) c.in_ok-begin.ensures.task (is t)))
    c.comes_before.ensures.before

pub returns-clause-implied : goal.returns-clause-implied
returns-clause-implied c =
    let system = c.args.system.now in
    let fence = c.args.fence in
    let places = c.args.places.now in
    let count : length c.tasks-count.result.now ≡ length system.tasks = ap (λ (l : List Task). length l) c.tasks-count.ensures.value in
    let above : length system.tasks < fence.from = omega (arith, c.if-fence-count-2.false, count) in
    let k = fence.from - length system.tasks - 1 in
    let lt : k < length places = omega (arith, c.if-k-places.false, count) in
    let place = get_or places k 0 in
    let readers : c.readers-readers.result.now ≡ (shared_item_at system.items place).readers =
    c.readers-readers.ensures
    ∙ ap (λ (l : List SharedItem). (shared_item_at l (get_or places (fence.from - length c.tasks-count.result.now - 1) 0)).readers) c.items.ensures.value
    ∙ ap (λ (n : ℕ). (shared_item_at system.items (get_or places (fence.from - n - 1) 0)).readers) count in
    IfOk-weaker c.come_before.result (λ yes. IsTrue yes → All (λ u. ComesAfter system u c.begin.new.self.task) c.readers-readers.result.now)
    (λ yes. IsTrue yes → IsImplied system fence)
    (λ yes is t.
    by_join system fence places place c.requires.places above lt refl
    (subst (λ (l : List ℕ). All (λ u. ComesAfter system u fence.to) l) readers
    (subst (λ (v : ℕ). All (λ u. ComesAfter system u v) c.readers-readers.result.now) c.in_ok-begin.ensures.task (is t))))
    c.come_before.ensures.before
