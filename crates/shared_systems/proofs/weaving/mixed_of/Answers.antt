use Rattle.std.proofs.Common.{◌≡◌, ◌+◌, ◌++◌, ◌∷◌, [], ℕ, List, get_or, take, ◌<◌, length, refl, append_assoc, sym, ap, ◌∙◌}
use Rattle.shared_systems.specs.Shared.{SharedTaskSystem}
use Rattle.shared_systems.specs.Woven.{woven, due_after}
use Rattle.shared_systems.proofs.OrderPlaces.{woven_more}
use Rattle.shared_systems.proofs.weaving.mixed_of.Goals as goal

next : (system : SharedTaskSystem) (order mixed row pushed later : List ℕ) (i v : ℕ)
    → i < length order → mixed ≡ woven system (take i order) → v ≡ get_or order i 0
    → pushed ≡ mixed ++ v ∷ [] → row ≡ due_after system (take i order) (get_or order i 0)
    → later ≡ pushed ++ row → later ≡ woven system (take (i + 1) order)
next system order mixed row pushed later i v lt mixed_is v_is pushed_is row_is later_is =
    let here : v ∷ row ≡ get_or order i 0 ∷ due_after system (take i order) (get_or order i 0) = rw (v_is, row_is) refl in
    later_is ∙ ap (λ (l : List ℕ). l ++ row) pushed_is ∙ append_assoc mixed (v ∷ []) row
    ∙ ap (λ (l : List ℕ). l ++ (v ∷ row)) mixed_is
    ∙ ap (λ (l : List ℕ). woven system (take i order) ++ l) here ∙ sym (woven_more system order i lt)

pub loop-i-preserved : goal.loop-i-preserved
loop-i-preserved c =
    next c.args.system.now c.args.order.now c.loop-i.mixed.items c.row.result.now
    c.push.new.self.items c.extend_from_slice.new.self.items c.loop-i.i
    (get_or c.args.order.now c.loop-i.i 0) c.loop-i-test.true c.loop-i.invariant refl c.in_ok-push.ensures.items
    (c.row.ensures ∙ c.requires.rows c.loop-i.i c.loop-i-test.true) c.in_ok-extend_from_slice.ensures.items
