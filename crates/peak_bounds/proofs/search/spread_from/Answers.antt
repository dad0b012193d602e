use Rattle.std.proofs.Common.{◌≡◌, ◌⊎◌, ℕ, ◌-◌, ◌≤◌, ◌++◌, ◌∷◌, [], true, Bool, List, get_or, set, take, length, arith, inl, inr, sym, ap, refl, false, subst, ◌∙◌, Vec, Global}
use Rattle.std.proofs.lemmas.List.{take_more}
use Rattle.mp_system.specs.Replay.{is_marked}
use Rattle.peak_bounds.proofs.Searching.{mark_read, IsSpread, spread_keep, spread_push}
use Rattle.peak_bounds.proofs.search.spread_from.Goals as goal
use Rattle.peak_bounds.proofs.search.spread_from.Goals.{then-task-ne0+then-not-marks-task+in_ok-push, else-task-ne0}
use Rattle.peak_bounds.proofs.search.spread_from.Goals.{else-task-ne0-via-then-task-ne0+else-not-marks-task, else-task-ne0-via-else-task-ne0}

pub loop-place-preserved : goal.loop-place-preserved
loop-place-preserved c =
    let l = c.loop-place in
    let n = length c.args.marks.now in
    let far = c.args.far.now in
    let places = c.args.places.now in
    let i = l.place-index in
    let k = get_or places i 0 in
    let first = c.args.marks.now in
    let start = c.args.work.now.items in
    let one_more = take_more places i 0 c.loop-place-test.true in
    let to = get_or far k 0 in
    let small : to ≤ n = c.requires.far k 0 (c.requires.places i 0 c.loop-place-test.true) in
    elim c.if-task-ne0.branch [
      | then-task-ne0+then-not-marks-task+in_ok-push w ↦ (
          let low : 1 ≤ to = omega (arith, w.if-task-ne0.true) in
          let items : c.if-task-ne0.work.items ≡ l.work.items ++ to ∷ [] = ap (λ (v : Vec ℕ Global). v.items) w.work-is ∙ w.in_ok-push.ensures.items in
          let new = mark_read l.marks to false _ low (omega (arith, small, l.invariant.len)) w.if-not-marks-task.true in
          subst (λ (ps : List ℕ). IsSpread n far ps first c.if-task-ne0.marks start c.if-task-ne0.work.items) (sym one_more)
          (subst (λ (ms : List Bool). IsSpread n far (take i places ++ k ∷ []) first ms start c.if-task-ne0.work.items) (sym w.marks-is)
          (subst (λ (ws : List ℕ). IsSpread n far (take i places ++ k ∷ []) first (set l.marks (to - 1) true) start ws) (sym items)
          (spread_push n far (take i places) first l.marks start l.work.items l.invariant k to refl low small new))))
      | else-task-ne0 w ↦ (
          let why : (to ≡ 0) ⊎ (is_marked l.marks to ≡ true) = elim w.else-task-ne0.branch [
            | else-task-ne0-via-then-task-ne0+else-not-marks-task u ↦ inr (mark_read l.marks to true _ (omega (arith, u.if-task-ne0.true)) (omega (arith, small, l.invariant.len)) u.if-not-marks-task.false)
            | else-task-ne0-via-else-task-ne0 u ↦ inl u.if-task-ne0.false
          ] in
          rw (w.marks-is, w.work-is, one_more) (spread_keep n far (take i places) first l.marks start l.work.items l.invariant k why))
    ]
