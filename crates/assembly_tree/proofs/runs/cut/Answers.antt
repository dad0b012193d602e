use Rattle.std.proofs.Common.{◌≡◌, ◌+◌, ◌-◌, ◌++◌, ◌∷◌, [], ℕ, ap, ◌∙◌, arith, length, get_or}
use Rattle.assembly_tree.proofs.RunLemmas.{runs_on, runs_cut, runs_all, supers-le, ends_here}
use Rattle.assembly_tree.proofs.runs.cut.Goals as goal
use Rattle.assembly_tree.proofs.runs.cut.Goals.{then-not-goes_on+in_ok-push-2, else-not-goes_on}

pub overflow_cast-len : goal.overflow_cast-len
overflow_cast-len c =
    let r = c.loop-i.invariant in
    omega (
      arith,
      supers-le c.loop-i.supers.items (length c.loop-i.supers.items) r.some (omega arith),
      r.total,
      c.loop-i.supers.ok,
      c.requires.counts.len,
      c.requires.forest.few,
    )

pub overflow_add-len : goal.overflow_add-len
overflow_add-len c =
    let r = c.loop-i.invariant in
    omega (
      arith,
      supers-le c.loop-i.supers.items (length c.loop-i.supers.items) r.some (omega arith),
      r.total,
      c.loop-i.supers.ok,
      c.requires.counts.len,
      c.requires.forest.few,
    )

pub loop-i-preserved : goal.loop-i-preserved
loop-i-preserved c =
    let r = c.loop-i.invariant in
    let counts = c.args.counts.now in
    let i = c.loop-i.i in
    let number : c.len.result + 1 ≡ length c.loop-i.supers.items + 1 = omega (arith, c.len.ensures, c.loop-i.supers.ok) in
    let nodes = c.in_ok-push.ensures.items ∙ ap (λ (v : ℕ). c.loop-i.nodes.items ++ v ∷ []) number in
    let back : i ≡ i + 1 - 1 = omega arith in
    let here = ap (λ (k : ℕ). get_or counts k 0) back in
    elim c.if-not-goes_on.branch [
      | then-not-goes_on+in_ok-push-2 w ↦ rw (w.supers-is, w.columns-is, w.in_ok-push-2.ensures.items, nodes) (
          runs_cut c.args.parents.now counts c.loop-i.supers.items c.loop-i.nodes.items c.loop-i.columns i r _
          (omega arith) (omega (arith, here)) w.at.ensures.value
          (c.requires.counts.each (i + 1) (omega arith, omega (arith, c.requires.counts.len))).some
          (ends_here c.args.parents.now counts (i + 1) c.goes_on.result w.if-not-goes_on.true c.goes_on.ensures.1)
          )
      | else-not-goes_on w ↦ rw (w.supers-is, w.columns-is, nodes) (
          runs_on c.args.parents.now counts c.loop-i.supers.items c.loop-i.nodes.items c.loop-i.columns i r
          (c.goes_on.ensures.0 w.if-not-goes_on.false)
          )
    ]

pub returns : goal.returns
returns c =
    let n : c.loop-i.i ≡ length c.args.parents.now = omega (arith, c.requires.counts.len) in
    let r = rw n at c.loop-i.invariant in
    let none =
    runs_all c.args.parents.now c.args.counts.now c.loop-i.supers.items c.loop-i.nodes.items c.loop-i.columns c.requires.forest r in
    rw none at r
