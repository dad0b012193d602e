use Rattle.std.proofs.Common.{◌≡◌, ◌-◌, ◌+◌, length, subst, arith}
use Rattle.assembly_tree.specs.MergeTables.{AreNumbersSoFar}
use Rattle.assembly_tree.proofs.NumberLemmas.{counted, numbers_all, follow_left, follow_gone}
use Rattle.assembly_tree.proofs.merges.follow.Goals as goal
use Rattle.assembly_tree.proofs.merges.follow.Goals.{then-supers-s-eq0, else-supers-s-eq0}

pub loop-i-init : goal.loop-i-init
loop-i-init c = λ name names.
    let all : length c.args.supers.now ≡ length c.args.supers.now - 0 = omega arith in
    subst (AreNumbersSoFar c.args.supers.now c.args.numbers.now name) all
    (counted c.args.supers.now c.args.numbers.now name c.requires.left)

pub loop-i-preserved : goal.loop-i-preserved
loop-i-preserved c = λ name names.
    let supers = c.args.supers.now in
    let m = length supers in
    let s = m - c.loop-i.i in
    let lower : s - 1 ≡ m - (c.loop-i.i + 1) = omega arith in
    let before = c.loop-i.invariant name names in
    elim c.if-supers-s-eq0.branch [
      | then-supers-s-eq0 w ↦ rw w.numbers-is (subst (AreNumbersSoFar supers _ name) lower (follow_gone supers c.loop-i.numbers
          name names s (omega arith, omega arith) before (omega (arith, c.loop-i.auto.numbers, c.requires.len)) w.if-supers-s-eq0.true))
      | else-supers-s-eq0 w ↦ rw w.numbers-is
          (subst (AreNumbersSoFar supers c.loop-i.numbers name) lower
          (follow_left supers c.loop-i.numbers name names s (omega arith, omega arith) before w.if-supers-s-eq0.false))
    ]

pub returns : goal.returns
returns c = λ name names. numbers_all c.args.supers.now c.loop-i.numbers name _ (omega arith) names (c.loop-i.invariant name names)
