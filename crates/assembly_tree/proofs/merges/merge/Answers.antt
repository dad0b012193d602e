use Rattle.std.proofs.Common.{◌≢◌, ◌+◌, ℕ, ◌≤◌, List, true, false, inl, inr, refl, IsTrue, ◌≡◌}
use Rattle.std.proofs.lemmas.Bool.{cases_lt, false≢true}
use Rattle.assembly_tree.specs.declared.assembly.Super.{Super}
use Rattle.assembly_tree.specs.Assembly.{super_at}
use Rattle.assembly_tree.specs.Amalgamation.{zeros_of}
use Rattle.assembly_tree.specs.MergeTables.{stays}
use Rattle.assembly_tree.proofs.JoinLemmas.{stays-root, stays-dear, stays-cheap}
use Rattle.assembly_tree.proofs.MergeLemmas.{merging_none, merging_stays, merging_goes}
use Rattle.assembly_tree.proofs.merges.merge.Goals as goal
use Rattle.assembly_tree.proofs.merges.merge.Goals.{then-p-ne0+then-is_cheap, else-p-ne0, else-p-ne0-via-then-p-ne0+else-is_cheap}
use Rattle.assembly_tree.proofs.merges.merge.Goals.{else-p-ne0-via-else-p-ne0}

dear : (zeros : ℕ) (new : List Super) (s : ℕ) → (super_at new s).parent ≢ 0
    → (zeros_of (super_at new s) (super_at new ((super_at new s).parent)) ≤ zeros → IsTrue false) → stays zeros new s ≡ true
dear zeros new s child not_cheap =
    elim (cases_lt zeros (zeros_of (super_at new s) (super_at new ((super_at new s).parent)))) [
      | inl more ↦ stays-dear zeros new s child more
      | inr cheap ↦ absurd (false≢true (not_cheap cheap))
    ]

pub loop-i-init : goal.loop-i-init
loop-i-init c = merging_none c.args.zeros c.args.supers.now

pub loop-i-preserved : goal.loop-i-preserved
loop-i-preserved c =
    let zeros = c.args.zeros in
    let old = c.args.supers.now in
    let new = c.loop-i.supers in
    let i = c.loop-i.i in
    elim c.if-p-ne0.branch [
      | then-p-ne0+then-is_cheap w ↦ rw (w.supers-is, w.join.ensures) (
          merging_goes zeros old new i c.loop-i.invariant c.loop-i-test.true c.requires.each _ refl w.if-p-ne0.true
          (stays-cheap zeros new (i + 1) w.if-p-ne0.true (w.if-is_cheap.ensures.0 refl))
          )
      | else-p-ne0 w ↦ rw w.supers-is
          (merging_stays zeros old new i c.loop-i.invariant c.loop-i-test.true c.requires.each _ refl (elim w.else-p-ne0.branch [
            | else-p-ne0-via-then-p-ne0+else-is_cheap w' ↦ dear zeros new (i + 1) w'.if-p-ne0.true w'.if-is_cheap.ensures.1
            | else-p-ne0-via-else-p-ne0 w' ↦ stays-root zeros new (i + 1) w'.if-p-ne0.false
          ]))
    ]
