use Rattle.std.proofs.Common.{◌≡◌, ◌≤◌, ◌+◌, ◌∙◌, length, ap, arith}
use Rattle.std.proofs.lemmas.List.FromFn.{length-map-range_with_len}
use Rattle.assembly_tree.specs.Amalgamation.{new_number}
use Rattle.assembly_tree.proofs.NumberLemmas.{count_yes, count_no, count_more}
use Rattle.assembly_tree.proofs.merges.count_left.Goals as goal
use Rattle.assembly_tree.proofs.merges.count_left.Goals.{then-supernode-ne0, else-supernode-ne0}

pub loop-supernode-preserved : goal.loop-supernode-preserved
loop-supernode-preserved c =
    let before = c.loop-supernode.invariant in
    let i = c.loop-supernode.supernode-index in
    let both : (c.if-supernode-ne0.left ≡ new_number c.args.supers.now (i + 1)) × (c.if-supernode-ne0.left ≤ i + 1) =
    elim c.if-supernode-ne0.branch [
      | then-supernode-ne0 w ↦ (
        w.left-is
            ∙ count_yes c.args.supers.now i c.loop-supernode.left c.loop-supernode-test.true w.if-supernode-ne0.true before.left,
        omega (arith, w.left-is, before.small),
      )
      | else-supernode-ne0 w ↦ (
        w.left-is
            ∙ count_no c.args.supers.now i c.loop-supernode.left c.loop-supernode-test.true w.if-supernode-ne0.false before.left,
        omega (arith, w.left-is, before.small),
      )
    ] in
    record {
      small = both.1;
      left = both.0;
      numbers = count_more c.args.supers.now c.loop-supernode.numbers.items c.push-in-loop-supernode.new.self.items
          i c.if-supernode-ne0.left c.in_ok-push-2.ensures.items both.0 before.numbers;
    }

pub returns-clause-len : goal.returns-clause-len
returns-clause-len c = ap length c.loop-supernode.invariant.numbers
    ∙ length-map-range_with_len (new_number c.args.supers.now) 0 (c.loop-supernode.supernode-index + 1)
    ∙ (let all : c.loop-supernode.supernode-index + 1 ≡ length c.args.supers.now + 1 = omega arith in all)
