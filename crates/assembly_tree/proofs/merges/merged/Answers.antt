use Rattle.std.proofs.Common.{◌≡◌, ◌++◌, List, length, sym, ap, ◌∙◌, subst, arith}
use Rattle.std.proofs.lemmas.List.{with_items_is}
use Rattle.assembly_tree.specs.declared.assembly.Super.{Super}
use Rattle.assembly_tree.specs.MergeTables.{IsMerging}
use Rattle.assembly_tree.proofs.merges.merged.Goals as goal

pub returns : goal.returns
returns c =
    let copy = c.extend_from_slice.new.self in
    let same : c.deref_mut.result.now ≡ c.args.supers.now = c.deref_mut.ensures.value
    ∙ c.in_ok-extend_from_slice.ensures.items ∙ ap (λ (xs : List Super). xs ++ c.args.supers.now) c.new-new.ensures.items in
    let m = rw same at c.merge.ensures in
    let len : length c.merge.new.supers ≡ copy.len = omega (arith, m.len, ap length same, c.deref_mut.ensures.len) in
    subst (λ (xs : List Super). IsMerging c.args.zeros c.args.supers.now xs (length c.args.supers.now))
    (sym (with_items_is copy c.merge.new.supers len)) m
