use Rattle.std.proofs.Common.{◌≡◌, Result, Ok, Err, IfOk, sym, ap, ◌∙◌}
use Rattle.assembly_tree.specs.Amalgamation.{amalgamated}
use Rattle.assembly_tree.specs.MergeTables.{AreNames, left_of}
use Rattle.assembly_tree.specs.Assembly.{AssemblyTree}
use Rattle.assembly_tree.proofs.AmalgamationLemmas.{merged_few, merged_parents, merged_nodes, merged_assembly, standing, amalgamated_is}
use Rattle.assembly_tree.proofs.merges.amalgamate.Goals as goal

pub renumber-requires-clause-few : goal.renumber-requires-clause-few
renumber-requires-clause-few c = rw c.deref.ensures.value
    (merged_few c.args.zeros c.args.assembly.now c.supers.ensures.assembly c.in_ok-supers.supers.items
    (rw c.supers.ensures.value at c.in_ok-supers.ensures))

pub renumber-requires-clause-parents : goal.renumber-requires-clause-parents
renumber-requires-clause-parents c = rw c.deref.ensures.value
    (merged_parents c.args.zeros c.args.assembly.now c.supers.ensures.assembly c.in_ok-supers.supers.items
    (rw c.supers.ensures.value at c.in_ok-supers.ensures))

pub renumber-requires-clause-nodes : goal.renumber-requires-clause-nodes
renumber-requires-clause-nodes c =
    let nodes = c.deref-2.ensures.value ∙ ap (λ (a : AssemblyTree). a.nodes) c.assembly.view_is in
    rw (c.deref.ensures.value, nodes)
    (merged_nodes c.args.zeros c.args.assembly.now c.supers.ensures.assembly c.in_ok-supers.supers.items
    (rw c.supers.ensures.value at c.in_ok-supers.ensures))

pub renumber-requires-clause-assembly : goal.renumber-requires-clause-assembly
renumber-requires-clause-assembly c =
    let nodes = c.deref-2.ensures.value ∙ ap (λ (a : AssemblyTree). a.nodes) c.assembly.view_is in
    rw (c.deref.ensures.value, nodes)
    (merged_assembly c.args.zeros c.args.assembly.now c.supers.ensures.assembly c.in_ok-supers.supers.items
    (rw c.supers.ensures.value at c.in_ok-supers.ensures))

weaken : {T E : Type 0} (r : Result T E) (P Q : T → Type 0) → ((x : T) → P x → Q x) → IfOk r P → IfOk r Q
weaken {T} {E} (Ok x) P Q more h = more x h
weaken {T} {E} (Err e) P Q more h = tt

pub returns : goal.returns
returns c =
    let nodes = c.deref-2.ensures.value ∙ ap (λ (a : AssemblyTree). a.nodes) c.assembly.view_is in
    let m = rw c.supers.ensures.value at c.in_ok-supers.ensures in
    let st = standing c.args.zeros c.args.assembly.now c.supers.ensures.assembly c.in_ok-supers.supers.items m in
    let names : AreNames c.deref.result.now st.name = rw c.deref.ensures.value st.names in
    let end : left_of st.name c.deref.result.now c.deref-2.result.now ≡ amalgamated c.args.zeros c.args.assembly.now =
    rw (c.deref.ensures.value, nodes)
    (sym (amalgamated_is c.args.zeros c.args.assembly.now c.supers.ensures.assembly c.in_ok-supers.supers.items m)) in
    weaken c.renumber.result _ _ (λ made all. all st.name names ∙ end) c.renumber.ensures
