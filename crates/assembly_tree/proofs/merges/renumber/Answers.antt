use Rattle.std.proofs.Common.{◌≡◌, ℕ, List, map, filter, slice_index, sym, ap, ◌∙◌, subst}
use Rattle.assembly_tree.specs.declared.assembly.Super.{Super}
use Rattle.assembly_tree.specs.Assembly.{AssemblyTree, IsAssembly, reparented}
use Rattle.assembly_tree.specs.Amalgamation.{is_left}
use Rattle.assembly_tree.specs.MergeTables.{left_of}
use Rattle.assembly_tree.proofs.AmalgamationLemmas.{left_by}
use Rattle.assembly_tree.proofs.merges.renumber.Goals as goal

joins : (kept : List Super) (nodes : List ℕ) (to : AssemblyTree) (left : List Super) (old numbers first second : List ℕ)
    → first ≡ numbers → second ≡ numbers → kept ≡ map (reparented (slice_index first)) left → nodes ≡ map (slice_index second) old
    → (map (reparented (slice_index numbers)) left ≡ to.supers) × (map (slice_index numbers) old ≡ to.nodes)
    → (let made : AssemblyTree = record { supers = kept; nodes = nodes } in made ≡ to)
joins kept nodes to left old numbers first second one two is are whole =
    let a : kept ≡ to.supers = is ∙ ap (λ (t : List ℕ). map (reparented (slice_index t)) left) one ∙ whole.0 in
    let b : nodes ≡ to.nodes = are ∙ ap (λ (t : List ℕ). map (slice_index t) old) two ∙ whole.1 in
    let with_supers : List Super → AssemblyTree = λ ys. record { supers = ys; nodes = nodes } in
    let with_nodes : List ℕ → AssemblyTree = λ ys. record { supers = to.supers; nodes = ys } in
    ap with_supers a ∙ ap with_nodes b

pub of-requires : goal.of-requires
of-requires c =
    let supers = c.args.supers.now in
    let nodes = c.args.nodes.now in
    let numbers = c.in_ok-numbers.numbers.items in
    let name = c.requires.assembly.0 in
    let names = c.requires.assembly.1 in
    let whole = left_by supers nodes numbers name (c.in_ok-numbers.ensures.numbers name names) c.requires.parents c.requires.nodes in
    subst IsAssembly (sym (joins c.in_ok-kept.kept.items c.in_ok-nodes.nodes.items (left_of name supers nodes)
    (filter is_left supers) nodes numbers c.deref.result.now c.deref-2.result.now c.deref.ensures.value
    c.deref-2.ensures.value c.in_ok-kept.ensures c.in_ok-nodes.ensures whole)) c.requires.assembly.2

pub returns : goal.returns
returns c = λ name names.
    let supers = c.args.supers.now in
    let nodes = c.args.nodes.now in
    let numbers = c.in_ok-numbers.numbers.items in
    let whole = left_by supers nodes numbers name (c.in_ok-numbers.ensures.numbers name names) c.requires.parents c.requires.nodes in
    c.of.ensures
    ∙ joins c.in_ok-kept.kept.items c.in_ok-nodes.nodes.items (left_of name supers nodes)
    (filter is_left supers) nodes numbers c.deref.result.now c.deref-2.result.now
    c.deref.ensures.value c.deref-2.ensures.value c.in_ok-kept.ensures c.in_ok-nodes.ensures whole
