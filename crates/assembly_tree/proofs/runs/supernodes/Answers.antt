use Rattle.std.proofs.Common.{◌≡◌, ℕ, length, map, List, sym, ap, ◌∙◌, subst, arith, Vec, Global}
use Rattle.std.proofs.lemmas.List.{with_items_is, length-map}
use Rattle.std.specs.Vec.{with_items}
use Rattle.assembly_tree.specs.declared.assembly.Super.{Super}
use Rattle.assembly_tree.specs.Assembly.{super_of, reparented, IsAssembly}
use Rattle.assembly_tree.specs.Supernodes.{AreSupernodes}
use Rattle.assembly_tree.proofs.SupernodeLemmas.{are_supernodes, are_assembly, parents_within}
use Rattle.assembly_tree.proofs.runs.supernodes.Goals as goal

-- the supernodes once their parents are named
named : (supers : Vec Super Global) (nodes stated : List ℕ) (old new : List Super) → old ≡ supers.items → stated ≡ nodes
    → new ≡ map (reparented (super_of stated)) old → (with_items supers new).items ≡ map (reparented (super_of nodes)) supers.items
named supers nodes stated old new from by is =
    let all : new ≡ map (reparented (super_of nodes)) supers.items = rw (← from, ← by) is in
    with_items_is supers new (omega (arith, ap length all, length-map supers.items (reparented (super_of nodes)), supers.ok)) ∙ all

pub name_parents-requires : goal.name_parents-requires
name_parents-requires c =
    let made = c.in_ok-supers.field-0 in
    rw (c.deref_mut.ensures.value, c.deref-2.ensures.value)
    (parents_within c.args.parents.now c.args.counts.now made.supers.items
    made.nodes.items c.in_ok-children.ensures.forest c.in_ok-supers.ensures)

pub of-requires : goal.of-requires
of-requires c =
    let made = c.in_ok-supers.field-0 in
    let is = named made.supers made.nodes.items c.deref-2.result.now c.deref_mut.result.now
    c.name_parents.new.supers c.deref_mut.ensures.value c.deref-2.ensures.value c.name_parents.ensures in
    let are = are_supernodes c.args.parents.now c.args.counts.now made.supers.items
    made.nodes.items c.in_ok-children.ensures.forest c.in_ok-supers.ensures in
    subst (λ (xs : List Super). IsAssembly (record { supers = xs; nodes = made.nodes.items })) (sym is)
    (are_assembly c.args.parents.now c.args.counts.now _ c.in_ok-children.ensures.forest c.requires are)

pub returns : goal.returns
returns c =
    let made = c.in_ok-supers.field-0 in
    let is = named made.supers made.nodes.items c.deref-2.result.now c.deref_mut.result.now
    c.name_parents.new.supers c.deref_mut.ensures.value c.deref-2.ensures.value c.name_parents.ensures in
    subst (AreSupernodes c.args.parents.now c.args.counts.now) (sym c.of.ensures)
    (subst (λ (xs : List Super). AreSupernodes c.args.parents.now c.args.counts.now (record { supers = xs; nodes = made.nodes.items }))
    (sym is) (are_supernodes c.args.parents.now c.args.counts.now made.supers.items
    made.nodes.items c.in_ok-children.ensures.forest c.in_ok-supers.ensures))
