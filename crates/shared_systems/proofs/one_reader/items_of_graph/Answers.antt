use Rattle.std.proofs.Common.{List, length, map, ap, ◌∙◌, arith}
use Rattle.graphs.specs.declared.arc.Arc.{Arc}
use Rattle.graphs.specs.Graph.{item_of_arc}
use Rattle.shared_systems.specs.OneReader.{shared_item_of}
use Rattle.shared_systems.proofs.OneReaderItems.{made-stored, arc-next, arcs-made, arcs-few, few-arcs}
use Rattle.shared_systems.proofs.one_reader.items_of_graph.Goals as goal

pub push_item-requires : goal.push_item-requires
push_item-requires c =
    let l = c.loop-arc in
    omega (
      arith,
      c.loop-arc-test.true,
      arcs-few c.arcs-arcs.result.now l.arc-index l.entries.items l.readers.items l.invariant,
      ap (λ (arcs : List Arc). length arcs) c.arcs-arcs.ensures.value,
      few-arcs c.args.graph.now c.arcs-arcs.ensures.graph,
    )

pub loop-arc-preserved : goal.loop-arc-preserved
loop-arc-preserved c =
    let l = c.loop-arc in
    arc-next l.entries.items c.push_item.new.entries.items l.readers.items c.push_item.new.readers.items c.arcs-arcs.result.now l.arc-index
    c.loop-arc-test.true l.invariant c.in_ok-push_item.ensures.readers c.in_ok-push_item.ensures.entries

pub of_entries-requires : goal.of_entries-requires
of_entries-requires c = made-stored _ _ _ c.loop-arc.invariant

pub returns : goal.returns
returns c =
    let l = c.loop-arc in
    arcs-made l.entries.items l.readers.items c.of_entries.result c.of_entries.ensures
    c.arcs-arcs.result.now l.arc-index c.loop-arc-test.false l.invariant
    ∙ ap (λ (arcs : List Arc). map shared_item_of (map item_of_arc arcs)) c.arcs-arcs.ensures.value
