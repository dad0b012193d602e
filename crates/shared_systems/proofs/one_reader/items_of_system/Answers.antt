use Rattle.std.proofs.Common.{List, length, map, get_or, ap, sym, subst, ◌∙◌, arith}
use Rattle.mp_system.specs.declared.system.Item.{Item}
use Rattle.mp_system.specs.System.{IsItemWithin}
use Rattle.std.specs.Prelude.{All}
use Rattle.shared_systems.specs.OneReader.{shared_item_of}
use Rattle.shared_systems.proofs.OneReaderItems.{made-stored, item-next, items-made, items-few, numbered, no_single}
use Rattle.shared_systems.proofs.one_reader.items_of_system.Goals as goal

pub push_item-requires : goal.push_item-requires
push_item-requires c =
    let l = c.loop-item in
    omega (
      arith,
      c.loop-item-test.true,
      items-few c.items-items.result.now l.item-index l.entries.items l.readers.items l.invariant,
      ap (λ (xs : List Item). length xs) c.items-items.ensures.value,
      c.items-items.ensures.system.few_items,
    )

pub loop-item-preserved : goal.loop-item-preserved
loop-item-preserved c =
    let l = c.loop-item in
    let each = subst (All (IsItemWithin c.args.system.now)) (sym c.items-items.ensures.value) c.items-items.ensures.system.items in
    item-next l.entries.items c.push_item.new.entries.items l.readers.items c.push_item.new.readers.items
    c.items-items.result.now l.item-index c.unwrap_or-from.result c.unwrap_or-reader.result
    c.loop-item-test.true l.invariant (λ r e. ((each l.item-index no_single c.loop-item-test.true).consumer r e).0)
    c.unwrap_or-from.ensures c.unwrap_or-reader.ensures c.in_ok-push_item.ensures.readers c.in_ok-push_item.ensures.entries

pub of_entries-requires : goal.of_entries-requires
of_entries-requires c = made-stored _ _ _ c.loop-item.invariant

pub returns : goal.returns
returns c =
    let l = c.loop-item in
    let each = subst (All (IsItemWithin c.args.system.now)) (sym c.items-items.ensures.value) c.items-items.ensures.system.items in
    items-made l.entries.items l.readers.items c.of_entries.result c.of_entries.ensures
    c.items-items.result.now l.item-index c.loop-item-test.false l.invariant
    (λ i d lt. numbered (get_or c.items-items.result.now i d).from (λ u e. ((each i d lt).producer u e).0))
    ∙ ap (map shared_item_of) c.items-items.ensures.value
