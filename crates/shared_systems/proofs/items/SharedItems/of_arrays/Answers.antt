use Rattle.std.proofs.Common.{ℕ, List, length, sym, ap, ◌∙◌}
use Rattle.shared_systems.proofs.StoredItems.{given_is, stored_from}
use Rattle.shared_systems.proofs.items.SharedItems.of_arrays.Goals as goal

pub invariant_of-result : goal.invariant_of-result
invariant_of-result c =
    stored_from c.in_ok-entries.entries.items c.args.items.now c.in_ok-readers.readers.items c.in_ok-entries.ensures
    (c.requires.counts ∙ sym (ap (λ (l : List ℕ). length l) c.in_ok-readers.ensures.items))

pub returns : goal.returns
returns c =
    given_is c.in_ok-entries.entries.items c.args.items.now c.in_ok-readers.readers.items
    c.args.readers.now c.in_ok-entries.ensures c.in_ok-readers.ensures.items
