use Rattle.std.proofs.Common.{◌≡◌, ◌++◌, map, take}
use Rattle.fences.specs.JudgedFences.{fence_item}
use Rattle.fences.proofs.fenced.items_of.Given as goal

abbrev pub invariant-loop-fence : goal.invariant-loop-fence
invariant-loop-fence l = l.made.items ≡ l.items ++ map fence_item (take l.fence-index l.fences)
