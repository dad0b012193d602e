use Rattle.std.proofs.Common.{◌≡◌, ◌++◌, drop}
use Rattle.hill_valley.specs.Numbers.{segments_listed}
use Rattle.plan_claims.specs.Levels.{wanted_each}
use Rattle.plan_claims.proofs.Loops.{Places}
use Rattle.plan_claims.proofs.beside.wants_each.Given as goal

abbrev pub invariant-loop-part : goal.invariant-loop-part
invariant-loop-part l = record {
  places : Places l.parts l.part-index l.gone l.at;
  told : l.todo.items ++ wanted_each l.wanted l.over l.rest (drop l.part-index l.parts) (drop l.at (segments_listed l.gone))
      ≡ l.fn.todo.items ++ wanted_each l.wanted l.over l.rest l.parts (segments_listed l.gone);
}
