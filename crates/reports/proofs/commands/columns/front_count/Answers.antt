use Rattle.std.proofs.Common.{ap, length, arith}
use Rattle.assembly_tree.proofs.FrontLemmas.{supers_few}
use Rattle.reports.proofs.commands.columns.front_count.Goals as goal

pub overflow_cast-result : goal.overflow_cast-result
overflow_cast-result c =
    let few = supers_few c.args.assembly.now c.supers.ensures.assembly in
    let all = ap length c.supers.ensures.value in
    omega arith
