use Rattle.std.proofs.Common.{◌∙◌, ◌+◌, ap, length, arith}
use Rattle.std.proofs.lemmas.Grind.{get_or_default_zero}
use Rattle.std.proofs.lemmas.Result.{IfOk-weaker}
use Rattle.assembly_tree.proofs.FrontLemmas.{supers_few}
use Rattle.equivalent_orders.proofs.Listing.{listed, row_is}
use Rattle.equivalent_orders.proofs.columns.columns_by_front.Goals as goal

pub overflow_cast-count : goal.overflow_cast-count
overflow_cast-count c =
    let few = supers_few c.args.assembly.now c.supers.ensures.assembly in
    let all = ap length c.supers.ensures.value in
    omega arith

pub overflow_add-count : goal.overflow_add-count
overflow_add-count c =
    let few = supers_few c.args.assembly.now c.supers.ensures.assembly in
    let all = ap length c.supers.ensures.value in
    omega arith

pub group-requires-clause-below : goal.group-requires-clause-below
group-requires-clause-below c = λ k d lt.
    let known = listed c.args.assembly.now c.deref.result.now (c.deref.ensures.value ∙ c.in_ok-fronts.ensures) in
    let at = known.1 k lt in
    let len = known.0 in
    let within = (c.supers.ensures.assembly.nodes (1 + k) (omega arith, omega arith)).1 in
    let same = get_or_default_zero c.deref.result.now k d lt in
    let all = ap length c.supers.ensures.value in
    omega arith

pub group-requires-clause-fits : goal.group-requires-clause-fits
group-requires-clause-fits c =
    let known = listed c.args.assembly.now c.in_ok-fronts.fronts.items c.in_ok-fronts.ensures in
    let few = c.supers.ensures.assembly.few in
    let all = ap length c.deref.ensures.value in
    let len = known.0 in
    omega arith

pub returns-clause-rows : goal.returns-clause-rows
returns-clause-rows c =
    let all = ap length c.supers.ensures.value in
    IfOk-weaker c.group.result _ _
    (λ rows is. λ s le. is s (omega arith) ∙ row_is c.numbers_law.ensures.filtered c.args.assembly.now c.deref.result.now
    (c.deref.ensures.value ∙ c.in_ok-fronts.ensures) s) c.group.ensures.rows
