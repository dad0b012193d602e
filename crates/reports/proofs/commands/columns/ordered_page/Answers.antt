use Rattle.std.proofs.Common.{◌≡◌, ◌∙◌, Some, inl, inr, ap₂, subst}
use Rattle.std.proofs.lemmas.Result.{IfOk-weaker}
use Rattle.mp_system.specs.Refusal.{IsOrderRefusal}
use Rattle.mp_system.specs.Traversal.{first_fault}
use Rattle.trees.specs.Tree.{system_of_nodes}
use Rattle.assembly_tree.specs.Assembly.{AssemblyTree}
use Rattle.assembly_tree.specs.Fronts.{nodes_of_fronts}
use Rattle.equivalent_orders.specs.Fronts.{IsFrontOrder}
use Rattle.requests.specs.RequestViews.{columns_format_view}
use Rattle.reports.specs.Columns.{columns_answer}
use Rattle.reports.proofs.commands.columns.ordered_page.Goals as goal

pub returns-in-Ok : goal.returns-in-Ok
returns-in-Ok c =
    let made = c.in_ok-made.made in
    let analysis = c.in_ok-made.ensures.analysis in
    let same = analysis.2 in
    let order = c.args.order.now in
    IfOk-weaker c.columns_page.result _ _ (λ page printed. (
      made.perm,
      analysis.0,
      analysis.1,
      inl (
        subst (λ (a : AssemblyTree). IsFrontOrder a.supers order) same c.in-Ok.ensures.before,
        printed ∙ ap₂ (columns_answer (columns_format_view c.args.format) made.perm) same c.in-Ok.ensures.order,
      ),
    )) c.columns_page.ensures

pub returns-in-Err-Order : goal.returns-in-Err-Order
returns-in-Err-Order c =
    let made = c.in_ok-made.made in
    let analysis = c.in_ok-made.ensures.analysis in
    let options = c.args.options in
    let order = c.args.order.now in
    let fault = c.in-Err-Order.fault in
    let refused = subst
    (IsOrderRefusal (system_of_nodes (nodes_of_fronts options.shape options.inplace made.assembly.supers)) order)
    c.in-Err-Order.field-0-is c.in-Err-Order.ensures.fault in
    let page_told = rw c.in-Err-Order.field-0-is at c.order_page.ensures in
    IfOk-weaker c.order_page.result _ _ (λ page told. (
      made.perm,
      analysis.0,
      analysis.1,
      inr (
        fault.place,
        fault.kind,
        subst (λ (a : AssemblyTree). first_fault (system_of_nodes (nodes_of_fronts options.shape options.inplace a.supers)) order
            ≡ Some (fault.place, fault.kind)) analysis.2 refused.0,
        told,
      ),
    )) page_told
