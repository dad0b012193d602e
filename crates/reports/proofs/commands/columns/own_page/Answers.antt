use Rattle.std.proofs.Common.{◌≡◌, ◌∙◌, inl, length, ap, ap₂, subst}
use Rattle.std.specs.List.{range_with_len}
use Rattle.std.proofs.lemmas.Result.{IfOk-weaker}
use Rattle.assembly_tree.specs.Assembly.{AssemblyTree, IsAssembly}
use Rattle.symbolic.specs.FrontTree.{relaxed}
use Rattle.requests.specs.RequestViews.{columns_format_view}
use Rattle.reports.specs.Columns.{columns_answer}
use Rattle.reports.proofs.commands.columns.own_page.Goals as goal

pub returns : goal.returns
returns c =
    let made = c.in_ok-made.made in
    let analysis = c.in_ok-made.ensures.analysis in
    let assembly = analysis.0 in
    let same = analysis.2 in
    let merged = relaxed c.args.options.zeros assembly in
    let order = c.own_fronts.ensures.order merged (subst IsAssembly same c.front_count.ensures.assembly) in
    let fronts : c.in_ok-fronts.fronts ≡ range_with_len 1 (length merged.supers) =
    c.in_ok-fronts.ensures.order
    ∙ ap (range_with_len 1) (c.front_count.ensures.value ∙ ap (λ (a : AssemblyTree). length a.supers) same) in
    IfOk-weaker c.columns_page.result _ _ (λ page printed. (
      made.perm,
      assembly,
      analysis.1,
      inl (order, printed ∙ ap₂ (columns_answer (columns_format_view c.args.format) made.perm) same fronts),
    )) c.columns_page.ensures
