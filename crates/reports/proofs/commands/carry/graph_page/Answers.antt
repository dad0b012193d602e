use Rattle.std.proofs.Common.{ℕ, List, length, map, sym, subst, inl}
use Rattle.std.proofs.lemmas.Result.{IfOk-weaker}
use Rattle.graphs.specs.Graph.{own_system}
use Rattle.mp_system.specs.Renaming.{name_in}
use Rattle.sp_terms.specs.Values.{term_of}
use Rattle.shared_systems.specs.OneReader.{shared_of}
use Rattle.shared_systems.specs.Shared.{SharedTaskSystem}
use Rattle.shared_systems.specs.SharedTraversal.{IsSharedTraversal}
use Rattle.shared_reduce.specs.SharedTerm.{told}
use Rattle.judging.specs.Pages.{answer_of}
use Rattle.reports.specs.Carry.{IsCarriedAnswer}
use Rattle.reports.proofs.CarryLemmas.{own_told, own_answer}
use Rattle.reports.proofs.commands.carry.graph_page.Goals as goal

pub term_page-requires : goal.term_page-requires
term_page-requires c = λ given.
    let graph = c.args.graph.now in
    let names = c.in-Ok.reduced.names.items in
    let order = c.args.order.now in
    let named = (c.named_term_law.ensures.traversal graph names (term_of c.in-Ok.reduced.terms) order c.in-Ok.ensures.reduced).0 given in
    subst (λ (s : SharedTaskSystem). IsSharedTraversal s (told (length s.tasks) names order)) (sym c.in_ok-system-in-Ok.ensures)
    (subst (λ (o : List ℕ). IsSharedTraversal (shared_of (own_system graph)) o) (sym (own_told graph names order named))
    ((c.one_reader_law.ensures.traversal (own_system graph) (map (name_in names) order)).1 named))

pub returns-in_ok-system-in-Ok : goal.returns-in_ok-system-in-Ok
returns-in_ok-system-in-Ok c =
    let graph = c.args.graph.now in
    let terms = c.in-Ok.reduced.terms in
    let names = c.in-Ok.reduced.names.items in
    let order = c.args.order.now in
    let has = c.in-Ok.ensures.reduced in
    IfOk-weaker c.term_page.result _ _
    (λ page is. inl (
      terms,
      names,
      c.keeps.ensures,
      has,
      own_answer graph names (term_of terms) order (answer_of page)
          (c.named_term_law.ensures.traversal graph names (term_of terms) order has).0
          (subst (λ (s : SharedTaskSystem). IsCarriedAnswer (term_of terms) (told (length s.tasks) names) s order (answer_of page))
          c.in_ok-system-in-Ok.ensures is),
    )) c.term_page.ensures
