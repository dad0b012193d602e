use Rattle.std.proofs.Common.{◌≡◌, ℕ, Bool, List, refl, sym, ap, subst}
use Rattle.sp_terms.specs.Values.{term_of}
use Rattle.reports.specs.Reports.{IsReport}
use Rattle.judging.specs.Files.{Answer}
use Rattle.shared_graph_files.specs.declared.either.EitherGraph.TheVariants.{Items}
use Rattle.shared_graph_files.specs.EitherVersion.{StatesAs}
use Rattle.reports.specs.Reduce.{are_second}
use Rattle.reports.specs.Promises.{done_answer}
use Rattle.requests.specs.Request.{Request, replay, tree, post, check, planning, simulate, demo, upgrade, spill, segments, fronts, reduce}
use Rattle.requests.specs.Request.{check_fences, check_graph, plan_graph, bounding, fencing, planned_fencing, standing, columns, carrying}
use Rattle.judging.specs.declared.status.Status.TheVariants.{Done}
use Rattle.reports.proofs.RunLemmas.{report_when_done, report_of_rest}
use Rattle.reports.proofs.SoundAnswer.{certified, best, simulated}
use Rattle.reports.proofs.BoundLemmas.{bounded, bound_certified}
use Rattle.reports.proofs.FenceLemmas.{fenced, fences_certified}
use Rattle.reports.proofs.PlannedFenceLemmas.{fenced_within}
use Rattle.reports.proofs.StandingLemmas.{bounded_as_it_stands}
use Rattle.reports.proofs.GraphPlanLemmas.{graph_planned}
use Rattle.reports.proofs.UpgradeLemmas.{upgraded}
use Rattle.reports.proofs.SpillLemmas.{spilled_tasks}
use Rattle.reports.proofs.StairsLemmas.{reached}
use Rattle.reports.proofs.ReductionLemmas.{says_reduced}
use Rattle.reports.proofs.laws.what_answers_say.Goals as goal

-- the report of an answer that is done
done_report : (request : Request) (texts : List (List ℕ)) (answer : Answer) → IsReport request texts answer → answer.status ≡ Done
    → IsReport request texts (done_answer answer.text)
done_report request texts answer report done =
    subst (IsReport request texts) (ap (λ s. record { status = s; text = answer.text }) done) report

pub returns : goal.returns
returns c (replay input source) texts answer possible is = λ done.
    done_report (replay input source) texts answer (report_when_done (replay input source) texts answer is done) done
returns c (tree matrix) texts answer possible is =
    λ done. done_report (tree matrix) texts answer (report_when_done (tree matrix) texts answer is done) done
returns c (columns matrix source format) texts answer possible is = λ done.
    c.one_columns.ensures.said matrix source format texts answer.text
    (done_report (columns matrix source format) texts answer (report_when_done (columns matrix source format) texts answer is done) done)
returns c (post input) texts answer possible is =
    λ done. done_report (post input) texts answer (report_when_done (post input) texts answer is done) done
returns c (check input plan workers) texts answer possible is = λ done.
    certified (λ i ts nodes of_tree. (c.one_input.ensures.tree i ts nodes nodes of_tree of_tree).1)
    c.tree_term.ensures.terms c.tree_term.ensures.system
    c.read_law.ensures c.terms_law.ensures.denotes c.accepted_law.ensures.own c.accepted_law.ensures.renamed
    input texts answer (report_when_done (check input plan workers) texts answer is done) done
returns c (check_graph graph plan workers) texts answer possible is = λ done.
    bound_certified c.read_law-3.ensures c.accepted_law-2.ensures.bound c.accepted_law-2.ensures.least
    texts answer (report_when_done (check_graph graph plan workers) texts answer is done) done
returns c (check_fences tasks fences) texts answer possible is = λ done.
    fences_certified c.shared_tasks.ensures c.certificate_law.ensures.bound c.certificate_law.ensures.goes_on
    tasks texts answer (report_when_done (check_fences tasks fences) texts answer is done) done
returns c (planning input format) texts answer possible is = λ done.
    best (λ i ts nodes of_tree. (c.one_input.ensures.tree i ts nodes nodes of_tree of_tree).1)
    c.tree_term.ensures.terms c.tree_term.ensures.system
    c.read_law.ensures c.terms_law.ensures.denotes c.accepted_law.ensures.own
    c.accepted_law.ensures.renamed c.printed_plan.ensures.text c.printed_length.ensures.text
    input format texts answer (report_when_done (planning input format) texts answer is done)
returns c (plan_graph graph order effort format) texts answer possible is = λ done.
    graph_planned c.read_law-3.ensures c.accepted_law-2.ensures.bound c.printed_plan-2.ensures c.printed_length-2.ensures
    order format texts answer (report_when_done (plan_graph graph order effort format) texts answer is done) done
returns c (simulate tasks source simulation) texts answer possible is = λ done.
    simulated c.one_input.ensures.tasks c.schedule_law.ensures.legal c.schedule_law.ensures.each_once c.schedule_law.ensures.within
    tasks source simulation texts answer possible (report_when_done (simulate tasks source simulation) texts answer is done) done
returns c (fencing tasks source f) texts answer possible is = λ done.
    fenced c.shared_tasks.ensures c.certificate_law.ensures.bound c.certificate_law.ensures.goes_on
    tasks source f texts answer (report_when_done (fencing tasks source f) texts answer is done) done
returns c (planned_fencing tasks f) texts answer possible is = λ done.
    fenced_within c.shared_tasks.ensures c.certificate_law.ensures.bound c.certificate_law.ensures.goes_on
    tasks f texts answer (report_when_done (planned_fencing tasks f) texts answer is done) done
returns c (standing tasks workers) texts answer possible is = λ done.
    bounded_as_it_stands c.shared_tasks.ensures c.certificate_law.ensures.bound c.certificate_law.ensures.goes_on
    tasks workers texts answer (report_when_done (standing tasks workers) texts answer is done) done
returns c (demo made) texts answer possible is =
    λ done. c.one_demo.ensures.shown made answer possible (report_when_done (demo made) texts answer is done)
returns c (upgrade file) texts answer possible is = λ done.
    upgraded c.one_upgrade.ensures.file file texts answer (report_when_done (upgrade file) texts answer is done)
returns c (spill tasks source bound) texts answer possible is = λ done.
    spilled_tasks tasks source bound texts answer (report_when_done (spill tasks source bound) texts answer is done) done
returns c (segments input) texts answer possible is = λ done.
    reached c.one_staircase.ensures.each (λ i ts ps ks of_term. (c.one_input.ensures.numbered i ts ps ps ks ks of_term of_term).2)
    input texts answer (report_when_done (segments input) texts answer is done) done
returns c (fronts matrix bound workers) texts answer possible is = λ done.
    c.one_fronts.ensures.factored matrix bound workers texts answer
    (report_when_done (fronts matrix bound workers) texts answer is done) done
returns c (reduce name) texts answer possible is =
    says_reduced (record {
      read = c.read_law-2.ensures;
      denotes = c.terms_law.ensures.denotes;
      traversal = c.named_term_law.ensures.traversal;
      peak = c.named_term_law.ensures.peak;
      least = c.named_term_law.ensures.least;
      reads = λ graph positions names is terms has. c.named_workflow.ensures.reads positions names terms
          (c.names_law.ensures.few graph names (term_of positions) is has)
          (c.names_law.ensures.within graph names (term_of positions) is has);
      short = λ graph positions names is terms has. c.named_workflow.ensures.length positions names terms
          (c.names_law.ensures.few graph names (term_of positions) is has)
          (c.names_law.ensures.within graph names (term_of positions) is has);
    }) (record {
      read = λ bytes system reads second. c.read_law-3.ensures bytes system
          (c.either_law.ensures bytes (Items system) (subst (λ (b : Bool). StatesAs b bytes (Items system)) (sym second) reads));
      denotes = c.terms_law.ensures.denotes;
      traversal = c.told_term_law.ensures.traversal;
      peak = c.told_term_law.ensures.peak;
      back = c.told_term_law.ensures.back;
      least = c.told_term_law.ensures.least;
      reads = λ system positions names is terms term. c.named_workflow.ensures.reads positions names terms
          (c.names_law-2.ensures.few system names (term_of positions) is term)
          (c.names_law-2.ensures.within system names (term_of positions) is term);
      short = λ system positions names is terms term. c.named_workflow.ensures.length positions names terms
          (c.names_law-2.ensures.few system names (term_of positions) is term)
          (c.names_law-2.ensures.within system names (term_of positions) is term);
    }) texts answer (are_second texts) refl
    (report_when_done (reduce name) texts answer is) (report_of_rest (reduce name) texts answer is)
returns c (carrying graph source) texts answer possible is = λ done.
    c.carried_orders.ensures source texts answer (report_when_done (carrying graph source) texts answer is done) done
returns c (bounding graph order effort) texts answer possible is = λ done.
    bounded c.read_law-3.ensures c.evidence_law.ensures.bound order texts answer
    (report_when_done (bounding graph order effort) texts answer is done) done
