use Rattle.std.proofs.Common.{◌≡◌, ℕ, List, [], inl, inr}
use Rattle.reports.specs.Reports.{IsAnswer, IsDecided}
use Rattle.judging.specs.Files.{Answer, HasValue, IsRefusedInRole}
use Rattle.requests.specs.Request.{Request, FileRole, IsInRange, files_of}
use Rattle.reports.proofs.OneReport.{Reports, one_report, report_accepted, one_first_refusal, none_refused}
use Rattle.reports.proofs.laws.one_answer.Goals as goal

module _ (r : Reports)
    (not_both : (role : FileRole) (earlier : List (List ℕ)) (text : List ℕ) (answer : Answer)
    → HasValue role earlier text → IsRefusedInRole role earlier text answer → ⊥)
    (one_refusal : (role : FileRole) (earlier : List (List ℕ)) (text : List ℕ) (a b : Answer)
    → IsRefusedInRole role earlier text a → IsRefusedInRole role earlier text b → a ≡ b) where
  one : (request : Request) (texts : List (List ℕ)) (a b : Answer) → IsInRange request
      → IsDecided request → IsAnswer request texts a → IsAnswer request texts b → a ≡ b
  one request texts a b range decided (inl is) (inl is') = one_first_refusal not_both one_refusal (files_of request) [] texts a b is is'
  one request texts a b range decided (inl is) (inr is') =
      absurd (none_refused not_both one_refusal (files_of request) [] texts a (report_accepted r request texts b is') is)
  one request texts a b range decided (inr is) (inl is') =
      absurd (none_refused not_both one_refusal (files_of request) [] texts b (report_accepted r request texts a is) is')
  one request texts a b range decided (inr is) (inr is') = one_report r request texts a b range decided is is'

pub returns : goal.returns
returns c =
    let reports : Reports = record {
      trees = c.one_input.ensures.tree;
      systems = c.one_input.ensures.system;
      task_systems = c.one_input.ensures.tasks;
      terms = c.one_input.ensures.term;
      files = record { orders = c.exactly_one_order.ensures.one_order; plans = c.exactly_one-2.ensures.one_order };
      ranked = c.read_law.ensures;
      perms = c.exactly_one_perm.ensures.one_order;
      perm = c.read_is_perm.ensures;
      plans = c.exactly_one.ensures.one_plan;
      shared_fault = c.order_law.ensures.fault;
      long = c.order_law.ensures.long;
      best = c.one_best_postorder.ensures;
      verdict = c.accepted_or_objected.ensures.one_verdict;
      schedule = c.schedule_law.ensures.one;
      demos = c.one_demo.ensures.one;
      fronts = c.one_fronts.ensures.one;
      columns = c.one_columns.ensures.one;
      upgrades = c.one_upgrade.ensures.one;
      numbered = c.one_input.ensures.numbered;
      stairs = c.one_staircase.ensures.one_of_all;
    } in
    one reports c.one_file.ensures.not_both c.one_file.ensures.one_refusal
