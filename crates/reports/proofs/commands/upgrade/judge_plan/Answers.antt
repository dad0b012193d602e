use Rattle.std.proofs.Common.{ℕ, List, [], ◌∷◌, length, sym, subst, inl, option_map}
use Rattle.std.specs.Prelude.{codes}
use Rattle.plan_files.specs.Kinds.{word_of as plan_word}
use Rattle.plans.specs.Plan.{PlanValue}
use Rattle.plan_files.specs.PlanFile.{RefusesPlan}
use Rattle.judging.specs.Files.{IsRefusedFile, IsFirstRefusal}
use Rattle.judging.specs.Judged.{IsStop, IsPriorityOf, IsRefusedRanking, IsRanking}
use Rattle.requests.specs.Request.{plan_upgrade, plan_priority_file, priority_files}
use Rattle.reports.specs.Upgrade.{IsUpgradedFrom, plan_value}
use Rattle.judging.specs.declared.inputs.Priority.TheVariants.{Own, Given}
use Rattle.judging.proofs.StepLemmas.{passed, alone_stop, stop_before, stop_after, told_same}
use Rattle.reports.proofs.SimulationLemmas.{few_priority}
use Rattle.reports.proofs.UpgradeLemmas.{ranked, plan_at, plan_accepted, plan_ranks_refused, upgraded_plan}
use Rattle.reports.proofs.commands.upgrade.judge_plan.Goals as goal

pub returns-in_err-plan-clause-judged : goal.returns-in_err-plan-clause-judged
returns-in_err-plan-clause-judged g c =
    let told = g.F.Files.bytes_of c.args.files.now in
    let before = g.F.Files.faults_of c.args.files.now in
    let after = g.F.Files.faults_of c.judge.new.files in
    let e = c.in_err-plan.field-0.0 in
    let file = plan_at c.args.name.now in
    let given = option_map (λ s. s.now) c.args.priority in
    let refuses = λ (text : List ℕ). IsRefusedFile (codes "plan") plan_word (RefusesPlan text) text in
    passed c.from_residual.result _ _ e c.from_residual.ensures.1
    (stop_before told before after (file ∷ []) (priority_files plan_priority_file given) e
    (alone_stop told before after file refuses (IsFirstRefusal (file ∷ []) [])
    (λ text answer refused. inl refused) e c.in_err-plan.ensures.judged))

pub returns-in_err-judge_priority-clause-judged : goal.returns-in_err-judge_priority-clause-judged
returns-in_err-judge_priority-clause-judged g c =
    let told = g.F.Files.bytes_of c.args.files.now in
    let now = g.F.Files.bytes_of c.judge.new.files in
    let before = g.F.Files.faults_of c.args.files.now in
    let then = g.F.Files.faults_of c.judge.new.files in
    let after = g.F.Files.faults_of c.judge_priority.new.files in
    let e = c.in_err-judge_priority.field-0.0 in
    let name = c.args.name.now in
    let given = option_map (λ s. s.now) c.args.priority in
    let more = priority_files plan_priority_file given in
    let plan = c.in_ok-plan.plan in
    let is_plan = c.in_ok-plan.ensures.judged in
    passed c.from_residual-in_err-judge_priority.result _ _ e c.from_residual-in_err-judge_priority.ensures.1
    (stop_after told now c.in_ok-plan.ensures.same before
    then after c.in_ok-plan.ensures.later (plan_at name ∷ []) (plan_accepted told name plan is_plan)
    more (few_priority plan_priority_file given) (IsRefusedRanking (length plan.order))
    (λ one two answer are are_more refused. plan_ranks_refused told name plan is_plan given one two answer are are_more refused) e
    (subst (λ (order : List ℕ). IsStop now then after more (IsRefusedRanking (length order)) e) c.order.ensures.value
    (c.in_err-judge_priority.ensures.judged plan_priority_file)))

pub with_priority-requires : goal.with_priority-requires
with_priority-requires g c =
    let plan = c.in_ok-plan.plan in
    ranked (length plan.order) c.in-Given.numbers.items
    (subst (IsRanking (length plan.order)) c.in-Given.is
    (subst (λ (order : List ℕ). IsRanking (length order) c.in_ok-judge_priority.field-0)
    c.order.ensures.value c.in_ok-judge_priority.ensures.each))

pub returns-in-Own-clause-judged : goal.returns-in-Own-clause-judged
returns-in-Own-clause-judged g c =
    let told = g.F.Files.bytes_of c.args.files.now in
    let now = g.F.Files.bytes_of c.judge.new.files in
    let given = option_map (λ s. s.now) c.args.priority in
    let more = priority_files plan_priority_file given in
    let plan = c.in_ok-plan.plan in
    upgraded_plan told c.args.name.now plan c.in_ok-plan.ensures.judged given Own
    (λ texts are. subst (IsPriorityOf given (length plan.order) texts) c.in-Own.is
    (subst (λ (order : List ℕ). IsPriorityOf given (length order) texts c.in_ok-judge_priority.field-0) c.order.ensures.value
    (c.in_ok-judge_priority.ensures.judged plan_priority_file texts (told_same told now c.in_ok-plan.ensures.same more texts are))))

pub returns-in-Given-clause-judged : goal.returns-in-Given-clause-judged
returns-in-Given-clause-judged g c =
    let told = g.F.Files.bytes_of c.args.files.now in
    let now = g.F.Files.bytes_of c.judge.new.files in
    let name = c.args.name.now in
    let given = option_map (λ s. s.now) c.args.priority in
    let more = priority_files plan_priority_file given in
    let plan = c.in_ok-plan.plan in
    λ texts are. subst (λ (p : PlanValue). IsUpgradedFrom (plan_upgrade name given) texts (plan_value p)) (sym c.with_priority.ensures)
    (upgraded_plan told name plan c.in_ok-plan.ensures.judged given (Given c.in-Given.numbers)
    (λ ts told_more. subst (IsPriorityOf given (length plan.order) ts) c.in-Given.is
    (subst (λ (order : List ℕ). IsPriorityOf given (length order) ts c.in_ok-judge_priority.field-0) c.order.ensures.value
    (c.in_ok-judge_priority.ensures.judged plan_priority_file ts (told_same told now c.in_ok-plan.ensures.same more ts told_more))))
    texts are)
