use Rattle.std.proofs.Common.{ℕ, List, Option, sym, ap, subst, option_map}
use Rattle.std.specs.Prelude.{codes}
use Rattle.permutations.specs.Perm.{IsPerm}
use Rattle.matrix_files.specs.PermFile.{RefusesPerm}
use Rattle.judging.specs.Files.{IsRefusedFile}
use Rattle.judging.specs.Judged.{IsStop, IsRefusedRanking}
use Rattle.matrix_files.specs.OrderKinds.{perm_word}
use Rattle.requests.specs.Request.{priority_files}
use Rattle.judging.proofs.StepLemmas.{passed, alone_stop}
use Rattle.judging.proofs.inputs.judge_priority.Goals as goal

pub returns-in_err-perm-clause-judged : goal.returns-in_err-perm-clause-judged
returns-in_err-perm-clause-judged g c = λ role.
    let told = g.F.Files.bytes_of c.args.files.now in
    let before = g.F.Files.faults_of c.args.files.now in
    let after = g.F.Files.faults_of c.judge.new.files in
    let e = c.in_err-perm.field-0.0 in
    passed c.from_residual.result _ _ e c.from_residual.ensures.1
    (subst (λ (name : Option (List ℕ)). IsStop told before after (priority_files role name) (IsRefusedRanking c.args.n) e)
    (sym (ap (option_map (λ s. s.now)) c.in-Some.is))
    (alone_stop told before after (record { role = role; name = c.in-Some.name.now })
    (λ (text : List ℕ). IsRefusedFile (codes "priority") perm_word (RefusesPerm c.args.n text) text)
    (IsRefusedRanking c.args.n) (λ text answer refused. refused) e c.in_err-perm.ensures.judged))

pub returns-clause-each : goal.returns-clause-each
returns-clause-each g c =
    let read = c.in_ok-perm.ensures.read in
    subst (IsPerm c.args.n) (sym c.in_ok-listed.ensures) (c.read_is_perm.ensures c.args.n read.0 c.in_ok-perm.perm read.1)
