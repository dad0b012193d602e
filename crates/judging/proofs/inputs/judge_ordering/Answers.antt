use Rattle.std.proofs.Common.{◌∙◌, ℕ, List, length, sym, ap, subst}
use Rattle.std.proofs.lemmas.List.FromFn.{length-range_with_len}
use Rattle.std.specs.Prelude.{codes}
use Rattle.matrix_files.specs.OrderKinds.{perm_word}
use Rattle.matrix_files.specs.PermFile.{RefusesPerm}
use Rattle.matrix_files.specs.InverseFile.{RefusesInverse}
use Rattle.judging.specs.Files.{IsOrderOf, IsPermFile, IsInverseFile, IsRefusedFile}
use Rattle.judging.specs.Judged.{AreJudged, IsRefusedOrder}
use Rattle.requests.specs.Request.{perm_named, perm_file, inverse_named, inverse_file, ordering_files}
use Rattle.requests.specs.RequestViews.{ordering_view}
use Rattle.requests.specs.declared.request.Ordering.{Ordering}
use Rattle.judging.proofs.StepLemmas.{alone_judged}
use Rattle.judging.proofs.inputs.judge_ordering.Goals as goal

pub returns-in_ok-identity-in-Natural-clause-len : goal.returns-in_ok-identity-in-Natural-clause-len
returns-in_ok-identity-in-Natural-clause-len g c =
    ap length c.in_ok-identity-in-Natural.ensures.order ∙ length-range_with_len 1 c.rows-n.result ∙ c.rows-n.ensures.value

pub returns-in-Perm-clause-judged : goal.returns-in-Perm-clause-judged
returns-in-Perm-clause-judged g c =
    let told = g.F.Files.bytes_of c.args.files.now in
    let before = g.F.Files.faults_of c.args.files.now in
    let after = g.F.Files.faults_of c.judge.new.files in
    let rows = c.args.pattern.now in
    let n = c.rows-n.result in
    let name = c.in-Perm.name.now in
    subst (λ (o : Ordering). AreJudged told before after (ordering_files (ordering_view o))
    (IsOrderOf (ordering_view o) rows) (IsRefusedOrder (ordering_view o) rows) c.judge.result)
    (sym c.in-Perm.is)
    (alone_judged told before after (record { role = perm_file; name = name }) (λ (text order : List ℕ). IsPermFile n text order)
    (λ (text : List ℕ). IsRefusedFile (codes "perm") perm_word (RefusesPerm n text) text)
    (IsOrderOf (perm_named name) rows) (IsRefusedOrder (perm_named name) rows)
    (λ text order is. subst (λ (k : ℕ). IsPermFile k text order) c.rows-n.ensures.value is)
    (λ text answer refused.
    subst (λ (k : ℕ). IsRefusedFile (codes "perm") perm_word (RefusesPerm k text) text answer) c.rows-n.ensures.value refused)
    c.judge.result c.judge.ensures.judged)

pub returns-in-Inverse-clause-judged : goal.returns-in-Inverse-clause-judged
returns-in-Inverse-clause-judged g c =
    let told = g.F.Files.bytes_of c.args.files.now in
    let before = g.F.Files.faults_of c.args.files.now in
    let after = g.F.Files.faults_of c.judge-in-Inverse.new.files in
    let rows = c.args.pattern.now in
    let n = c.rows-n.result in
    let name = c.in-Inverse.name.now in
    subst (λ (o : Ordering). AreJudged told before after (ordering_files (ordering_view o))
    (IsOrderOf (ordering_view o) rows) (IsRefusedOrder (ordering_view o) rows) c.judge-in-Inverse.result)
    (sym c.in-Inverse.is)
    (alone_judged told before after (record { role = inverse_file; name = name }) (λ (text order : List ℕ). IsInverseFile n text order)
    (λ (text : List ℕ). IsRefusedFile (codes "iperm") perm_word (RefusesInverse n text) text)
    (IsOrderOf (inverse_named name) rows) (IsRefusedOrder (inverse_named name) rows)
    (λ text order is. subst (λ (k : ℕ). IsInverseFile k text order) c.rows-n.ensures.value is)
    (λ text answer refused.
    subst (λ (k : ℕ). IsRefusedFile (codes "iperm") perm_word (RefusesInverse k text) text answer) c.rows-n.ensures.value refused)
    c.judge-in-Inverse.result c.judge-in-Inverse.ensures.judged)
