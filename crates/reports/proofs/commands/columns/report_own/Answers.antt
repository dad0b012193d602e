use Rattle.std.proofs.Common.{List, [], length, refl, sym, subst}
use Rattle.std.specs.List.{range_with_len}
use Rattle.std.proofs.lemmas.List.{append-nil}
use Rattle.symbolic.specs.FrontTree.{relaxed}
use Rattle.judging.specs.Files.{IsFirstRefusal}
use Rattle.judging.specs.Judged.{IsStop}
use Rattle.judging.specs.Told.{AreTold}
use Rattle.judging.proofs.StepLemmas.{passed}
use Rattle.requests.specs.Request.{NamedFile, matrix_files}
use Rattle.requests.specs.RequestViews.{matrix_view}
use Rattle.reports.proofs.commands.columns.report_own.Goals as goal

pub returns-in_err-read-clause-told : goal.returns-in_err-read-clause-told
returns-in_err-read-clause-told g c =
    let e = c.in_err-read.field-0.0 in
    let told = g.F.Files.bytes_of c.args.files.now in
    let before = g.F.Files.faults_of c.args.files.now in
    let after = g.F.Files.faults_of c.judge_pattern.new.files in
    passed c.from_residual.result _ _ e c.from_residual.ensures.1
    (subst (λ (files : List NamedFile). IsStop told before after files (IsFirstRefusal files []) e)
    (sym (append-nil (matrix_files (matrix_view c.args.matrix)))) c.in_err-read.ensures.judged)

pub returns-clause-told : goal.returns-clause-told
returns-clause-told g c = λ texts are.
    let told = g.F.Files.bytes_of c.args.files.now in
    let files = matrix_files (matrix_view c.args.matrix) in
    let read = c.in_ok-read.read in
    let page = c.in_ok-own_page.ensures in (
      texts,
      [],
      read.pattern,
      read.order,
      page.0,
      page.1,
      range_with_len 1 (length (relaxed c.args.matrix.fronts.zeros page.1).supers),
      sym (append-nil texts),
      c.in_ok-read.ensures.judged texts (subst (λ (all : List NamedFile). AreTold told all texts) (append-nil files) are),
      page.2,
      refl,
      page.3,
    )
