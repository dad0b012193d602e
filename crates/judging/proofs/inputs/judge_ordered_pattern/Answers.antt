use Rattle.std.proofs.Common.{[], ◌∷◌, arith}
use Rattle.judging.specs.Judged.{IsRefusedSource, IsMatrixRead}
use Rattle.requests.specs.Request.{ordered_matrix_files, source_file}
use Rattle.requests.specs.RequestViews.{ordered_matrix_view, source_view}
use Rattle.judging.proofs.StepLemmas.{passed, stop_before, stop_after, told_same}
use Rattle.judging.proofs.InputLemmas.{ordered_accepted, source_refused, ordered}
use Rattle.judging.proofs.inputs.judge_ordered_pattern.Goals as goal

pub returns-in_err-matrix-clause-judged : goal.returns-in_err-matrix-clause-judged
returns-in_err-matrix-clause-judged g c =
    let e = c.in_err-matrix.field-0.0 in
    passed c.from_residual.result _ _ e c.from_residual.ensures.1
    (stop_before (g.F.Files.bytes_of c.args.files.now) (g.F.Files.faults_of c.args.files.now) (g.F.Files.faults_of c.judge_pattern.new.files)
    (ordered_matrix_files (ordered_matrix_view c.args.matrix)) (source_file (source_view c.args.source) ∷ []) e c.in_err-matrix.ensures.judged)

pub returns-in_err-order-clause-judged : goal.returns-in_err-order-clause-judged
returns-in_err-order-clause-judged g c =
    let e = c.in_err-order.field-0.0 in
    let m = ordered_matrix_view c.args.matrix in
    let source = source_view c.args.source in
    let read = c.in_ok-matrix.matrix in
    passed c.from_residual-in_err-order.result _ _ e c.from_residual-in_err-order.ensures.1
    (stop_after (g.F.Files.bytes_of c.args.files.now) (g.F.Files.bytes_of c.judge_pattern.new.files) c.in_ok-matrix.ensures.same
    (g.F.Files.faults_of c.args.files.now) (g.F.Files.faults_of c.judge_pattern.new.files)
    (g.F.Files.faults_of c.judge_order.new.files) c.in_ok-matrix.ensures.later
    (ordered_matrix_files m) (λ texts are. ordered_accepted m texts read.pattern read.order (c.in_ok-matrix.ensures.judged texts are))
    (source_file source ∷ []) (omega arith) (IsRefusedSource source)
    (λ one two answer are more refused. source_refused source one two answer refused) e
    c.in_err-order.ensures.judged)

pub returns-clause-judged : goal.returns-clause-judged
returns-clause-judged g c =
    let told = g.F.Files.bytes_of c.args.files.now in
    let now = g.F.Files.bytes_of c.judge_pattern.new.files in
    let source = source_view c.args.source in
    let m = ordered_matrix_view c.args.matrix in
    let read = c.in_ok-matrix.matrix in
    ordered told (ordered_matrix_files m) (IsMatrixRead m.ordering) source read c.in_ok-order.order
    (λ texts is. ordered_accepted m texts read.pattern read.order is) c.in_ok-matrix.ensures.judged
    (λ texts are. c.in_ok-order.ensures.judged texts (told_same told now c.in_ok-matrix.ensures.same (source_file source ∷ []) texts are))
