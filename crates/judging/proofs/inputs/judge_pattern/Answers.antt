use Rattle.std.proofs.Common.{ℕ, List, [], ◌∷◌, ◌++◌, inl}
use Rattle.std.specs.Prelude.{codes}
use Rattle.matrix_files.specs.Kinds.{word_of}
use Rattle.matrix_files.specs.MatrixFile.{RefusesPattern}
use Rattle.judging.specs.Files.{IsFirstRefusal, IsRefusedFile}
use Rattle.judging.specs.Judged.{IsMatrixRead}
use Rattle.requests.specs.Request.{ordering_files}
use Rattle.requests.specs.RequestViews.{ordered_matrix_view}
use Rattle.judging.specs.declared.inputs.OrderedPattern.{OrderedPattern}
use Rattle.judging.proofs.StepLemmas.{passed, alone_told, alone_stop, stop_before, over_both, told_same}
use Rattle.judging.proofs.InputLemmas.{matrix_at, ordering_stop}
use Rattle.judging.proofs.inputs.judge_pattern.Goals as goal

pub returns-in_err-pattern-clause-judged : goal.returns-in_err-pattern-clause-judged
returns-in_err-pattern-clause-judged g c =
    let m = ordered_matrix_view c.args.matrix in
    let told = g.F.Files.bytes_of c.args.files.now in
    let before = g.F.Files.faults_of c.args.files.now in
    let after = g.F.Files.faults_of c.judge.new.files in
    let e = c.in_err-pattern.field-0.0 in
    passed c.from_residual.result _ _ e c.from_residual.ensures.1
    (stop_before told before after (matrix_at m.ordering m.name ∷ []) (ordering_files m.ordering) e
    (alone_stop told before after (matrix_at m.ordering m.name)
    (λ (text : List ℕ). IsRefusedFile (codes "matrix") word_of (RefusesPattern text) text)
    (IsFirstRefusal (matrix_at m.ordering m.name ∷ []) []) (λ text answer refused. inl (inl refused)) e c.in_err-pattern.ensures.judged))

pub returns-in_err-order-clause-judged : goal.returns-in_err-order-clause-judged
returns-in_err-order-clause-judged g c =
    let m = ordered_matrix_view c.args.matrix in
    let told = g.F.Files.bytes_of c.args.files.now in
    let now = g.F.Files.bytes_of c.judge.new.files in
    let before = g.F.Files.faults_of c.args.files.now in
    let then = g.F.Files.faults_of c.judge.new.files in
    let after = g.F.Files.faults_of c.judge_ordering.new.files in
    let e = c.in_err-order.field-0.0 in
    passed c.from_residual-in_err-order.result _ _ e c.from_residual-in_err-order.ensures.1
    (ordering_stop told now c.in_ok-pattern.ensures.same before then after c.in_ok-pattern.ensures.later m.name c.in_ok-pattern.pattern
    c.in_ok-pattern.ensures.judged m.ordering e c.in_err-order.ensures.judged)

pub returns-clause-judged : goal.returns-clause-judged
returns-clause-judged g c =
    let m = ordered_matrix_view c.args.matrix in
    let told = g.F.Files.bytes_of c.args.files.now in
    let now = g.F.Files.bytes_of c.judge.new.files in
    let read : OrderedPattern = record { pattern = c.in_ok-pattern.pattern; order = c.in_ok-order.order } in
    over_both told (matrix_at m.ordering m.name ∷ []) (ordering_files m.ordering) (λ texts. IsMatrixRead m.ordering texts read)
    (λ one two are more. alone_told told (matrix_at m.ordering m.name) (λ texts. IsMatrixRead m.ordering (texts ++ two) read)
    (λ text is. (
      c.in_ok-pattern.ensures.judged text is,
      c.in_ok-order.ensures.judged two (told_same told now c.in_ok-pattern.ensures.same (ordering_files m.ordering) two more),
    )) one are)
