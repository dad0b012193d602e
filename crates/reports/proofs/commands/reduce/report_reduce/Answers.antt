use Rattle.std.proofs.Common.{ℕ, List, [], ◌∷◌, refl, inl}
use Rattle.std.specs.Prelude.{codes}
use Rattle.graph_files.specs.Kinds.{word_of as graph_word}
use Rattle.shared_graph_files.specs.EitherVersion.{RefusesSharedGraph}
use Rattle.judging.specs.Files.{IsRefusedFile, IsFirstRefusal}
use Rattle.judging.specs.Pages.{answer_of}
use Rattle.reports.specs.Reduce.{IsReduceOf}
use Rattle.requests.specs.Request.{NamedFile, shared_graph_file}
use Rattle.judging.proofs.StepLemmas.{passed, alone_told, alone_stop}
use Rattle.reports.proofs.commands.reduce.report_reduce.Goals as goal

pub returns-in_err-stated-clause-told : goal.returns-in_err-stated-clause-told
returns-in_err-stated-clause-told g c =
    let told = g.F.Files.bytes_of c.args.files.now in
    let before = g.F.Files.faults_of c.args.files.now in
    let after = g.F.Files.faults_of c.judge.new.files in
    let e = c.in_err-stated.field-0.0 in
    let file : NamedFile = record { role = shared_graph_file; name = c.args.name.now } in
    let refuses = λ (text : List ℕ). IsRefusedFile (codes "graph") graph_word (RefusesSharedGraph text) text in
    passed c.from_residual.result _ _ e c.from_residual.ensures.1
    (alone_stop told before after file refuses (IsFirstRefusal (file ∷ []) [])
    (λ text answer refused. inl refused) e c.in_err-stated.ensures.judged)

pub returns-clause-told : goal.returns-clause-told
returns-clause-told g c =
    let file : NamedFile = record { role = shared_graph_file; name = c.args.name.now } in
    let stated = c.in_ok-stated.stated in
    let answer = answer_of c.in_ok-either_page.field-0 in
    alone_told (g.F.Files.bytes_of c.args.files.now) file (λ texts. IsReduceOf texts answer)
    (λ text is. (text, stated, refl, c.in_ok-stated.ensures.judged text is, c.in_ok-either_page.ensures))
