use Rattle.std.proofs.Common.{◌≡◌, ℕ, List, Some, subst}
use Rattle.std.proofs.lemmas.Result.{MatchResult-weaker, MatchResult-at_ok}
use Rattle.judging.specs.Files.{IsWithinBytes}
use Rattle.judging.proofs.StepLemmas.{passed}
use Rattle.judging.proofs.FileLemmas.{too_long, refused}
use Rattle.judging.proofs.files.judge.Goals as goal

pub returns-in_err-text-clause-judged : goal.returns-in_err-text-clause-judged
returns-in_err-text-clause-judged g c =
    let kind = c.args.kind.now in
    let e = c.in_err-text.field-0.0 in
    passed c.from_residual.result _ _ e c.from_residual.ensures.1
    (too_long (g.K.FileKind.file_word kind) g.K.Kind.Kind.word_of (g.K.FileKind.refuses kind)
    (g.F.Files.bytes_of c.args.files.now) (g.F.Files.faults_of c.args.files.now)
    (g.F.Files.faults_of c.load.new.files) c.args.name.now c.word-word.result.now c.word-word.ensures.word e c.in_err-text.ensures.stop)

pub returns-clause-judged : goal.returns-clause-judged
returns-clause-judged g c =
    let kind = c.args.kind.now in
    let text = c.in_ok-text.text.items in
    let tells : (told : List ℕ) → g.F.Files.bytes_of c.args.files.now c.args.name.now ≡ Some told → (text ≡ told) × IsWithinBytes told =
    λ told holds. c.in_ok-text.ensures.told told holds in
    MatchResult-weaker c.taken.result c.taken.ensures
    (λ value is. λ told holds. let t = tells told holds in
    (t.1, subst (λ (b : List ℕ). g.K.FileKind.reads kind b value) t.0 (MatchResult-at_ok _ _ value is c.read-read.ensures)))
    (λ e is. refused (g.K.FileKind.file_word kind) g.K.Kind.Kind.word_of (g.K.FileKind.refuses kind)
    (g.F.Files.bytes_of c.args.files.now) (g.F.Files.faults_of c.args.files.now)
    (g.F.Files.faults_of c.load.new.files) c.args.name.now text tells c.read-read.result _ c.read-read.ensures e
    (rw (← c.word-word.ensures.word) is))
