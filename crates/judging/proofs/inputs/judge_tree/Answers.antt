use Rattle.std.proofs.Common.{ℕ, List, [], ◌∷◌, inl, sym, subst}
use Rattle.std.specs.Prelude.{codes}
use Rattle.tree_files.specs.Kinds.{word_of}
use Rattle.tree_files.specs.TreeFile.{RefusesTree}
use Rattle.judging.specs.Files.{IsTreeFile, IsTreeOf, IsRefusedFile, IsFirstRefusal}
use Rattle.judging.specs.Judged.{AreJudged}
use Rattle.requests.specs.Request.{NamedFile, tree_file, tree_named, tree_input_files}
use Rattle.requests.specs.RequestViews.{tree_input_view}
use Rattle.requests.specs.declared.request.TreeInput.{TreeInput}
use Rattle.judging.proofs.StepLemmas.{alone_judged}
use Rattle.judging.proofs.inputs.judge_tree.Goals as goal

pub returns-in-Tree-clause-judged : goal.returns-in-Tree-clause-judged
returns-in-Tree-clause-judged g c =
    let told = g.F.Files.bytes_of c.args.files.now in
    let before = g.F.Files.faults_of c.args.files.now in
    let after = g.F.Files.faults_of c.judge.new.files in
    let file : NamedFile = record { role = tree_file; name = c.in-Tree.name.now } in
    subst (λ (input : TreeInput). AreJudged told before after (tree_input_files (tree_input_view input))
    (IsTreeOf (tree_input_view input)) (IsFirstRefusal (tree_input_files (tree_input_view input)) []) c.judge.result)
    (sym c.in-Tree.is)
    (alone_judged told before after file IsTreeFile (λ (text : List ℕ). IsRefusedFile (codes "tree") word_of (RefusesTree text) text)
    (IsTreeOf (tree_named c.in-Tree.name.now)) (IsFirstRefusal (file ∷ []) [])
    (λ text x is. is) (λ text answer refused. inl refused) c.judge.result c.judge.ensures.judged)
