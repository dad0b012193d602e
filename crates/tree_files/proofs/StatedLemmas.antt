-- What a reader that took all lines holds.
use Rattle.std.proofs.Common.{◌≡◌, ℕ, ◌+◌, true, eqb, List, [], ◌∷◌, ◌++◌, length, take, map, sym, ap, subst, ◌∙◌, arith}
use Rattle.std.proofs.Math.Seq.{take-append_seam}
use Rattle.std.proofs.lemmas.Bool.{eqb-true}
use Rattle.mp_text.specs.declared.layout.Layout.TheVariants.{Commented}
use Rattle.mp_text.specs.Text.{Row}
use Rattle.mp_text.specs.Ahead.{rows_of_bytes, past_of_bytes}
use Rattle.mp_text.specs.Grammar.{IsWellFormed}
use Rattle.tree_files.specs.TreeFile.{tree_format, node_count, node_of, tree_version, nodes_stated, is_tree_complete}
use Rattle.tree_files.specs.Reader.{ReaderState, TookNodes, staged_took, took}
use Rattle.tree_files.specs.Stated.{AreStated}
use Rattle.trees.specs.Judged.{AreNodesWithin}
use Rattle.tree_files.specs.declared.stage.Stage.{Stage}
use Rattle.tree_files.specs.declared.stage.Stage.TheVariants as stages
use Rattle.tree_files.proofs.FormLemmas.{complete, well_formed_within}

module _ (header counted last : Row) (rows : List Row) (whole : length rows ≡ node_count counted) where
  all : List Row
  all = header ∷ counted ∷ (rows ++ last ∷ [])

  stated_is : nodes_stated all ≡ map (node_of (tree_version header)) rows
  unfolding all
  stated_is =
      ap (map (node_of (tree_version header))) (ap (λ (n : ℕ). take n (rows ++ last ∷ [])) (sym whole) ∙ take-append_seam rows (last ∷ []))

  whole_stated : (bytes : List ℕ) (s : ReaderState) → rows_of_bytes Commented bytes ≡ header ∷ counted ∷ (rows ++ last ∷ [])
      → IsWellFormed tree_format (rows_of_bytes Commented bytes) (past_of_bytes bytes)
      → TookNodes s header counted rows → AreStated bytes s.nodes
  unfolding all
  whole_stated bytes s rows_are form taken =
      let within = well_formed_within (rows_of_bytes Commented bytes) (past_of_bytes bytes) form in
      let nodes_are : s.nodes ≡ nodes_stated (rows_of_bytes Commented bytes) = taken.nodes ∙ sym (ap nodes_stated rows_are ∙ stated_is) in
      let kept : AreNodesWithin s.nodes = subst AreNodesWithin (sym nodes_are) within in
      record {
        form = form;
        nodes_are = nodes_are;
        within = kept;
      }

staged_stated : (bytes : List ℕ) (stage : Stage) (s : ReaderState)
    → IsWellFormed tree_format (rows_of_bytes Commented bytes) (past_of_bytes bytes)
    → staged_took stage s (rows_of_bytes Commented bytes) → AreStated bytes s.nodes
staged_stated bytes stages.Header s form taken = absurd (cc (sym (ap is_tree_complete taken.0) ∙ complete _ _ form))
staged_stated bytes stages.Count s form taken = absurd (cc (sym (ap is_tree_complete taken.rows_are) ∙ complete _ _ form))
staged_stated bytes stages.Nodes s form taken =
    let whole : (eqb (length taken.node_rows) (node_count taken.counted + 1)) ≡ true =
    sym (ap is_tree_complete taken.rows_are) ∙ complete _ _ form in
    absurd (let w = taken.nodes.within in omega (arith, eqb-true _ _ whole, w))
staged_stated bytes stages.Ended s form taken =
    whole_stated taken.header taken.counted taken.last taken.node_rows taken.whole bytes s taken.rows_are form taken.nodes

pub took_stated : (bytes : List ℕ) (s : ReaderState) → IsWellFormed tree_format (rows_of_bytes Commented bytes) (past_of_bytes bytes)
    → took s (rows_of_bytes Commented bytes) → AreStated bytes s.nodes
took_stated bytes s form taken = staged_stated bytes s.stage s form taken
