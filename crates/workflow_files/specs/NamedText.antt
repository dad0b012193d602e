-- The workflow file of a term whose tasks have names: the file of the term, and after its last line a comment with the name of each task.
-- A task of a graph's term has its number in the graph for a name.
use Rattle.std.specs.Prelude.{ℕ, List, [], ◌∷◌, ◌++◌, map, codes}
use Rattle.std.specs.Fmt.{decimal}
use Rattle.std.specs.List.{enumerate_from}
use Rattle.mp_text.specs.Report.{text_of_lines}
use Rattle.sp_terms.specs.declared.position.Position.{Position}
use Rattle.workflow_files.specs.WorkflowText.{workflow_text}

-- `# K NAME`: task K of the term has the name NAME
abbrev pub name_line : ℕ × ℕ → List (List ℕ)
name_line p = codes "#" ∷ decimal p.0 ∷ decimal p.1 ∷ []

abbrev pub name_lines : List ℕ → List (List (List ℕ))
name_lines names = map name_line (enumerate_from 1 names)

abbrev pub named_text : List Position → List ℕ → List ℕ
named_text positions names = workflow_text positions ++ text_of_lines (name_lines names)
