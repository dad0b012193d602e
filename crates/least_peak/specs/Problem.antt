-- What a tree or a workflow says of its tasks.
use Rattle.std.specs.Prelude.{◌≡◌, List}
use Rattle.mp_system.specs.System.{TaskSystem}
use Rattle.sp_terms.specs.declared.position.Position.{Position}
use Rattle.sp_terms.specs.SystemOfTerm.{system_of_term}
use Rattle.sp_terms.specs.Values.{term_of}
use Rattle.trees.specs.Forest.{Forest, IsForestOf}
use Rattle.trees.specs.Tree.{system_of_nodes}
use Rattle.trees.specs.TreeTerm.{forest_positions}
use Rattle.least_peak.specs.declared.problem.Origin.{Origin}
use Rattle.least_peak.specs.declared.problem.Origin.TheVariants as origins

-- its tasks, and what they hand to each other
abbrev pub system_of : Origin → TaskSystem
system_of (origins.Tree nodes) = system_of_nodes nodes
system_of (origins.Workflow positions) = system_of_term (term_of positions)

-- the positions of its term: a workflow's own; a tree's are those of its forest, children in rising number
abbrev pub IsTermOf : Origin → List Position → Type 0
IsTermOf (origins.Tree nodes) positions = (forest : Forest) × IsForestOf nodes forest × (positions ≡ forest_positions nodes forest)
IsTermOf (origins.Workflow own) positions = positions ≡ own
