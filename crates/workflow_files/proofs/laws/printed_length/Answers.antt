use Rattle.file_frame.specs.declared.version.Version.TheVariants.{Two}
use Rattle.workflow_files.specs.WorkflowText.{workflow_version_for}
use Rattle.workflow_files.proofs.LengthLemmas.{printed-within}
use Rattle.workflow_files.proofs.laws.printed_length.Goals as goal

pub returns-clause-text : goal.returns-clause-text
returns-clause-text c = λ positions terms. printed-within (workflow_version_for positions) positions terms

pub returns-clause-text_2 : goal.returns-clause-text_2
returns-clause-text_2 c = printed-within Two
