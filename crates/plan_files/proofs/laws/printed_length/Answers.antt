use Rattle.file_frame.specs.declared.version.Version.TheVariants.{Two}
use Rattle.plan_files.specs.Printed.{plan_version_for}
use Rattle.plan_files.proofs.LengthLemmas.{printed-within}
use Rattle.plan_files.proofs.laws.printed_length.Goals as goal

pub returns-clause-text : goal.returns-clause-text
returns-clause-text c = λ plan is. printed-within (plan_version_for plan.priority) plan is

pub returns-clause-text_2 : goal.returns-clause-text_2
returns-clause-text_2 c = printed-within Two
