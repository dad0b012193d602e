use Rattle.file_frame.proofs.PrintedLaws.{AreLaws}
use Rattle.workflow_files.specs.WorkflowText.{workflow_version_for}
use Rattle.workflow_files.proofs.LengthLemmas.{printed-room}
use Rattle.workflow_files.proofs.PrintedLemmas.{commented-reads}
use Rattle.workflow_files.proofs.laws.commented_workflow.Goals as goal

pub returns-clause-reads : goal.returns-clause-reads
returns-clause-reads c =
    let number = c.printed_number.ensures in
    let file = c.printed_file.ensures in
    let laws : AreLaws = record {
      token = number.token;
      value = number.value;
      values = number.values;
      signed_token = number.signed_token;
      signed_value = number.signed_value;
      counted = number.counted;
      rows = file.rows;
      parts = file.parts;
      count = file.count;
    } in
    commented-reads laws c.printed_lines.ensures.parts c.printed_comments.ensures

pub returns-clause-room : goal.returns-clause-room
returns-clause-room c = λ positions terms. printed-room (workflow_version_for positions) positions terms
