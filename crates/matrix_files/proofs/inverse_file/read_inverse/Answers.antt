use Rattle.std.proofs.Common.{ap, ◌∙◌}
use Rattle.matrix_files.specs.InverseFile.{inverse_of}
use Rattle.matrix_files.proofs.inverse_file.read_inverse.Goals as goal

pub returns : goal.returns
returns c =
    let reads = c.in_ok-places.ensures in
    record { form = reads.form; stated = c.in_ok-inverse.ensures ∙ ap inverse_of reads.stated }
