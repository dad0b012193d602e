-- How the program ends with a status: its exit code, and the line on standard error.
use Rattle.std.specs.Prelude.{ℕ, List, Option, Some, None, codes}
use Rattle.judging.specs.declared.status.Status.{Status}
use Rattle.judging.specs.declared.status.Status.TheVariants.{Done, No, Usage, Format, Limit, Bound, ReadFault, WriteFault, NoMemory}
use Rattle.judging.specs.declared.status.Status.TheVariants.{NotSeriesParallel, WorkingSet}

abbrev pub exit_code_of : Status → ℕ
exit_code_of Done = 0
exit_code_of No = 1
exit_code_of Usage = 2
exit_code_of Format = 3
exit_code_of Limit = 4
exit_code_of Bound = 5
exit_code_of ReadFault = 6
exit_code_of WriteFault = 7
exit_code_of NoMemory = 8
exit_code_of NotSeriesParallel = 9
exit_code_of WorkingSet = 10

abbrev pub complaint_of : Status → Option (List ℕ)
complaint_of Usage = Some (codes "memplan: usage")
complaint_of ReadFault = Some (codes "memplan: read fault")
complaint_of WriteFault = Some (codes "memplan: write fault")
complaint_of NoMemory = Some (codes "memplan: no memory")
complaint_of ended = None
