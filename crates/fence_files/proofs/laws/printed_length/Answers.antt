use Rattle.fence_files.proofs.LengthLemmas.{printed-within}
use Rattle.fence_files.proofs.laws.printed_length.Goals as goal

pub returns : goal.returns
returns c = printed-within
