use Rattle.fence_files.specs.FenceFile.{stated}
use Rattle.fence_files.proofs.reader.read_fences.Goals as goal

pub read_with-requires : goal.read_with-requires
unfolding stated
read_with-requires c = c.new.ensures
