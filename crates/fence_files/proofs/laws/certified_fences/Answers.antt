use Rattle.fence_files.proofs.Certified.{printable}
use Rattle.fence_files.proofs.laws.certified_fences.Goals as goal

pub returns : goal.returns
returns c = λ system certificate is certifies. printable system certificate is certifies (c.count_law.ensures.tasks system)
