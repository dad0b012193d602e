-- A sink over a writer, as contracts see it.
use Rattle.std.specs.Prelude.{ℕ, List, Option}

-- the bytes that the writer holds, where it tells them, and the count of faults
pub record WriterState : Type 0 where
  pub contents : Option (List ℕ)
  pub faults : ℕ
