-- No public clause names this.
-- What is known of the system that the lines of a file of version 2 state, before its order and its shares are judged. The format itself
-- stands in SharedGraphFile.antt.
use Rattle.std.specs.Prelude.{◌≡◌, ℕ, List}
use Rattle.shared_systems.specs.Shared.{SharedTaskSystem}
use Rattle.shared_systems.specs.Judged.{IsPlainShared}
use Rattle.shared_graph_files.specs.SharedGraphFile.{HasSecondForm, system_stated_by}

pub record IsStated (bytes : List ℕ) (system : SharedTaskSystem) : Type 0 where
  pub form : HasSecondForm bytes
  pub system_is : system ≡ system_stated_by bytes
  pub plain : IsPlainShared system
