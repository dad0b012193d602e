-- No public clause names this.
-- What is known of the graph that the lines of a file state, before its order and its shares are judged. The format itself stands in
-- GraphFile.antt.
use Rattle.std.specs.Prelude.{◌≡◌, ℕ, ◌-◌, List, length, slice_index_or}
use Rattle.mp_text.specs.declared.layout.Layout.TheVariants.{Commented}
use Rattle.mp_text.specs.Ahead.{rows_of_bytes}
use Rattle.graphs.specs.Graph.{TaskGraph, IsAmong}
use Rattle.graphs.specs.Judged.{IsPlain}
use Rattle.graph_files.specs.GraphFile.{HasForm, stated_by}
use Rattle.file_frame.specs.Frame.{line_stating}

pub record IsStated (bytes : List ℕ) (graph : TaskGraph) (lines : List ℕ) : Type 0 where
  pub form : HasForm bytes
  pub graph_is : graph ≡ stated_by bytes
  pub lines_are : (v : ℕ) → IsAmong (length graph.tasks) v →
      slice_index_or lines (v - 1) 0 ≡ line_stating (rows_of_bytes Commented bytes) v
  pub lines_len : length lines ≡ length graph.tasks
  pub plain : IsPlain graph
