use Rattle.std.proofs.Common.{◌≡◌, drop, find}
use Rattle.std.specs.Str.{bytes_eq}
use Rattle.command_line.specs.Views.{shapes_view}
use Rattle.command_line.proofs.shape.shape_of.Given as goal

abbrev pub invariant-loop-shape : goal.invariant-loop-shape
invariant-loop-shape l =
    find (λ s. bytes_eq s.name l.name) (shapes_view l.shapes)
    ≡ find (λ s. bytes_eq s.name l.name) (shapes_view (drop l.shape-index l.shapes))
