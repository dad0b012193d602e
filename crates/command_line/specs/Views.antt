-- What the types of the code say, as plain lists.
use Rattle.std.specs.Prelude.{ℕ, List, map}
use Rattle.std.specs.List.{flat_map}
use Rattle.std.specs.Borrow.{Bor}
use Rattle.command_line.specs.Words as words
use Rattle.command_line.specs.declared.shape.Shape.{Shape}

abbrev pub texts : List (Bor (List ℕ)) → List (List ℕ)
texts = map (λ s. s.now)

-- the names of all groups, one group after the other
abbrev pub names_of : List (Bor (List (Bor (List ℕ)))) → List (List ℕ)
names_of = flat_map (λ group. texts group.now)

abbrev pub shape_view : Shape → words.Shape
shape_view shape = record { name = shape.name.now; options = names_of shape.options.now }

abbrev pub shapes_view : List Shape → List words.Shape
shapes_view = map shape_view
