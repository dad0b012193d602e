-- What stands at a position, as an objection names it.
use Rattle.std.specs.Prelude.{ℕ, ◌-◌, ◌&&◌, nat_le, length, List, codes, if◌then◌else◌, slice_index_or}
use Rattle.sp_terms.specs.declared.position.Position.{Position}
use Rattle.sp_terms.specs.declared.position.Position.TheVariants as at
use Rattle.claim_check.specs.declared.shape.Shape.{Shape}
use Rattle.claim_check.specs.declared.shape.Shape.TheVariants as shapes

-- the word for it in reports
abbrev pub word_of : Shape → List ℕ
word_of shapes.Hold = codes "data"
word_of shapes.Series = codes "series"
word_of shapes.Par = codes "par"
word_of shapes.Outside = codes "outside"

abbrev pub position_shape : Position → Shape
position_shape (at.Hold size) = shapes.Hold
position_shape (at.Task extra share time) = shapes.Series
position_shape (at.Par k) = shapes.Par

-- the positions of a term are counted from 1
abbrev pub shape_at : List Position → ℕ → Shape
shape_at ps k = if nat_le 1 k && nat_le k (length ps) then position_shape (slice_index_or ps (k - 1) (at.Hold 0)) else shapes.Outside
