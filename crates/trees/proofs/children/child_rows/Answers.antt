use Rattle.std.proofs.Common.{◌∙◌, ap, ◌+◌, ◌<◌, List, ℕ, length, arith, map}
use Rattle.std.proofs.lemmas.List.Elements.{All-same}
use Rattle.row_table.specs.Rows.{numbers_with}
use Rattle.trees.specs.Children.{parent_in}
use Rattle.trees.proofs.ChildLemmas.{parents_within, rows-children}
use Rattle.trees.proofs.children.child_rows.Goals as goal

pub group-requires-clause-below : goal.group-requires-clause-below
group-requires-clause-below c =
    All-same (λ key. key < length c.args.nodes.now + 1) c.deref.result.now
    (map parent_in c.args.nodes.now) (c.deref.ensures.value ∙ c.in_ok-parents.ensures)
    (parents_within c.args.nodes.now c.requires.parents)

pub returns : goal.returns
returns c = record {
  len = c.in_ok-rows.ensures.len;
  rows_are = λ p le. c.in_ok-rows.ensures.rows p (omega (arith, le))
      ∙ ap (λ (keys : List ℕ). numbers_with keys 1 p) (c.deref.ensures.value ∙ c.in_ok-parents.ensures)
      ∙ rows-children c.args.nodes.now c.numbers_law.ensures.filtered p;
}
