use Rattle.std.proofs.Common.{◌≡◌, ◌+◌, ◌-◌, sym, ap, ◌∙◌, arith}
use Rattle.assembly_tree.specs.Supernodes.{first_of}
use Rattle.rounds_run.specs.FrontRows.{rows_of_front}
use Rattle.rounds_run.proofs.RowLists.{Laws}
use Rattle.rounds_run.proofs.SuperRows.{rows_from}
use Rattle.rounds_run.proofs.laws.columns_of_front.Goals as goal

pub returns : goal.returns
returns c = λ joined n assembly s j pattern inside own super low high.
    let laws : Laws joined n = record {
      pattern = pattern;
      inside = inside;
      later = c.no_earlier_row.ensures joined;
      children = λ i k vertex. c.structure_by_children.ensures joined n i k pattern inside vertex;
      paths = λ i k lt. c.path_theorem.ensures joined i k pattern lt;
    } in
    let supers = assembly.supers in
    let k = j - first_of supers s in
    let at : first_of supers s + k ≡ j = omega (arith, low) in
    ap (rows_of_front joined n) (sym at) ∙ rows_from joined n laws supers assembly.nodes own s k super (omega (arith, at, high))
