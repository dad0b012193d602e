use Rattle.std.proofs.Common.{◌≡◌, ℕ, List, subst, sym}
use Rattle.patterns.specs.Pattern.{is_joined}
use Rattle.permutations.specs.Perm.{IsVertex, place_of}
use Rattle.elim_tree.specs.Postorders.{IsPostordered}
use Rattle.symbolic.specs.FrontTree.{IsAnalysis}
use Rattle.equivalent_orders.specs.FrontPostorders.{fronts_along}
use Rattle.equivalent_orders.specs.Fronts.{front_of_vertex}
use Rattle.c_calls.specs.Columns.{new_order}
use Rattle.c_calls.proofs.ColumnsAlong.{AnalysisLaws, adjacency, along, front_postorder, new_is, order_once, topological, within}
use Rattle.c_calls.proofs.laws.columns_of_analysis.Goals as goal

pub returns : goal.returns
returns c =
    let laws : AnalysisLaws = record {
      len = c.one_analysis.ensures.len;
      tree = c.one_analysis.ensures.tree;
      pattern = c.pattern_of_rows.ensures.pattern;
      within = c.pattern_of_rows.ensures.within;
      postordered = c.topological_order_of_another.ensures.postorder;
      merged = c.amalgamation_is_assembly.ensures;
      relaxes = c.amalgamation_is_relaxed.ensures;
      along = c.columns_in_arrays.ensures.along;
      counted = c.columns_in_arrays.ensures.counted;
      orders = c.front_orders.ensures;
      topological = c.columns_of_fronts.ensures;
      postorders = c.subtrees_in_a_row.ensures;
    } in record {
      along = along laws;
      topological = topological laws;
      same_fill = λ m options nodes front_of columns fronts is traversal u v vu vv.
          c.topological_orders.ensures.columns (is_joined is.rows) is.order (new_order m columns front_of fronts)
          (adjacency laws m options nodes front_of columns fronts is) (within laws m options nodes front_of columns fronts is)
          (order_once laws m options nodes front_of columns fronts is)
          (topological laws m options nodes front_of columns fronts is traversal)
          u v (subst (λ (n : ℕ). IsVertex n u) (sym is.is_matrix.perm.len) vu)
          (subst (λ (n : ℕ). IsVertex n v) (sym is.is_matrix.perm.len) vv);
      same_fronts = λ m options nodes front_of columns fronts is traversal two second analysis u v vu vv.
          c.same_fronts.ensures is.rows is.order (new_order m columns front_of fronts) is.perm two is.have_fronts.assembly second
          is.is_matrix.pattern.pattern is.is_matrix.perm (topological laws m options nodes front_of columns fronts is traversal)
          is.have_fronts.analysis analysis u v vu vv;
      kept = λ m options nodes front_of columns fronts is none post.
          subst (λ (new : List ℕ). IsPostordered (is_joined is.rows) new new)
          (sym (new_is laws m options nodes front_of columns fronts is none post))
          (c.fronts_in_postorder.ensures.kept is.rows is.order is.perm fronts is.have_fronts.assembly is.is_matrix.pattern.pattern
          is.is_matrix.perm is.have_fronts.analysis (front_postorder laws m options nodes front_of columns fronts is none post));
      own = λ m options nodes front_of columns fronts is none post.
          subst (λ (new : List ℕ). IsAnalysis is.rows new new (fronts_along is.have_fronts.assembly fronts))
          (sym (new_is laws m options nodes front_of columns fronts is none post))
          (c.fronts_in_postorder.ensures.own is.rows is.order is.perm fronts is.have_fronts.assembly is.is_matrix.pattern.pattern
          is.is_matrix.perm is.have_fronts.analysis (front_postorder laws m options nodes front_of columns fronts is none post));
      in_turn = λ m options nodes front_of columns fronts is none post v vertex.
          subst (λ (new : List ℕ). front_of_vertex new (fronts_along is.have_fronts.assembly fronts) v
          ≡ place_of fronts (front_of_vertex is.perm is.have_fronts.assembly v))
          (sym (new_is laws m options nodes front_of columns fronts is none post))
          (c.fronts_in_postorder.ensures.in_turn is.rows is.order is.perm fronts is.have_fronts.assembly is.is_matrix.pattern.pattern
          is.is_matrix.perm is.have_fronts.analysis (front_postorder laws m options nodes front_of columns fronts is none post) v vertex);
    }
