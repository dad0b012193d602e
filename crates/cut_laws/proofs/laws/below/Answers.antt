use Rattle.cut_laws.proofs.laws.below.Goals as goal

pub returns : goal.returns
returns c = record {
  sides = c.all.ensures;
  terms = record {
    first = c.state_law.ensures.first;
    least = c.state_law.ensures.least;
    traversal = c.run_law.ensures.traversal;
    way = c.run_law.ensures.way;
    cut = c.run_law.ensures.cut;
    joined = c.run_law.ensures.joined;
    back = c.way_law.ensures.back;
    ways_joined = c.way_law.ensures.joined;
    each = c.way_law.ensures.each;
    least_after = c.value_law.ensures.each;
  };
  rules = c.rule_law.ensures;
}
