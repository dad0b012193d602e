use Rattle.shared_graph_files.specs.EitherVersion.{is_second}
use Rattle.shared_graph_files.proofs.EitherLemmas.{read_or_refused, not_both, one_system, one_refusal}
use Rattle.shared_graph_files.proofs.laws.exactly_one.Goals as goal

pub returns-clause-some : goal.returns-clause-some
returns-clause-some c bytes = read_or_refused c.exactly_one.ensures.some c.exactly_one-2.ensures.some (is_second bytes) bytes

pub returns-clause-not_both : goal.returns-clause-not_both
returns-clause-not_both c bytes = not_both c.exactly_one.ensures.not_both c.exactly_one-2.ensures.not_both (is_second bytes) bytes

pub returns-clause-one_graph : goal.returns-clause-one_graph
returns-clause-one_graph c bytes = one_system c.exactly_one-2.ensures.one_graph (is_second bytes) bytes

pub returns-clause-one_refusal : goal.returns-clause-one_refusal
returns-clause-one_refusal c bytes =
    one_refusal c.exactly_one.ensures.not_both c.exactly_one.ensures.one_refusal c.exactly_one-2.ensures.one_refusal (is_second bytes) bytes
