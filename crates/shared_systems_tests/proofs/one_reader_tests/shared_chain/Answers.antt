use Rattle.std.proofs.Common.{[], ◌∷◌}
use Rattle.shared_systems_tests.proofs.one_reader_tests.shared_chain.Goals as goal

pub of_system-requires : goal.of_system-requires
of_system-requires c =
    c.one_reader_system_law.ensures.system c.in-Ok.system (1 ∷ 2 ∷ []) c.keeps.ensures c.in_ok-replay.ensures.peak.0
