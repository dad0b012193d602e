use Rattle.std.proofs.Common.{◌≡◌, ℕ, List, length, map, ap, subst, ◌∙◌, ◌≤◌, arith}
use Rattle.mp_system.specs.Memory.{peak_of}
use Rattle.mp_system.specs.Renaming.{name_in}
use Rattle.sp_terms.specs.SystemOfTerm.{system_of_term}
use Rattle.shared_systems.specs.SharedMemory.{shared_peak_of}
use Rattle.joined_systems.specs.Joined.{without_joins}
use Rattle.shared_reduce.proofs.laws.told_term_law.Goals as goal

pub returns-clause-traversal : goal.returns-clause-traversal
returns-clause-traversal c = λ system names t order is term traversal.
    let within = c.joined_law.ensures.within system term.joined is term.is_joined in
    let named = (c.shared_term_law.ensures.traversal term.joined term.term.lasts names t order within term.term.are_last term.term.has).0
    traversal in
    c.joined_law.ensures.traversal system term.joined (map (name_in names) order) is term.is_joined named

pub returns-clause-peak : goal.returns-clause-peak
returns-clause-peak c = λ system names t order is term traversal.
    let within = c.joined_law.ensures.within system term.joined is term.is_joined in
    let named = (c.shared_term_law.ensures.traversal term.joined term.term.lasts names t order within term.term.are_last term.term.has).0
    traversal in
    let same = c.shared_term_law.ensures.peak term.joined term.term.lasts names t order within term.term.are_last term.term.has traversal in
    let below = c.joined_law.ensures.peak system term.joined (map (name_in names) order) is term.is_joined named in
    omega (arith, same, below)

pub returns-clause-back : goal.returns-clause-back
returns-clause-back c = λ system names t order is term traversal.
    let within = c.joined_law.ensures.within system term.joined is term.is_joined in
    let woven = c.joined_law.ensures.back system term.joined order is term.is_joined traversal in
    let there = c.carried_term_law.ensures term.joined names t woven.0 within term.term woven.1.0 in (
      there.0,
      there.1,
      ap (without_joins (length system.tasks)) there.2 ∙ woven.1.1,
      there.3 ∙ woven.1.2,
    )

pub returns-clause-least : goal.returns-clause-least
returns-clause-least c = λ system names t peak is term.
    let within = c.joined_law.ensures.within system term.joined is term.is_joined in
    let joined = c.joined_law.ensures.least system term.joined peak is term.is_joined in
    let same = c.shared_term_law.ensures.least term.joined term.term.lasts names t peak within term.term.are_last term.term.has in
    (λ least. same.0 (joined.0 least), λ least. joined.1 (same.1 least))
