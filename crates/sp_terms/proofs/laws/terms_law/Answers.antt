use Rattle.std.proofs.Common.{◌∷◌, []}
use Rattle.sp_terms.proofs.Stacks.{all_pushed, whole_stack}
use Rattle.sp_terms.proofs.SystemLemmas.{is_system}
use Rattle.sp_terms.proofs.laws.terms_law.Goals as goal

pub returns-clause-denotes : goal.returns-clause-denotes
returns-clause-denotes c = λ positions terms. terms.is

pub returns-clause-allowed : goal.returns-clause-allowed
returns-clause-allowed c = λ positions terms. terms.allowed.0

pub returns-clause-system : goal.returns-clause-system
returns-clause-system c = is_system

pub returns-clause-form : goal.returns-clause-form
returns-clause-form c = λ t. whole_stack (t ∷ [])

pub returns-clause-only : goal.returns-clause-only
returns-clause-only c = λ positions t denotes. all_pushed positions [] (t ∷ []) denotes
