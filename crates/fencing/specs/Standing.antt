-- What no run of a system as it stands passes, with amounts that certify it.
use Rattle.std.specs.Prelude.{ℕ, Option}
use Rattle.shared_systems.specs.Shared.{SharedTaskSystem}
use Rattle.fences.specs.Certificates.{Certificate, Certifies}
use Rattle.fences.specs.Implied.{AreImplied}
use Rattle.fencing.specs.Asked.{IsFor}

-- the fences of the certificate forbid no run, so that the bound holds along every run without them
pub record IsStanding (system : SharedTaskSystem) (asked : Option ℕ) (certificate : Certificate) : Type 0 where
  pub certifies : Certifies system certificate
  pub implied : AreImplied system certificate.fences
  pub is_for : IsFor asked certificate.workers
