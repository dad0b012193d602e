use Rattle.std.proofs.Common.{ap, sym}
use Rattle.claim_check.specs.Claimed.{Claimed}
use Rattle.claim_check.proofs.Outside.{first_outside_of}
use Rattle.claim_check.proofs.view.View.first_outside.Goals as goal

pub returns : goal.returns
returns c = first_outside_of c.args.self.now c.self.inside.claims.now c.len.result
    (sym (ap (λ (v : Claimed). v.claims) c.self.view_is)) c.len.ensures.claims.rising
    c.len.ensures.value c.first_past.result c.first_past.ensures
