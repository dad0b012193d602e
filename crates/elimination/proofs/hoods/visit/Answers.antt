use Rattle.std.proofs.Common.{◌≡◌, length, arith, subst, sym, ap, ◌∙◌, take}
use Rattle.std.specs.Vec.{with_items}
use Rattle.std.proofs.Math.Seq.{take-append_seam}
use Rattle.std.proofs.lemmas.List.{with_items_is}
use Rattle.elimination.specs.Hoods.{Visits}
use Rattle.elimination.proofs.hoods.visit.Goals as goal

pub returns : goal.returns
returns c =
    let list = c.args.list.now in
    let near = c.args.near.now.items in
    let seen = c.args.seen.now in
    let seen' = c.write_unmarked-count.new.seen in
    let near' = c.write_unmarked-count.new.near in
    let count = c.write_unmarked-count.result in
    let longer = c.extend_from_slice.new.self in
    let all : c.len-from.result ≡ length near = omega (arith, c.args.near.now.ok.0) in
    let from : take c.len-from.result c.deref_mut.result.now ≡ near =
    ap (λ z. take z c.deref_mut.result.now) all ∙ ap (λ z. take (length near) z)
    (c.deref_mut.ensures.value ∙ c.in_ok-extend_from_slice.ensures.items) ∙ take-append_seam near list in
    let whole : (with_items longer near').items ≡ near' = with_items_is longer near' (omega arith) in
    let to : c.truncate.new.self.items ≡ take count near' = c.truncate.ensures.items ∙ ap (λ z. take count z) whole in
    subst (λ z. Visits list near z seen seen') (sym to)
    (subst (λ z. Visits list z (take count near') seen seen') from c.write_unmarked-count.ensures.visits)
