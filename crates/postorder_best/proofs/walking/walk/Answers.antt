use Rattle.std.proofs.Common.{rules, arith, ◌∙◌, sym, subst, ap, [], ◌∷◌, ◌++◌, length, append_assoc}
use Rattle.std.proofs.lemmas.List.{length-append}
use Rattle.row_table.specs.Rows.{row_at}
use Rattle.postorder_best.specs.Rows.{Emits}
use Rattle.postorder_best.proofs.Emitting.{pops, ended}
use Rattle.lists.proofs.Lists.{append_nil as nil_right}
use Rattle.postorder_best.proofs.walking.walk.Goals as goal

pub row-requires-in-Some : goal.row-requires-in-Some
row-requires-in-Some c =
    let rows = c.args.rows.now in
    let r = c.loop-x.invariant.left c.requires.listed.0 c.requires.listed.1 in
    (pops (length rows) (row_at rows) c.loop-x.stack.items c.pop.new.self.items r.0 c.in-Some.x c.in-Some.ensures.items r.1).0

pub loop-x-smaller : goal.loop-x-smaller
loop-x-smaller c =
    let rows = c.args.rows.now in
    let r = c.loop-x.invariant.left c.requires.listed.0 c.requires.listed.1 in
    let p = pops (length rows) (row_at rows) c.loop-x.stack.items c.pop.new.self.items r.0 c.in-Some.x c.in-Some.ensures.items r.1 in
    let whole =
    ap length (r.2 ∙ ap (λ v. c.loop-x.listing.items ++ v) p.1.1) ∙ length-append c.loop-x.listing.items (c.in-Some.x ∷ p.1.0) in
    let most = c.requires.listed.2 in
    let grown = ap length c.in_ok-push.ensures.items ∙ length-append c.loop-x.listing.items (c.in-Some.x ∷ []) in
    omega arith

pub loop-x-preserved : goal.loop-x-preserved
loop-x-preserved c = record {
  left = λ e has.
      let rows = c.args.rows.now in
      let r = c.loop-x.invariant.left e has in
      let p = pops (length rows) (row_at rows) c.loop-x.stack.items c.pop.new.self.items r.0 c.in-Some.x c.in-Some.ensures.items r.1 in
      let stack = c.in_ok-extend_from_slice.ensures.items ∙ ap (λ v. c.pop.new.self.items ++ v) c.row-in-Some.ensures in (
        p.1.0,
        subst (λ v. Emits (length rows) (row_at rows) v p.1.0) (sym stack) p.1.2,
        r.2 ∙ ap (λ v. c.loop-x.listing.items ++ v) p.1.1 ∙ sym (append_assoc c.loop-x.listing.items (c.in-Some.x ∷ []) p.1.0)
            ∙ ap (λ v. v ++ p.1.0) (sym c.in_ok-push.ensures.items),
      );
}

pub returns : goal.returns
returns c = λ e has.
    let rows = c.args.rows.now in
    let r = c.loop-x.invariant.left e has in
    let none = ended (length rows) (row_at rows) c.loop-x.stack.items r.0 (search rules) r.1 in
    sym (r.2 ∙ ap (λ v. c.loop-x.listing.items ++ v) none ∙ nil_right c.loop-x.listing.items)
