use Rattle.std.proofs.Common.{◌≡◌, ℕ, ◌+◌, List, [], ◌∷◌, ◌++◌, length, get_or, set, sym, ap, subst, ◌∙◌, arith, Option}
use Rattle.std.specs.Prelude.{MatchOption}
use Rattle.std.proofs.lemmas.List.{get_or_read}
use Rattle.sp_reduce.specs.declared.piece.Piece.{Piece}
use Rattle.sp_reduce.specs.declared.piece.Piece.TheVariants.{Hold, Both}
use Rattle.sp_reduce.specs.Work.{link, IsLink}
use Rattle.sp_reduce.specs.Pieces.{IsCarried}
use Rattle.sp_reduce.proofs.Planted.{carried-new, carried-twin}
use Rattle.sp_reduce.proofs.forest.Forest.plant.Goals as goal

pub returns-in_ok-push-in-None-clause-carried : goal.returns-in_ok-push-in-None-clause-carried
returns-in_ok-push-in-None-clause-carried c = λ graph rest links p q h.
    let ps = c.args.self.now.pieces.items in
    let nodes = c.args.self.now.nodes.items in
    let len : c.len-node.result ≡ length ps = omega (arith, c.len-node.ensures, c.args.self.now.pieces.ok) in
    let done = carried-new graph rest ps links nodes p c.args.size q h in
    let here : IsCarried graph rest c.push.new.self.items (links ++ link p q ∷ []) c.push-in-None.new.self.items =
    subst (λ (ns : List ℕ). IsCarried graph rest c.push.new.self.items (links ++ link p q ∷ []) ns)
    (sym (c.in_ok-push-in-None.ensures.items ∙ ap (λ (n : ℕ). nodes ++ n ∷ []) len))
    (subst (λ (xs : List Piece). IsCarried graph rest xs (links ++ link p q ∷ []) (nodes ++ length ps ∷ []))
    (sym c.in_ok-push.ensures.items) done) in
    subst (λ (o : Option ℕ).
    MatchOption o (IsCarried graph rest c.push.new.self.items (links ++ link p q ∷ []) c.push-in-None.new.self.items)
    (λ k. IsLink links k p q → IsCarried graph rest c.push.new.self.items links c.push-in-None.new.self.items)) (sym c.in-None.is) here

pub returns-in_ok-push-in-Some-clause-carried : goal.returns-in_ok-push-in-Some-clause-carried
returns-in_ok-push-in-Some-clause-carried c = λ graph rest links p q h.
    let ps = c.args.self.now.pieces.items in
    let nodes = c.args.self.now.nodes.items in
    let k = c.in-Some.twin in
    let now = set nodes k (c.len-node.result + 1) in
    let len : c.len-node.result ≡ length ps = omega (arith, c.len-node.ensures, c.args.self.now.pieces.ok) in
    let first : get_or nodes k 0 ≡ c.index.result.now = sym (get_or_read nodes k c.index.result.now (omega (
      arith,
      c.args.self.now.nodes.ok,
      c.requires.twin k c.in-Some.is,
    )) c.index.ensures 0) in
    let items : c.push-in-Some.new.self.items ≡ (ps ++ Hold c.args.size ∷ []) ++ Both (get_or nodes k 0) (length ps) ∷ [] =
    c.in_ok-push-in-Some.ensures.items ∙ (λ z. c.in_ok-push.ensures.items z ++ Both (sym first z) (len z) ∷ []) in
    let here : IsLink links k p q → IsCarried graph rest c.push-in-Some.new.self.items links now =
    λ twin. subst (λ (xs : List Piece). IsCarried graph rest xs links now) (sym items)
    (carried-twin graph rest ps links nodes p c.args.size q h k twin (c.len-node.result + 1) (omega (arith, len))) in
    subst (λ (o : Option ℕ). MatchOption o (IsCarried graph rest c.push-in-Some.new.self.items (links ++ link p q ∷ []) now)
    (λ k. IsLink links k p q → IsCarried graph rest c.push-in-Some.new.self.items links now)) (sym c.in-Some.is) here
