use Rattle.std.proofs.Common.{◌≡◌, ◌<◌, ◌++◌, ◌∷◌, [], ℕ, Bool, map, take, get_or, arith, length, subst, sym, ap, ◌∙◌, append_assoc}
use Rattle.std.proofs.lemmas.List.{append-nil, map_more, take_all}
use Rattle.std.proofs.lemmas.Grind.{get_or_default_zero}
use Rattle.elimination.specs.Elimination.{eliminated}
use Rattle.elimination.specs.Quotients.{at}
use Rattle.elimination.specs.Dense.{IsDenseUnderWay, IsLeastDegreeOrder}
use Rattle.elimination.specs.Switch.{renumbered, IsRestAfter}
use Rattle.elimination.proofs.Switches.{rest_starts, rest_ends}
use Rattle.elimination.proofs.switch.Rest.eliminate.Goals as goal
use Rattle.elimination.proofs.switch.Rest.eliminate.Goals.{In_ok-eliminate_dense, In-loop-k}

pub eliminate_dense-requires : goal.eliminate_dense-requires
eliminate_dense-requires c =
    let s = c.requires in
    let left = renumbered (eliminated s.0 c.args.gone.now.items) c.args.self.vertices.items in (
      left,
      subst (λ z. IsDenseUnderWay left z c.args.self.search) (sym c.new-order.ensures.items)
          (rest_starts s.0 s.1 c.args.gone.now.items c.args.self s.2),
    )

-- the order by new numbers
order_is : (c : In_ok-eliminate_dense) (joined : ℕ → ℕ → Bool) (n : ℕ) → IsRestAfter joined n c.args.gone.now.items c.args.self
    → IsLeastDegreeOrder (renumbered (eliminated joined c.args.gone.now.items) c.args.self.vertices.items) c.args.self.search.order
    c.eliminate_dense.new.vertices.items
order_is c joined n s =
    let left = renumbered (eliminated joined c.args.gone.now.items) c.args.self.vertices.items in
    c.in_ok-eliminate_dense.ensures left (subst (λ z. IsDenseUnderWay left z c.args.self.search) (sym c.new-order.ensures.items)
    (rest_starts joined n c.args.gone.now.items c.args.self s))

pub loop-k-init : goal.loop-k-init
loop-k-init c = sym (append-nil c.args.gone.now.items)

-- each new number is that of a vertex
inside : (c : In-loop-k) (left : ℕ → ℕ → Bool)
    → IsLeastDegreeOrder left c.args.self.search.order c.eliminate_dense.new.vertices.items
    → get_or c.deref-k-items.result.now c.loop-k.k-index 0 < length c.args.self.vertices.items
inside c left o =
    let s = c.requires.2 in
    let is = c.deref-k-items.ensures.value in
    let len = ap length is in
    let vertex = o.begun.vertices c.loop-k.k-index 0 (omega arith) in
    let at_k = ap (λ z. get_or z c.loop-k.k-index 0) is in
    let most = vertex.1 in
    let order = s.dense.order_is in
    let some = s.numbered.some in
    omega arith

pub index-requires : goal.index-requires
index-requires c =
    let s = c.requires in
    let left = renumbered (eliminated s.0 c.args.gone.now.items) c.args.self.vertices.items in
    let lt = inside (goal.at.index-requires c).In-loop-k left (order_is (goal.at.index-requires c).In_ok-eliminate_dense s.0 s.1 s.2) in
    let all = c.args.self.vertices.ok.0 in
    omega arith

pub loop-k-preserved : goal.loop-k-preserved
loop-k-preserved c =
    let vertices = c.args.self.vertices.items in
    let gone = c.args.gone.now.items in
    let list = c.deref-k-items.result.now in
    let i = c.loop-k.k-index in
    let s = c.requires in
    let left = renumbered (eliminated s.0 c.args.gone.now.items) vertices in
    let lt = inside (goal.at.loop-k-preserved c).In-loop-k left (order_is (goal.at.loop-k-preserved c).In_ok-eliminate_dense s.0 s.1 s.2) in
    let is : c.index.result.now ≡ at vertices (get_or list i 0) = c.index.ensures
    ∙ get_or_default_zero vertices (get_or list i 0) c.index.result.now lt in
    c.in_ok-push.ensures.items ∙ ap (λ z. c.loop-k.gone.items ++ z ∷ []) is
    ∙ ap (λ z. z ++ at vertices (get_or list i 0) ∷ []) c.loop-k.invariant
    ∙ append_assoc gone (map (at vertices) (take i list)) (at vertices (get_or list i 0) ∷ [])
    ∙ ap (λ z. gone ++ z) (sym (map_more (at vertices) list i 0 (omega arith)))

pub returns : goal.returns
returns c = λ joined n s.
    let o = order_is (goal.at.returns c).In_ok-eliminate_dense joined n s in
    let vertices = c.args.self.vertices.items in
    let is = c.deref-k-items.ensures.value in
    let all = take_all c.loop-k.k-index c.deref-k-items.result.now (omega arith) ∙ is in
    subst (IsLeastDegreeOrder joined n) (sym (c.loop-k.invariant ∙ ap (λ z. c.args.gone.now.items ++ map (at vertices) z) all))
    (rest_ends joined n c.args.gone.now.items c.args.self s c.eliminate_dense.new.vertices.items o)
