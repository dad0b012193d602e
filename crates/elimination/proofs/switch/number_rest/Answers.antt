use Rattle.std.proofs.Common.{◌≡◌, ◌+◌, ◌-◌, ◌++◌, ◌∷◌, [], ℕ, inl, inr, length, get_or, set}
use Rattle.std.proofs.Common.{arith, sym, subst, ap, ◌∙◌, length-append, length-set}
use Rattle.std.proofs.lemmas.Bool.{cases_lt}
use Rattle.std.proofs.lemmas.List.{length-replicate, get_or-replicate, get_or_past}
use Rattle.elimination.specs.Quotients.{at}
use Rattle.elimination.specs.Switch.{AreNumbers}
use Rattle.elimination.proofs.Renumberings.{numbers_first, numbers_skip, numbers_next}
use Rattle.elimination.proofs.switch.number_rest.Goals as goal
use Rattle.elimination.proofs.switch.number_rest.Goals.{In_ok-numbers}

none : (c : In_ok-numbers) (x : ℕ) → get_or c.in_ok-numbers.numbers.items x 0 ≡ 0
none c x =
    let e = c.in_ok-numbers.ensures.items_if_clones_equal (λ y h. h) in
    let n = length c.args.turns.now in
    elim (cases_lt x n) [
      | inl lt ↦ ap (λ z. get_or z x 0) e ∙ get_or-replicate n x 0 0 lt
      | inr ge ↦ get_or_past c.in_ok-numbers.numbers.items x 0 (let l = ap length e ∙ length-replicate n 0 in omega arith)
    ]

pub loop-v-init : goal.loop-v-init
loop-v-init c =
    let n = length c.args.turns.now in
    let list = c.in_ok-push.ensures.items in
    let empty = c.new-vertices.ensures.items in
    let is = list ∙ ap (λ z. z ++ 0 ∷ []) empty in
    let len = ap length is in
    record {
      len = ap length (c.in_ok-numbers.ensures.items_if_clones_equal (λ y h. h)) ∙ length-replicate n 0;
      some = omega arith;
      few = omega arith;
      numbers = λ m e. (
          let zero' : 0 ≡ m = omega arith in
          subst (λ z. AreNumbers (at c.args.turns.now) z c.push.new.self.items c.in_ok-numbers.numbers.items) zero'
          (subst (λ z. AreNumbers (at c.args.turns.now) 0 z c.in_ok-numbers.numbers.items) (sym is)
          (numbers_first (at c.args.turns.now) c.in_ok-numbers.numbers.items (none (goal.at.loop-v-init c).In_ok-numbers)))
          );
    }

pub loop-v-preserved-then-turns-v-ne0 : goal.loop-v-preserved-then-turns-v-ne0
loop-v-preserved-then-turns-v-ne0 c =
    let inv = c.loop-v.invariant in
    let v = c.loop-v.v in
    record {
      len = inv.len;
      some = inv.some;
      few = omega arith;
      numbers = λ n e. (
          let m : ℕ = v - 1 in
          let up : v ≡ m + 1 = omega arith in
          let same : m + 1 ≡ n = omega arith in
          subst (λ z. AreNumbers (at c.args.turns.now) z c.loop-v.vertices.items c.loop-v.numbers.items) same
          (numbers_skip (at c.args.turns.now) m c.loop-v.vertices.items c.loop-v.numbers.items (inv.numbers m up)
          (λ z. c.if-turns-v-ne0.true (ap (at c.args.turns.now) up ∙ z)))
          );
    }

pub loop-v-preserved : goal.loop-v-preserved
loop-v-preserved c =
    let inv = c.loop-v.invariant in
    let v = c.loop-v.v in
    let turn = at c.args.turns.now in
    let old = c.loop-v.vertices.items in
    let numbers = c.loop-v.numbers.items in
    let is = c.in_ok-push-2.ensures.items in
    let len = ap length is ∙ length-append old (v ∷ []) in
    let count : c.len.result ≡ length old = omega (arith, c.len.ensures, c.loop-v.vertices.ok.0) in
    record {
      len = length-set numbers v c.len.result ∙ inv.len;
      some = omega arith;
      few = omega arith;
      numbers = λ n e. (
          let m : ℕ = v - 1 in
          let up : m + 1 ≡ v = omega arith in
          let same : v ≡ n = omega arith in
          let next = numbers_next turn m old numbers (inv.numbers m (sym up)) (ap turn up ∙ c.if-turns-v-ne0.false)
          (let l = inv.len in omega arith) in
          let at_v = subst (λ z. AreNumbers turn z (old ++ z ∷ []) (set numbers z (length old))) up next in
          let written = subst (λ z. AreNumbers turn v (old ++ v ∷ []) (set numbers v z)) (sym count) at_v in
          let pushed = subst (λ z. AreNumbers turn v z (set numbers v c.len.result)) (sym is) written in
          subst (λ z. AreNumbers turn z c.push-in-loop-v.new.self.items (set numbers v c.len.result)) same pushed
          );
    }
