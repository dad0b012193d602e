use Rattle.std.proofs.Common.{◌≡◌, ◌≢◌, ◌<◌, ◌∷◌, [], ◌++◌, ◌∙◌, ap, ℕ, List, get_or, set, length, arith, sym, refl}
use Rattle.std.proofs.Math.ListN.{length-set}
use Rattle.std.proofs.lemmas.List.{get_or_default, length-replicate}
use Rattle.std.proofs.Common.{zero, suc}
use Rattle.std.specs.Prelude.{replicate}
use Rattle.joined_systems.proofs.KindSteps.{first_new, first_kept, firsts_done}
use Rattle.std.proofs.Common.{Vec}
use Rattle.joined_systems.proofs.kinds.leaders_by.Goals as goal
use Rattle.joined_systems.proofs.kinds.leaders_by.Goals.{then-index-eq0, else-index-eq0}

zero_at : (n k : ℕ) (xs : List ℕ) → xs ≡ replicate n 0 → get_or xs k 0 ≡ 0
zero_at n k xs is = ap (λ (l : List ℕ). get_or l k 0) is ∙ zeros n k
  where
    zeros : (n k : ℕ) → ◌≡◌ {A = ℕ} (get_or (replicate n 0) k 0) 0
    zeros zero k = refl
    zeros (suc n) zero = refl
    zeros (suc n) (suc k) = zeros n k

pub loop-v-init : goal.loop-v-init
loop-v-init c =
    let zeros = λ (k : ℕ). zero_at c.args.most k c.in_ok-firsts.firsts.items (c.in_ok-firsts.ensures.items_if_clones_equal (λ y e. e)) in
    record {
      room = ap (λ (l : List ℕ). length l) (c.in_ok-firsts.ensures.items_if_clones_equal (λ y e. e)) ∙ length-replicate c.args.most 0;
      are = record {
        len = ap (λ (l : List ℕ). length l) c.new-leaders.ensures.items;
        told = λ k e. absurd (e (zeros k));
        each = λ i lt. absurd (omega arith);
      };
    }

pub loop-v-preserved : goal.loop-v-preserved
loop-v-preserved c = elim c.if-index-eq0.branch [
  | then-index-eq0 w ↦ (
      let v = c.loop-v.v in
      let kind = get_or c.args.kinds.now v 0 in
      let firsts = c.loop-v.firsts.items in
      let room : kind < length firsts = omega (arith, c.requires.small v, c.loop-v.invariant.room) in
      let now : c.if-index-eq0.firsts.items ≡ set firsts kind v = ap (λ (l : Vec ℕ _). l.items) w.firsts-is in
      let none : get_or firsts kind 0 ≡ 0 =
      sym (get_or_default firsts kind c.index.result.now 0 room) ∙ sym c.index.ensures ∙ w.if-index-eq0.true in
      let pushed : c.push.new.self.items ≡ c.loop-v.leaders.items ++ get_or (set firsts kind v) kind 0 ∷ [] =
      c.in_ok-push.ensures.items ∙ ap (λ (x : ℕ). c.loop-v.leaders.items ++ x ∷ [])
      (c.index-in-loop-v.ensures ∙ ap (λ (l : List ℕ). get_or l kind c.index-in-loop-v.result.now) now
      ∙ get_or_default (set firsts kind v) kind c.index-in-loop-v.result.now 0 (omega (arith, room, length-set firsts kind v))) in
      rw (now, pushed) (record {
        room = length-set firsts kind v ∙ c.loop-v.invariant.room;
        are = first_new c.args.kinds.now firsts c.loop-v.leaders.items v kind (omega arith) refl c.loop-v.invariant.are none room;
      })
      )
  | else-index-eq0 w ↦ (
      let v = c.loop-v.v in
      let kind = get_or c.args.kinds.now v 0 in
      let firsts = c.loop-v.firsts.items in
      let room : kind < length firsts = omega (arith, c.requires.small v, c.loop-v.invariant.room) in
      let now : c.if-index-eq0.firsts.items ≡ firsts = ap (λ (l : Vec ℕ _). l.items) w.firsts-is in
      let there : get_or firsts kind 0 ≢ 0 = λ e. w.if-index-eq0.false
      (c.index.ensures ∙ get_or_default firsts kind c.index.result.now 0 room ∙ e) in
      let pushed : c.push.new.self.items ≡ c.loop-v.leaders.items ++ get_or firsts kind 0 ∷ [] =
      c.in_ok-push.ensures.items ∙ ap (λ (x : ℕ). c.loop-v.leaders.items ++ x ∷ [])
      (c.index-in-loop-v.ensures ∙ ap (λ (l : List ℕ). get_or l kind c.index-in-loop-v.result.now) now
      ∙ get_or_default firsts kind c.index-in-loop-v.result.now 0 room) in
      rw (now, pushed) (record {
        room = c.loop-v.invariant.room;
        are = first_kept c.args.kinds.now firsts c.loop-v.leaders.items v kind (omega arith) refl c.loop-v.invariant.are there;
      })
      )
]

pub returns : goal.returns
returns c = firsts_done c.args.kinds.now c.loop-v.firsts.items c.loop-v.leaders.items c.loop-v.v c.loop-v.invariant.are (omega (arith, c.requires.some))
