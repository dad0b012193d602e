use Rattle.std.proofs.Common.{◌≡◌, ◌<◌, ◌+◌, ◌-◌, ◌^◌, ℕ, arith, ap, subst, ◌∙◌, List, length, get_or, min}
use Rattle.std.proofs.lemmas.List.{get_or_read}
use Rattle.sp_reduce.specs.declared.piece.Piece.TheVariants.{Both}
use Rattle.sp_reduce.specs.Pieces.{IsBuilt}
use Rattle.sp_reduce.proofs.Writings.{count_at, counts-more, count-both, count-one}
use Rattle.sp_reduce.proofs.postfix.part_counts.Goals.{in-Both, in_default}
use Rattle.sp_reduce.proofs.postfix.part_counts.Goals as goal

pub loop-piece-preserved : goal.loop-piece-preserved
loop-piece-preserved c =
    let ps = c.args.pieces.now in
    let j = c.loop-piece.piece-index in
    let counts = c.loop-piece.counts.items in
    let lt : j < length ps = omega (arith, c.loop-piece-test.true) in
    let own : c.match-piece.count ≡ count_at ps j = elim c.match-piece.branch [
      | in-Both w ↦ (let made : IsBuilt j (Both w.in-Both.first w.in-Both.second) = subst (IsBuilt j) w.in-Both.is (c.requires j lt) in
          let first : w.index.result.now ≡ count_at ps w.in-Both.first =
          get_or_read counts w.in-Both.first w.index.result.now (omega (arith, made.0, c.loop-piece.invariant.len)) w.index.ensures 0
          ∙ c.loop-piece.invariant.counts w.in-Both.first made.0 in
          let second : w.index-in-Both.result.now ≡ count_at ps w.in-Both.second =
          get_or_read counts w.in-Both.second w.index-in-Both.result.now
          (omega (arith, made.1, c.loop-piece.invariant.len)) w.index-in-Both.ensures 0
          ∙ c.loop-piece.invariant.counts w.in-Both.second made.1 in
          w.count-is ∙ w.saturating_add-count.ensures ∙ (λ z. min (first z + second z) (2 ^ 32 - 1))
          ∙ count-both ps c.requires j w.in-Both.first w.in-Both.second lt w.in-Both.is)
      | in_default w ↦ w.count-is ∙ count-one ps c.requires j lt w.in_default.not-Both
    ] in
    record {
      len = omega (arith, c.loop-piece.invariant.len, c.in_ok-push.ensures.len, c.loop-piece.counts.ok.0, c.push.new.self.ok.0);
      counts = λ i lt. ap (λ (xs : List ℕ). get_or xs i 0) c.in_ok-push.ensures.items
          ∙ counts-more ps counts j c.match-piece.count c.loop-piece.invariant.len c.loop-piece.invariant.counts own i lt;
    }
