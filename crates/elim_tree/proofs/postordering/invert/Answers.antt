use Rattle.std.proofs.Common.{◌≡◌, ℕ, ◌<◌, length, arith, sym, ap, ◌∙◌, slice_index}
use Rattle.elim_tree.proofs.postordering.invert.Goals as goal

pub returns : goal.returns
returns c =
    let places = c.args.places.now in
    let vertices = c.loop-j.vertices in
    let all : (x : ℕ) → x < length places → slice_index vertices (slice_index places x) ≡ x = λ x lt. c.loop-j.invariant x (omega arith) in
    let same : length vertices ≡ length places = omega arith in
    record {
      some = omega arith;
      same_length = sym same;
      unused = ap (slice_index vertices) (sym c.requires.places.unused) ∙ all 0 c.requires.lengths.1;
      vertex = λ k lt.
          let there = c.requires.places.taken k (omega arith) in
          let here : slice_index vertices k ≡ there.0 = ap (slice_index vertices) (sym there.2) ∙ all there.0 there.1 in
          (let small = there.1 in omega arith, ap (slice_index places) here ∙ there.2);
      place = λ v lt. (let within = c.requires.places.within v (omega arith) in omega arith, all v (omega arith));
    }
