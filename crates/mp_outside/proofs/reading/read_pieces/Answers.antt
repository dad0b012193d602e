use Rattle.std.proofs.Common.{ℕ, List, Option, arith, ◌∙◌, subst}
use Rattle.std.proofs.lemmas.List.{length-take}
use Rattle.mp_outside.specs.Outside.{LoadsTold}
use Rattle.mp_outside.proofs.Pieces.{ReadSoFar-more}
use Rattle.mp_outside.proofs.reading.read_pieces.Goals as goal

pub loop-count-preserved : goal.loop-count-preserved
loop-count-preserved g c =
    let e = c.in-Ok.ensures in
    let x = c.in_ok-extend_from_slice.ensures in
    record {
      short = omega (
        arith,
        x.len,
        c.extend_from_slice.new.self.ok.0,
        length-take c.in-Ok.count c.load.new.buf,
        c.len-in-loop-count.ensures,
        c.loop-count.text.ok.0,
        c.loop-count.invariant.short,
      );
      read = rw x.items
          (ReadSoFar-more _ c.loop-count.text.items c.load.new.buf c.len.result c.in-Ok.count (c.len.ensures ∙ c.loop-count.text.ok.0)
          c.loop-count.invariant.read (subst (λ (o : Option (List ℕ)). LoadsTold o c.len.result c.in-Ok.count c.load.new.buf)
          (c.loop-count.invariant.same c.args.name.now) e.bytes));
      same = λ other. e.same other ∙ c.loop-count.invariant.same other;
      later = λ other. omega (arith, e.later other, c.loop-count.invariant.later other);
    }
