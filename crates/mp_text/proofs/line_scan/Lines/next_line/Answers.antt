use Rattle.std.proofs.Common.{◌∙◌, sym, ap}
use Rattle.mp_text.specs.declared.layout.Layout.{Layout}
use Rattle.mp_text.specs.Ahead.{Ahead}
use Rattle.mp_text.specs.Text.{is_passed, tokens_of}
use Rattle.mp_text.proofs.ScanLemmas.{past-none, past-more, past-line, line-rows, line-past, end-passed, end-rows, end-past, no_rows}
use Rattle.mp_text.proofs.line_scan.Lines.next_line.Goals as goal

pub loop-line-init : goal.loop-line-init
loop-line-init c = record { past = past-none c.args.self.now; layout = ap (λ (a : Ahead). a.layout) c.self.view_is }

pub loop-line-preserved : goal.loop-line-preserved
loop-line-preserved c =
    let e = c.in-Some.ensures in
    let same = c.loop-line.invariant.layout in
    record {
      past = past-more c.args.self.now c.loop-line.self c.raw.new.self c.in-Some.line.number
          c.in-Some.line.text.now c.loop-line.invariant.past e.line.0 e.line.1 e.next.0 e.next.1
          (ap (λ (layout : Layout). is_passed layout c.in-Some.line.number (tokens_of c.in-Some.line.text.now)) (sym same)
          ∙ sym c.if-not-is_passed.ensures);
      layout = same;
    }

pub returns-then-not-is_passed : goal.returns-then-not-is_passed
returns-then-not-is_passed c =
    let e = c.in-Some.ensures in
    let past = c.loop-line.invariant.past in
    let line = past-line c.args.self.now c.loop-line.self c.raw.new.self
    c.in-Some.line.number c.in-Some.line.text.now past e.line.0 e.line.1 e.next.0
    (ap (λ (layout : Layout). is_passed layout c.in-Some.line.number (tokens_of c.in-Some.line.text.now))
    (sym c.loop-line.invariant.layout)
    ∙ sym c.if-not-is_passed.ensures) in
    let layout = e.next.1 ∙ past.layout in
    record {
      line = line;
      end = tt;
      rows = line-rows c.args.self.now c.raw.new.self c.in-Some.line.number c.in-Some.line.text.now line layout;
      none = tt;
      past = line-past c.args.self.now c.raw.new.self c.in-Some.line.number c.in-Some.line.text.now line;
      layout = layout;
    }

pub returns : goal.returns
returns c =
    let past = c.loop-line.invariant.past in
    let none = c.in_default.ensures.none.0 in
    rw c.in_default.ensures.none.1 (record {
      line = tt;
      end = (none, end-passed c.args.self.now c.loop-line.self past none);
      rows = end-rows c.args.self.now c.loop-line.self past none;
      none = no_rows c.loop-line.self none;
      past = end-past c.args.self.now c.loop-line.self past none;
      layout = past.layout;
    })
