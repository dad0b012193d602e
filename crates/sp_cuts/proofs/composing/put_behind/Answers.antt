use Rattle.std.proofs.Common.{arith, inl, inr, sym, subst}
use Rattle.cut_laws.specs.Cuts.{series_cut}
use Rattle.cut_laws.specs.Tops.{LiesInFirst, LiesInSecond}
use Rattle.sp_cuts.specs.Parts.{cut_of}
use Rattle.sp_cuts.proofs.Appended.{if_first, if_second}
use Rattle.sp_cuts.proofs.Kept.{sides_of}
use Rattle.sp_cuts.proofs.Made.{first_cut, second_cut, first_leads, second_leads, series_rough}
use Rattle.sp_cuts.proofs.composing.put_behind.Goals as goal

-- ---- cut in the first part

pub lead_back-requires : goal.lead_back-requires
lead_back-requires g c = let l =
    first_leads c.all.ensures c.args.ropes.now c.args.a.now c.args.b c.args.hill c.max-high.result c.requires.a c.requires.b
    c.requires.after c.requires.before c.requires.hill c.if-a-b.true (omega (arith, c.max-high.ensures, c.top.ensures.top)) in
    record {
      near = (c.all.ensures.runs.stay _ _ _ c.requires.b.both.back_ropes c.in_ok-tasks.ensures.kept).0;
      far = (c.all.ensures.runs.stay _ _ _ c.requires.a.both.back_ropes c.in_ok-tasks.ensures.kept).0;
      rope = c.in_ok-tasks.ensures.rope;
      net = l.net;
      room = l.room;
      falls = l.falls;
      rises = l.rises;
      top = l.top;
      hill = l.hill;
    }

pub returns-in_ok-lead_back-clause-cut : goal.returns-in_ok-lead_back-clause-cut
returns-in_ok-lead_back-clause-cut g c =
    first_cut c.all.ensures c.args.ropes.now _ _ c.args.a.now c.args.b c.args.name c.args.hill c.max-high.result _
    c.lead_back.new.far c.requires.a.both c.requires.b.both c.in_ok-tasks.ensures.kept c.in_ok-lead_back.ensures.kept
    c.if-a-b.true (omega (arith, c.max-high.ensures, c.top.ensures.top)) c.in_ok-tasks.ensures.list c.in_ok-lead_back.ensures.segments

pub returns-in_ok-lead_back-clause-kinds : goal.returns-in_ok-lead_back-clause-kinds
returns-in_ok-lead_back-clause-kinds g c =
    inl (subst (LiesInFirst (cut_of c.args.ropes.now c.args.a.now) (cut_of c.args.ropes.now c.args.b) c.args.hill)
    (sym (returns-in_ok-lead_back-clause-cut g c))
    (c.series_law.ensures.first (cut_of c.args.ropes.now c.args.a.now) (cut_of c.args.ropes.now c.args.b) c.args.name
    c.args.hill c.requires.a.both.meets c.requires.b.both.meets c.requires.after c.requires.before c.if-a-b.true))

pub returns-in_ok-lead_back-clause-rough : goal.returns-in_ok-lead_back-clause-rough
returns-in_ok-lead_back-clause-rough g c = series_rough _ _ _ _ _ c.args.hill c.requires.a c.requires.b c.requires.hill (
    sides_of _ _ (series_cut (cut_of c.args.ropes.now c.args.a.now) c.args.name c.args.hill (cut_of c.args.ropes.now c.args.b))
    (returns-in_ok-lead_back-clause-cut g c)
    (c.all.ensures.runs.stay _ _ _ c.requires.a.both.front_ropes
    (c.all.ensures.runs.on _ _ _ c.in_ok-tasks.ensures.kept c.in_ok-lead_back.ensures.kept)).0 c.in_ok-lead_back.ensures.ropes
    (c.series_law.ensures.meets (cut_of c.args.ropes.now c.args.a.now)
    (cut_of c.args.ropes.now c.args.b) c.args.name c.args.hill c.requires.a.both.meets c.requires.b.both.meets)
    (c.series_law.ensures.rising (cut_of c.args.ropes.now c.args.a.now)
    (cut_of c.args.ropes.now c.args.b) c.args.name c.args.hill c.requires.a.both.rising c.requires.b.both.rising))
    (returns-in_ok-lead_back-clause-kinds g c) (omega (arith, c.max-a.ensures, c.max.ensures))

pub returns-in_ok-lead_back-clause-counted : goal.returns-in_ok-lead_back-clause-counted
returns-in_ok-lead_back-clause-counted g c = if_first c.args.a.now.least c.args.b.least _ _ c.if-a-b.true c.in_ok-lead_back.ensures.counted

-- ---- cut in the second part

pub lead_over-requires : goal.lead_over-requires
lead_over-requires g c = let l =
    second_leads c.all.ensures c.args.ropes.now c.args.a.now c.args.b c.args.hill c.max-high-else-a-b.result
    c.requires.a c.requires.b c.requires.after c.requires.before c.requires.hill
    (let t = c.if-a-b.false in omega arith) (omega (arith, c.max-high-else-a-b.ensures, c.top-else-a-b.ensures.top)) in
    record {
      near = (c.all.ensures.runs.stay _ _ _ c.requires.a.both.front_ropes c.in_ok-tasks-2.ensures.kept).0;
      far = (c.all.ensures.runs.stay _ _ _ c.requires.b.both.front_ropes c.in_ok-tasks-2.ensures.kept).0;
      rope = c.in_ok-tasks-2.ensures.rope;
      net = l.net;
      room = l.room;
      falls = l.falls;
      rises = l.rises;
      top = l.top;
      hill = l.hill;
    }

pub returns-in_ok-lead_over-clause-cut : goal.returns-in_ok-lead_over-clause-cut
returns-in_ok-lead_over-clause-cut g c =
    second_cut c.all.ensures c.args.ropes.now _ _ c.args.a.now c.args.b c.args.name c.args.hill c.max-high-else-a-b.result
    _ c.lead_over.new.near c.requires.a.both c.requires.b.both c.in_ok-tasks-2.ensures.kept c.in_ok-lead_over.ensures.kept
    (let t = c.if-a-b.false in omega arith) (omega (arith, c.max-high-else-a-b.ensures, c.top-else-a-b.ensures.top))
    c.in_ok-tasks-2.ensures.list c.in_ok-lead_over.ensures.segments

pub returns-in_ok-lead_over-clause-kinds : goal.returns-in_ok-lead_over-clause-kinds
returns-in_ok-lead_over-clause-kinds g c =
    inr (subst (LiesInSecond (cut_of c.args.ropes.now c.args.a.now) (cut_of c.args.ropes.now c.args.b) c.args.hill)
    (sym (returns-in_ok-lead_over-clause-cut g c))
    (c.series_law.ensures.second (cut_of c.args.ropes.now c.args.a.now) (cut_of c.args.ropes.now c.args.b) c.args.name c.args.hill
    c.requires.a.both.meets c.requires.b.both.meets c.requires.after c.requires.before (let t = c.if-a-b.false in omega arith)))

pub returns-in_ok-lead_over-clause-rough : goal.returns-in_ok-lead_over-clause-rough
returns-in_ok-lead_over-clause-rough g c = series_rough _ _ _ _ _ c.args.hill c.requires.a c.requires.b c.requires.hill (
    sides_of _ _ (series_cut (cut_of c.args.ropes.now c.args.a.now) c.args.name c.args.hill (cut_of c.args.ropes.now c.args.b))
    (returns-in_ok-lead_over-clause-cut g c)
    c.in_ok-lead_over.ensures.ropes (c.all.ensures.runs.stay _ _ _ c.requires.b.both.back_ropes
    (c.all.ensures.runs.on _ _ _ c.in_ok-tasks-2.ensures.kept c.in_ok-lead_over.ensures.kept)).0
    (c.series_law.ensures.meets (cut_of c.args.ropes.now c.args.a.now)
    (cut_of c.args.ropes.now c.args.b) c.args.name c.args.hill c.requires.a.both.meets c.requires.b.both.meets)
    (c.series_law.ensures.rising (cut_of c.args.ropes.now c.args.a.now)
    (cut_of c.args.ropes.now c.args.b) c.args.name c.args.hill c.requires.a.both.rising c.requires.b.both.rising))
    (returns-in_ok-lead_over-clause-kinds g c) (omega (arith, c.max-a.ensures, c.max.ensures))

pub returns-in_ok-lead_over-clause-counted : goal.returns-in_ok-lead_over-clause-counted
returns-in_ok-lead_over-clause-counted g c =
    if_second c.args.a.now.least c.args.b.least _ _ (let t = c.if-a-b.false in omega arith) c.in_ok-lead_over.ensures.counted
