use Rattle.sp_cuts.proofs.hills.lead_back.Goals as goal

pub lead_over-requires : goal.lead_over-requires
lead_over-requires g c = rw (c.replace-last.ensures.value, c.replace-last.ensures.after) record {
  near = c.requires.near;
  far = c.requires.far;
  rope = c.requires.rope;
  net = c.requires.net;
  room = c.requires.room;
  falls = c.requires.falls;
  rises = c.requires.rises;
  top = c.requires.top;
  hill = c.requires.hill;
}
