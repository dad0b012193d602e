use Rattle.bit_rows.proofs.WordBits.{taken_out, taken_out_others}
use Rattle.bit_rows.proofs.words.clear_bit.Goals as goal

pub returns-clause-cleared : goal.returns-clause-cleared
returns-clause-cleared c = taken_out c.args.words.now c.args.x c.requires

pub returns-clause-others : goal.returns-clause-others
returns-clause-others c = taken_out_others c.args.words.now c.args.x c.requires
