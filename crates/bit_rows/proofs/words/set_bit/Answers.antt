use Rattle.bit_rows.proofs.WordBits.{put_in, put_in_others}
use Rattle.bit_rows.proofs.words.set_bit.Goals as goal

pub returns-clause-set : goal.returns-clause-set
returns-clause-set c = put_in c.args.words.now c.args.x c.requires

pub returns-clause-others : goal.returns-clause-others
returns-clause-others c = put_in_others c.args.words.now c.args.x c.requires
