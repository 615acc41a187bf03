use Rattle.word_whole.proofs.Words.{all_begun}
use Rattle.word_whole.proofs.paint_block.Goals as goal

pub pass_block-requires : goal.pass_block-requires
pass_block-requires g c = (all_begun c.requires.asked.1 _ _ c.requires.plan _ _ c.paint_pixels.ensures, c.requires.behind)
