-- The word is copied into its part, and the byte stored behind it.
use Rattle.report.proofs.Stored.{word_put}
use Rattle.report.proofs.words.put_word.Goals as goal

pub returns-clause-bytes : goal.returns-clause-bytes
returns-clause-bytes c = word_put c.args.out.now c.copy_from_slice.new.self c.args.word.now c.args.at c.args.behind c.copy_from_slice.ensures.after c.requires
