use Rattle.bist_text.proofs.Powers.{word_digits}
use Rattle.bist_text.proofs.numbers.put_word.Goals as goal

pub put_hex-requires : goal.put_hex-requires
put_hex-requires c = record { fits = word_digits c.args.bits c.args.word c.requires.fits }
