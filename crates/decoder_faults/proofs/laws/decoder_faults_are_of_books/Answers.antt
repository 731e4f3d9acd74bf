use Rattle.decoder_faults.proofs.Books.{of_books, own_first}
use Rattle.decoder_faults.proofs.Passing.{has_alone}
use Rattle.decoder_faults.proofs.laws.decoder_faults_are_of_books.Goals as goal

pub returns : goal.returns
returns c = record { books = of_books; own = own_first; there = has_alone }
