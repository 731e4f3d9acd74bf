-- Public. The styles of the code as those of the grammar.
use Rattle.verilog_tree.specs.Grammar as G
use Rattle.verilog_read.specs.declared.places.Style.TheVariants as S
use Rattle.verilog_read.specs.declared.places.Style.{Style}

abbrev pub styled : Style → G.Style
styled S.Parenthesised = G.Parenthesised
styled S.ByPrecedence = G.ByPrecedence
