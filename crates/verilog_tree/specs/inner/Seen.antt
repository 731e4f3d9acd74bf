-- Inner. For proofs and private contracts alone, beside Seen: what the crate's own types are to its definitions.
use Rattle.std.specs.Prelude.{List, [], ◌∷◌, Option, Some, None}
use Rattle.verilog_tree.specs.declared.mentions.Mention as M
use Rattle.verilog_tree.specs.declared.mentions.Mention.TheVariants as V
use Rattle.verilog_tree.specs.Names.{Declaration}
use Rattle.verilog_tree.specs.Rules.{Mention, AsClock, AsTarget, Whole, Selected}

-- the declaration, if there is one, as a list
abbrev pub declares : Option Declaration → List Declaration
declares None = []
declares (Some d) = d ∷ []

abbrev pub mention : M.Mention → Mention
mention (V.Clock n) = AsClock n.bytes
mention (V.Target n) = AsTarget n.bytes
mention (V.Whole n) = Whole n.bytes
mention (V.Select n h l) = Selected n.bytes h l
