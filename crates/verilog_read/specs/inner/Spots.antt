-- Inner. What the code's places are.
use Rattle.verilog_tree.specs.Plain as P
use Rattle.verilog_read.specs.Style.{styled}
use Rattle.verilog_read.specs.inner.Frames.{arms_of, head_of, around_of, alone_of}
use Rattle.verilog_read.specs.inner.Holding.{standing, nests_of}
use Rattle.verilog_text.specs.Places as Q
use Rattle.verilog_text.specs.Places.{Head, Around, StmtPlace, WantStmt, Target, IfRead, CaseRead, FirstLabel, Labels, NextLabel, DefaultRead, Block, HaveStmt, ItemPlace, Begin, HeadName, HeadOpen, WantPort, InputRead, OutputRead, WantRange, WantHigh, WantColon, WantZero, WantBracket, WantName, NameRead, PortsRead, WantItem, AssignRead, DriveRead, AlwaysRead, AtRead, ClockOpen, EdgeRead, ClockRead, Ended, AsWire, AsReg, AsPort, State, AtExpr, AtStmt, AtItem}
use Rattle.verilog_read.specs.declared.places.ItemSpot.TheVariants as I
use Rattle.verilog_read.specs.declared.places.ItemSpot.{ItemSpot}
use Rattle.verilog_read.specs.declared.places.Outer.{Outer}
use Rattle.verilog_read.specs.declared.places.Place.TheVariants.{InExpr, InStmt, InItem}
use Rattle.verilog_read.specs.declared.places.Place.{Place}
use Rattle.verilog_read.specs.declared.places.StmtSpot.TheVariants as T
use Rattle.verilog_read.specs.declared.places.StmtSpot.{StmtSpot}
use Rattle.verilog_read.specs.declared.places.Use.TheVariants as W
use Rattle.verilog_read.specs.declared.places.Use.{Use}

abbrev pub stmt_spot : StmtSpot → Around → StmtPlace
stmt_spot (T.WantStmt q) a = WantStmt q a
stmt_spot (T.Target q n) a = Target q n.bytes a
stmt_spot (T.IfRead r q) a = IfRead r q a
stmt_spot (T.CaseRead r q) a = CaseRead r q a
stmt_spot (T.FirstLabel q k) a = FirstLabel k.depth q (P.plain k.subject) (arms_of k) a
stmt_spot (T.Labels q k ls) a = Labels k.depth q (P.plain k.subject) (arms_of k) ls.items a
stmt_spot (T.NextLabel q k ls) a = NextLabel k.depth q (P.plain k.subject) (arms_of k) ls.items a
stmt_spot (T.DefaultRead q k) a = DefaultRead k.depth q (P.plain k.subject) (arms_of k) a
stmt_spot (T.Block p r old) a = Block p r (P.plain_stmts old.items) a
stmt_spot (T.HaveStmt q s) a = HaveStmt q (P.plain_stmts s.items) a

abbrev pub use_of : Use → Head → Q.Use
use_of W.Wire h = AsWire h
use_of W.Reg h = AsReg h
use_of (W.Port d) h = AsPort d h

abbrev pub item_spot : ItemSpot → Outer → ItemPlace
item_spot I.Begin w = Begin (styled w.style)
item_spot I.HeadName w = HeadName (styled w.style)
item_spot I.HeadOpen w = HeadOpen (styled w.style) w.tree.name.bytes
item_spot I.WantPort w = WantPort (head_of w)
item_spot I.InputRead w = InputRead (head_of w)
item_spot I.OutputRead w = OutputRead (head_of w)
item_spot (I.WantRange u) w = WantRange (use_of u (head_of w))
item_spot (I.WantHigh u) w = WantHigh (use_of u (head_of w))
item_spot (I.WantColon u i) w = WantColon (use_of u (head_of w)) i.value
item_spot (I.WantZero u i) w = WantZero (use_of u (head_of w)) i.value
item_spot (I.WantBracket u i) w = WantBracket (use_of u (head_of w)) i.value
item_spot (I.WantName u n) w = WantName (use_of u (head_of w)) n
item_spot (I.NameRead u n) w = NameRead (use_of u (head_of w)) n
item_spot I.PortsRead w = PortsRead (head_of w)
item_spot I.Want w = WantItem (head_of w)
item_spot I.AssignRead w = AssignRead (head_of w)
item_spot (I.DriveRead n) w = DriveRead (head_of w) n.bytes
item_spot I.AlwaysRead w = AlwaysRead (head_of w)
item_spot I.AtRead w = AtRead (head_of w)
item_spot I.ClockOpen w = ClockOpen (head_of w)
item_spot I.EdgeRead w = EdgeRead (head_of w)
item_spot I.ClockRead w = ClockRead (head_of w) w.clock.bytes
item_spot I.Ended w = Ended (head_of w)

-- the state of the machine
abbrev pub state_of : Place → Outer → State
state_of (InExpr s c) w = AtExpr (standing s c (nests_of w.nests.items (alone_of w)))
state_of (InStmt s) w = AtStmt (stmt_spot s (around_of w))
state_of (InItem s) w = AtItem (item_spot s w)
