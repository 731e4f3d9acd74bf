-- Inner. What the code's holders are.
use Rattle.std.specs.Prelude.{List, [], ◌∷◌, map}
use Rattle.verilog_tree.specs.Plain as P
use Rattle.verilog_tree.specs.inner.Plain as PInner
use Rattle.verilog_text.specs.Places.{Head, Around, InAlways, InBlock, InThen, InElse, InArm, InDefault, Alone, AsDriver, AsCondition, AsSubject, AsValue}
use Rattle.verilog_read.specs.declared.places.Purpose.TheVariants as B
use Rattle.verilog_read.specs.declared.places.Purpose.{Purpose}
use Rattle.verilog_read.specs.declared.places.Case.{Case}
use Rattle.verilog_read.specs.declared.places.Holder.TheVariants as H
use Rattle.verilog_read.specs.declared.places.Holder.{Holder}
use Rattle.verilog_read.specs.declared.places.Outer.{Outer}
use Rattle.verilog_read.specs.Style.{styled}

abbrev pub arms_of : Case → P.Arms
arms_of k = P.arms (map PInner.plain_arm k.arms.items)

abbrev pub holder : Holder → Around → Around
holder (H.Block r old) a = InBlock r (P.plain_stmts old.items) a
holder (H.Then r c) a = InThen r (P.plain c) a
holder (H.Else r c s) a = InElse r (P.plain c) (P.plain_stmts s.items) a
holder (H.Labelled k ls) a = InArm k.depth (P.plain k.subject) (arms_of k) ls.items a
holder (H.Other k) a = InDefault k.depth (P.plain k.subject) (arms_of k) a

abbrev pub holders : List Holder → Around → Around
holders [] a = a
holders (h ∷ hs) a = holders hs (holder h a)

abbrev pub head_of : Outer → Head
head_of w = record { style = styled w.style; name = w.tree.name.bytes; ports = map P.plain_port w.tree.ports.items; items = map P.plain_item w.tree.items.items }

-- what a statement stands in
abbrev pub around_of : Outer → Around
around_of w = holders w.holders.items (InAlways (head_of w) w.clock.bytes)

abbrev pub alone : Purpose → Head → Around → Alone
alone (B.Drive n) h a = AsDriver h n.bytes
alone (B.Test r q) h a = AsCondition r q a
alone (B.Pick r q) h a = AsSubject r q a
alone (B.Set n) h a = AsValue n.bytes a

-- what the whole expression stands in
abbrev pub alone_of : Outer → Alone
alone_of w = alone w.base (head_of w) (around_of w)
