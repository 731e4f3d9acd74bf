-- Public. A place in a text, and the text.
use Rattle.std.specs.Prelude.{ℕ, List, drop}

pub record TextPlace : Type 0 where
  pub text : List ℕ
  pub place : ℕ

-- what stands from the place on
abbrev pub left_of : TextPlace → List ℕ
left_of p = drop p.place p.text
