-- Inner. The ports of a cycle, one by one, and the first that is not as it is wanted.
use Rattle.std.specs.Prelude.{ℕ, Bool, false, cond, nat_eq, List, [], ◌∷◌, Option, Some, None, codes}
use Rattle.word_march.specs.PortRule.{PortValues}
use Rattle.verilog_open.specs.Open.{OpenEnv}
use Rattle.port_check.specs.declared.compare.ComparedPort.{ComparedPort}
use Rattle.port_check.specs.declared.compare.ComparedPort.TheVariants as P
use Rattle.port_check.specs.declared.compare.Wrong.{Wrong}
use Rattle.port_check.specs.declared.compare.Wanted.{Wanted}
use Rattle.port_check.specs.Compared.{PortValue}

abbrev pub name_of : ComparedPort → List ℕ
name_of P.En = codes "en"
name_of P.We = codes "we"
name_of P.Addr = codes "addr"
name_of P.Wdata = codes "wdata"
name_of P.Done = codes "done"

-- a port that is not as it is wanted, and what it has
pub record Amiss : Type 0 where
  pub name : List ℕ
  pub wanted : ℕ
  pub got : Option ℕ

-- what is there is this number
abbrev pub is_number : Option ℕ → ℕ → Bool
is_number None v = false
is_number (Some a) v = nat_eq a v

-- the first of these ports that hasn't its number
abbrev pub first_amiss : OpenEnv → List PortValue → Option Amiss
first_amiss o [] = None
first_amiss o (p ∷ ps) = cond (is_number (o p.name) p.value) (first_amiss o ps)
    (Some (record { name = p.name; wanted = p.value; got = o p.name }))

abbrev pub amiss : Option Wrong → Option Amiss
amiss None = None
amiss (Some w) = Some (record { name = name_of w.port; wanted = w.wanted; got = w.got })

-- ports that the rule wants, with any `fail`
abbrev pub ports_of : Wanted → PortValues
ports_of w = record { en = w.en; we = w.we; addr = w.addr; wdata = w.wdata; done = w.done; fail = false }
