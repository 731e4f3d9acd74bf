-- Trusted. The port of a module that is not as a self-test module has it.
use Rattle.std.specs.Prelude.{◌≡◌, ◌⊎◌, ℕ, Bool, true, false, not, ◌&&◌, ◌||◌, nat_eq, if◌then◌else◌, List, [], ◌∷◌, ◌++◌, Option, Some, None}
use Rattle.std.specs.List.{AllByRecursion}
use Rattle.std.specs.Str.{bytes_eq}
use Rattle.verilog_tree.specs.declared.tree.Dir.{Dir}
use Rattle.verilog_tree.specs.Plain.{ModulePort}
use Rattle.verilog_tree.specs.Names as N
use Rattle.memory_desc.specs.Descriptions.{Description}
use Rattle.self_test.specs.Ports.{ports}

abbrev pub is_input : Dir → Bool
is_input dir = N.is_input (N.kind_of dir)

-- an output may be a register
abbrev pub same_direction : Dir → Dir → Bool
same_direction one other = if is_input one then is_input other else not (is_input other)

abbrev pub same_port : ModulePort → ModulePort → Bool
same_port p q = bytes_eq p.name q.name && (same_direction p.dir q.dir && nat_eq p.width q.width)

abbrev pub has_port : ModulePort → List ModulePort → Bool
has_port p [] = false
has_port p (q ∷ qs) = same_port p q || has_port p qs

abbrev pub has_name : List ℕ → List ModulePort → Bool
has_name n [] = false
has_name n (q ∷ qs) = bytes_eq n q.name || has_name n qs

-- the name of the first port of the list that isn't among these
abbrev pub missing : List ModulePort → List ModulePort → Option (List ℕ)
missing [] qs = None
missing (p ∷ list) qs = if has_port p qs then missing list qs else Some p.name

-- the name of the first of these that is no port of the list, or has the name of one before it
abbrev pub further : List ModulePort → List ModulePort → List ModulePort → Option (List ℕ)
further list before [] = None
further list before (q ∷ qs) = if has_port q list && not (has_name q.name before) then further list (before ++ q ∷ []) qs else Some q.name

abbrev pub or_else : Option (List ℕ) → Option (List ℕ) → Option (List ℕ)
or_else (Some n) other = Some n
or_else None other = other

-- the first port of the list that is missing, goes another way or has another width, else the first further one
abbrev pub wrong_port : Description → List ModulePort → Option (List ℕ)
wrong_port d qs = or_else (missing (ports d) qs) (further (ports d) [] qs)

-- the ports of a self-test module, in any order: each is there, there are no others, and none stands twice
pub record ArePorts (d : Description) (qs : List ModulePort) : Type 0 where
  pub each : AllByRecursion (λ p. has_port p qs ≡ true) (ports d)
  pub only : AllByRecursion (λ q. has_port q (ports d) ≡ true) qs
  pub once : (before : List ModulePort) (q : ModulePort) (behind : List ModulePort) → qs ≡ before ++ q ∷ behind
      → has_name q.name before ≡ false

-- this names the first port of the list that isn't among these: those before it are
pub record IsFirstMissing (list qs : List ModulePort) (name : List ℕ) : Type 0 where
  pub before : List ModulePort
  pub port : ModulePort
  pub behind : List ModulePort
  pub split : list ≡ before ++ port ∷ behind
  pub named : name ≡ port.name
  pub absent : has_port port qs ≡ false
  pub there : AllByRecursion (λ p. has_port p qs ≡ true) before

-- this names the first of these that is no port of the list, or has the name of one before it: those before it are ports of the
-- list with names of their own
pub record IsFirstFurther (list qs : List ModulePort) (name : List ℕ) : Type 0 where
  pub before : List ModulePort
  pub port : ModulePort
  pub behind : List ModulePort
  pub split : qs ≡ before ++ port ∷ behind
  pub named : name ≡ port.name
  pub wrong : (has_port port list ≡ false) ⊎ (has_name port.name before ≡ true)
  pub only : AllByRecursion (λ q. has_port q list ≡ true) before
  pub once : (b : List ModulePort) (q : ModulePort) (rest : List ModulePort) → before ≡ b ++ q ∷ rest → has_name q.name b ≡ false

-- the port that is told: the first that is missing, or, where none is, the first further one
abbrev pub IsWrongPort : Description → List ModulePort → List ℕ → Type 0
IsWrongPort d qs name =
    IsFirstMissing (ports d) qs name ⊎ (AllByRecursion (λ p. has_port p qs ≡ true) (ports d) × IsFirstFurther (ports d) qs name)
