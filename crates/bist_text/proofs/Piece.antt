-- A piece of a grammar, with what every piece meets: what follows it may be weakened, and what exists
-- behind it exists before it.
use Rattle.std.proofs.Common.{List}

pub record Piece {A : Type 0} (F : (List A → Type 0) → List A → Type 0) : Type 1 where
  pub map : (K L : List A → Type 0) → ((r : List A) → K r → L r) → (ts : List A) → F K ts → F L ts
  pub pull : (X : Type 0) (P : X → List A → Type 0) (ts : List A) → F (λ r. (x : X) × P x r) ts → (x : X) × F (P x) ts

-- one piece behind another
pub joined : {A : Type 0} (F G : (List A → Type 0) → List A → Type 0) → Piece F → Piece G → Piece (λ K. F (G K))
joined F G f g = record {
  map = λ K L h ts. f.map (G K) (G L) (g.map K L h) ts;
  pull = λ X P ts h. f.pull X (λ x. G (P x)) ts (f.map (G (λ r. (x : X) × P x r)) (λ r. (x : X) × G (P x) r) (g.pull X P) ts h);
}
