-- The pieces of tokens of which the grammar is made.
use Rattle.std.proofs.Common.{ℕ, Bool, true, false, List, [], ◌∷◌, Option, Some, None, ◌↔◌, codes}
use Rattle.std.specs.Str.{bytes_eq}
use Rattle.bist_bits.specs.Vector.{Vector}
use Rattle.bist_text.proofs.Piece.{Piece, joined}
use Rattle.bist_text.specs.Grammar.{when}
use Rattle.bist_text.specs.Machine.{Holds}
use Rattle.verilog_tree.specs.Grammar.{Port, literals, colon_if, range, names, wire_if, output_of, direction, port, ports}
use Rattle.verilog_tree.specs.Pieces.{Limit, is_sign, sign, keyword, name, number, is_zero, zero_number, literal, deeper, inside, unary_mark}
use Rattle.verilog_tree.specs.Tokens.{Token, Identifier, Number, Based, Sign}
use Rattle.verilog_tree.specs.declared.tokens.Mark.{Mark}
use Rattle.verilog_tree.specs.declared.tokens.Mark.TheVariants.{OpenBracket, CloseBracket, Comma, Semicolon, Colon}
use Rattle.verilog_tree.specs.declared.tree.Dir.{Dir}
use Rattle.verilog_tree.specs.declared.tree.Dir.TheVariants.{Input, Output, OutputReg}
use Rattle.verilog_tree.specs.declared.tree.UnOp.{UnOp}
use Rattle.verilog_tree.specs.Free.{unary_if}

when_map : {P Q : Type 0} (b : Bool) → (P → Q) → when b P → when b Q
when_map true f h = f h
when_map false f h = h

when_pull : {X : Type 0} (b : Bool) (P : X → Type 0) → when b ((x : X) × P x) → (x : X) × when b (P x)
when_pull true P h = h
when_pull false P h = absurd h

pub nothing : Piece (λ (K : List Token → Type 0). K)
nothing = record { map = λ K L f ts h. f ts h; pull = λ X P ts h. h }

pub never_piece : Piece (λ (K : List Token → Type 0) (ts : List Token). ⊥)
never_piece = record { map = λ K L f ts h. h; pull = λ X P ts h. absurd h }

sign_map : (m : Mark) (K L : List Token → Type 0) → ((r : List Token) → K r → L r) → (ts : List Token) → sign m K ts → sign m L ts
sign_map m K L f [] h = h
sign_map m K L f (Sign n ∷ ts) h = when_map (is_sign m n) (f ts) h
sign_map m K L f (t ∷ ts) h = absurd h

sign_pull : {X : Type 0} (m : Mark) (P : X → List Token → Type 0) (ts : List Token) → sign m (λ r. (x : X) × P x r) ts → (x : X) × sign m (P x) ts
sign_pull m P [] h = absurd h
sign_pull m P (Sign n ∷ ts) h = when_pull (is_sign m n) (λ x. P x ts) h
sign_pull m P (t ∷ ts) h = absurd h

pub s : (m : Mark) → Piece (sign m)
s m = record { map = λ K L f ts. sign_map m K L f ts; pull = λ X P ts h. sign_pull m P ts h }

name_map : (w : List ℕ) (K L : List Token → Type 0) → ((r : List Token) → K r → L r) → (ts : List Token) → name w K ts → name w L ts
name_map w K L f [] h = h
name_map w K L f (Identifier v ∷ ts) h = (h.0, h.1, f ts h.2)
name_map w K L f (t ∷ ts) h = absurd h

name_pull : {X : Type 0} (w : List ℕ) (P : X → List Token → Type 0) (ts : List Token) → name w (λ r. (x : X) × P x r) ts → (x : X) × name w (P x) ts
name_pull w P [] h = absurd h
name_pull w P (Identifier v ∷ ts) h = (h.2.0, (h.0, h.1, h.2.1))
name_pull w P (t ∷ ts) h = absurd h

pub n : (w : List ℕ) → Piece (name w)
n w = record { map = λ K L f ts. name_map w K L f ts; pull = λ X P ts h. name_pull w P ts h }

number_map : (i : ℕ) (K L : List Token → Type 0) → ((r : List Token) → K r → L r) → (ts : List Token) → number i K ts → number i L ts
number_map i K L f [] h = h
number_map i K L f (Number l j ∷ ts) h = (h.0, f ts h.1)
number_map i K L f (t ∷ ts) h = absurd h

number_pull : {X : Type 0} (i : ℕ) (P : X → List Token → Type 0) (ts : List Token) → number i (λ r. (x : X) × P x r) ts → (x : X) × number i (P x) ts
number_pull i P [] h = absurd h
number_pull i P (Number l j ∷ ts) h = (h.1.0, (h.0, h.1.1))
number_pull i P (t ∷ ts) h = absurd h

pub i : (j : ℕ) → Piece (number j)
i j = record { map = λ K L f ts. number_map j K L f ts; pull = λ X P ts h. number_pull j P ts h }

literal_map : (y : Vector) (K L : List Token → Type 0) → ((r : List Token) → K r → L r) → (ts : List Token) → literal y K ts → literal y L ts
literal_map y K L f [] h = h
literal_map y K L f (Based x ∷ ts) h = (h.0, f ts h.1)
literal_map y K L f (t ∷ ts) h = absurd h

literal_pull : {X : Type 0} (y : Vector) (P : X → List Token → Type 0) (ts : List Token) → literal y (λ r. (x : X) × P x r) ts → (x : X) × literal y (P x) ts
literal_pull y P [] h = absurd h
literal_pull y P (Based x ∷ ts) h = (h.1.0, (h.0, h.1.1))
literal_pull y P (t ∷ ts) h = absurd h

pub l : (y : Vector) → Piece (literal y)
l y = record { map = λ K L f ts. literal_map y K L f ts; pull = λ X P ts h. literal_pull y P ts h }

keyword_map : (w : List ℕ) (K L : List Token → Type 0) → ((r : List Token) → K r → L r) → (ts : List Token) → keyword w K ts → keyword w L ts
keyword_map w K L f [] h = h
keyword_map w K L f (Identifier v ∷ ts) h = when_map (bytes_eq v w) (f ts) h
keyword_map w K L f (t ∷ ts) h = absurd h

keyword_pull : {X : Type 0} (w : List ℕ) (P : X → List Token → Type 0) (ts : List Token) → keyword w (λ r. (x : X) × P x r) ts → (x : X) × keyword w (P x) ts
keyword_pull w P [] h = absurd h
keyword_pull w P (Identifier v ∷ ts) h = when_pull (bytes_eq v w) (λ x. P x ts) h
keyword_pull w P (t ∷ ts) h = absurd h

pub k : (w : List ℕ) → Piece (keyword w)
k w = record { map = λ K L f ts. keyword_map w K L f ts; pull = λ X P ts h. keyword_pull w P ts h }

zero_map : (K L : List Token → Type 0) → ((r : List Token) → K r → L r) → (ts : List Token) → zero_number K ts → zero_number L ts
zero_map K L f [] h = h
zero_map K L f (Number l j ∷ ts) h = when_map (is_zero l j) (f ts) h
zero_map K L f (t ∷ ts) h = absurd h

zero_pull : {X : Type 0} (P : X → List Token → Type 0) (ts : List Token) → zero_number (λ r. (x : X) × P x r) ts → (x : X) × zero_number (P x) ts
zero_pull P [] h = absurd h
zero_pull P (Number l j ∷ ts) h = when_pull (is_zero l j) (λ x. P x ts) h
zero_pull P (t ∷ ts) h = absurd h

pub z : Piece zero_number
z = record { map = λ K L f ts. zero_map K L f ts; pull = λ X P ts h. zero_pull P ts h }

pub ls : (ys : List Vector) → Piece (literals ys)
ls [] = nothing
ls (y ∷ ys) = joined _ _ (s Comma) (joined _ _ (l y) (ls ys))

pub colon : (c : Bool) → Piece (colon_if c)
colon true = s Colon
colon false = nothing

pub rg : (h : Option ℕ) → Piece (range h)
rg None = nothing
rg (Some h) = joined _ _ (s OpenBracket) (joined _ _ (i h) (joined _ _ (s Colon) (joined _ _ z (s CloseBracket))))

pub ns : (ws : List (List ℕ)) → Piece (names ws)
ns [] = nothing
ns (w ∷ ws) = joined _ _ (s Comma) (joined _ _ (n w) (ns ws))

wi : (w : Bool) → Piece (wire_if w)
wi true = k (codes "wire")
wi false = nothing

out : (d : Dir) (w : Bool) → Piece (output_of d w)
out Input w = never_piece
out Output w = wi w
out OutputReg true = never_piece
out OutputReg false = k (codes "reg")

dr : (d : Dir) (w : Bool) → Piece (direction d w)
dr Input w = joined _ _ (k (codes "input")) (wi w)
dr Output w = joined _ _ (k (codes "output")) (out Output w)
dr OutputReg w = joined _ _ (k (codes "output")) (out OutputReg w)

pub pt : (p : Port) → Piece (port p)
pt p = joined _ _ (dr p.dir p.wire) (joined _ _ (rg p.range) (n p.name))

pub pts : (ps : List Port) → Piece (ports ps)
pts [] = nothing
pts (p ∷ ps) = joined _ _ (s Comma) (joined _ _ (pt p) (pts ps))

-- wires or registers
pub declared : (word : List ℕ) (h : Option ℕ) (w : List ℕ) (ws : List (List ℕ)) → Piece (λ K. keyword word (range h (name w (names ws (sign Semicolon K)))))
declared word h w ws = joined _ _ (k word) (joined _ _ (rg h) (joined _ _ (n w) (joined _ _ (ns ws) (s Semicolon))))

-- inside of an opening
pub o : (limit : Limit) (r : ℕ) (F : ℕ → (List Token → Type 0) → List Token → Type 0) → ((q : ℕ) → Piece (F q)) → Piece (λ K. inside limit r (λ q. F q K))
o limit r F f = record { map = λ K L g ts. map (deeper limit r) K L g ts; pull = λ X P ts h. pull (deeper limit r) X P ts h }
  where
    map : (w : Option ℕ) (K L : List Token → Type 0) → ((x : List Token) → K x → L x) → (ts : List Token) → Holds w (λ q. F q K ts) → Holds w (λ q. F q L ts)
    map None K L g ts h = h
    map (Some q) K L g ts h = (f q).map K L g ts h

    pull : (w : Option ℕ) (X : Type 0) (P : X → List Token → Type 0) (ts : List Token) → Holds w (λ q. F q (λ x. (y : X) × P y x) ts) → (x : X) × Holds w (λ q. F q (P x) ts)
    pull None X P ts h = absurd h
    pull (Some q) X P ts h = (f q).pull X P ts h

-- what also holds
pub given : (E : Type 0) (F : (List Token → Type 0) → List Token → Type 0) → Piece F → Piece (λ K ts. E × F K ts)
given E F f = record { map = λ K L g ts h. (h.0, f.map K L g ts h.1); pull = λ X P ts h. let g : (x : X) × F (P x) ts = f.pull X P ts h.1 in (g.0, (h.0, g.1)) }

pub u : (x : Option UnOp) → Piece (unary_if x)
u None = nothing
u (Some x) = s (unary_mark x)

-- of what follows, what is the same goes through
pub on : {F : (List Token → Type 0) → List Token → Type 0} → Piece F → (K L : List Token → Type 0) → ((r : List Token) → K r ↔ L r) → (ts : List Token) → F K ts ↔ F L ts
on f K L h ts = (f.map K L (λ r. (h r).0) ts, f.map L K (λ r. (h r).1) ts)

-- a fact that what follows shows
pub shown : {F : (List Token → Type 0) → List Token → Type 0} → Piece F → (X : Type 0) (K : List Token → Type 0) → ((r : List Token) → K r → X) → (ts : List Token) → F K ts → X
shown f X K g ts h = (f.pull X (λ x r. Unit {0}) ts (f.map K (λ r. (x : X) × Unit {0}) (λ r k. (g r k, tt)) ts h)).0
