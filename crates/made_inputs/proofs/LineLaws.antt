-- A march on a line is a text of it: a text of elements may end in a line feed.
use Rattle.std.proofs.Common.{ℕ, ◌==◌, Bool, true, false, List, [], ◌∷◌, ◌++◌, ◌⊎◌, inl, inr, codes, Ok}
use Rattle.bist_text.specs.Grammar.{finish, when, byte, word, one_of}
use Rattle.march_core.specs.declared.operation.Op.{Op}
use Rattle.march_core.specs.March.{MarchElement, pause, sweep, IsMarch}
use Rattle.march_syntax.specs.Answers.{Reads}
use Rattle.march_syntax.specs.MarchText.{is_white, ws, spellings, pause_spellings, op_text, more_ops, ops, body, element, more_elements, close, listed, MarchText}
use Rattle.march_syntax.specs.Printed.{printed}
use Rattle.made_inputs.specs.MadeMarch.{line_of}

-- what is a text is one with a line feed behind it
abbrev Trails : (List ℕ → Type 0) → Type 0
Trails K = (b : List ℕ) → K b → K (b ++ 10 ∷ [])

when_on : (t : Bool) (P Q : Type 0) → (P → Q) → when t P → when t Q
when_on true P Q f h = f h
when_on false P Q f h = h

byte_trails : (c : ℕ) (K : List ℕ → Type 0) → Trails K → Trails (byte c K)
byte_trails c K t [] h = absurd h
byte_trails c K t (x ∷ b) h = when_on (x == c) (K b) (K (b ++ 10 ∷ [])) (t b) h

word_trails : (w : List ℕ) (K : List ℕ → Type 0) → Trails K → Trails (word w K)
word_trails [] K t = t
word_trails (c ∷ w) K t = byte_trails c (word w K) (word_trails w K t)

one_of_trails : (texts : List (List ℕ)) (K : List ℕ → Type 0) → Trails K → Trails (one_of texts K)
one_of_trails [] K t b h = absurd h
one_of_trails (w ∷ more) K t b (inl h) = inl (word_trails w K t b h)
one_of_trails (w ∷ more) K t b (inr h) = inr (one_of_trails more K t b h)

ws_trails : (K : List ℕ → Type 0) → Trails K → Trails (ws K)
ws_trails K t [] h = inl (t [] h)
ws_trails K t (x ∷ b) (inl h) = inl (t (x ∷ b) h)
ws_trails K t (x ∷ b) (inr h) = inr (when_on (is_white x) (ws K b) (ws K (b ++ 10 ∷ [])) (ws_trails K t b) h)

end_trails : Trails (ws finish)
end_trails [] h = inr tt
end_trails (x ∷ b) (inl h) = absurd h
end_trails (x ∷ b) (inr h) = inr (when_on (is_white x) (ws finish b) (ws finish (b ++ 10 ∷ [])) (end_trails b) h)

more_ops_trails : (os : List Op) (K : List ℕ → Type 0) → Trails K → Trails (more_ops os K)
more_ops_trails [] K t = t
more_ops_trails (o ∷ os) K t =
    ws_trails (word (codes ",") (ws (word (op_text o) (more_ops os K))))
    (word_trails (codes ",") (ws (word (op_text o) (more_ops os K)))
    (ws_trails (word (op_text o) (more_ops os K)) (word_trails (op_text o) (more_ops os K) (more_ops_trails os K t))))

ops_trails : (os : List Op) (K : List ℕ → Type 0) → Trails K → Trails (ops os K)
ops_trails [] K t b h = absurd h
ops_trails (o ∷ os) K t b h = word_trails (op_text o) (more_ops os K) (more_ops_trails os K t) b h

body_trails : (os : List Op) (K : List ℕ → Type 0) → Trails K → Trails (body os K)
body_trails os K t =
    let end = ws_trails (word (codes ")") K) (word_trails (codes ")") K t) in
    let listing = ops_trails os (ws (word (codes ")") K)) end in
    ws_trails (word (codes "(") (ws (ops os (ws (word (codes ")") K)))))
    (word_trails (codes "(") (ws (ops os (ws (word (codes ")") K)))) (ws_trails (ops os (ws (word (codes ")") K))) listing))

element_trails : (e : MarchElement) (K : List ℕ → Type 0) → Trails K → Trails (element e K)
element_trails pause K t = one_of_trails pause_spellings K t
element_trails (sweep order os) K t = one_of_trails (spellings order) (body os K) (body_trails os K t)

more_elements_trails : (es : List MarchElement) (K : List ℕ → Type 0) → Trails K → Trails (more_elements es K)
more_elements_trails [] K t = t
more_elements_trails (e ∷ es) K t =
    let rest = element_trails e (more_elements es K) (more_elements_trails es K t) in
    ws_trails (word (codes ";") (ws (element e (more_elements es K))))
    (word_trails (codes ";") (ws (element e (more_elements es K))) (ws_trails (element e (more_elements es K)) rest))

close_trails : (braced : Bool) → Trails (ws (close braced))
close_trails true = ws_trails (word (codes "}") (ws finish)) (word_trails (codes "}") (ws finish) end_trails)
close_trails false = end_trails

listed_trails : (braced : Bool) (e : MarchElement) (es : List MarchElement) → Trails (listed braced (e ∷ es))
listed_trails braced e es b h =
    element_trails e (more_elements es (ws (close braced))) (more_elements_trails es (ws (close braced)) (close_trails braced)) b h

text_trails : (e : MarchElement) (es : List MarchElement) → Trails (λ b. MarchText b (e ∷ es))
text_trails e es = ws_trails (λ x. word (codes "{") (ws (listed true (e ∷ es))) x ⊎ listed false (e ∷ es) x) either
  where
    either : Trails (λ x. word (codes "{") (ws (listed true (e ∷ es))) x ⊎ listed false (e ∷ es) x)
    either b (inl h) = inl (word_trails (codes "{") (ws (listed true (e ∷ es))) (ws_trails (listed true (e ∷ es)) (listed_trails true e es)) b h)
    either b (inr h) = inr (listed_trails false e es b h)

pub line_reads : (march : List MarchElement) → MarchText (printed march) march → IsMarch march → Reads (line_of march) (Ok march)
line_reads [] text accepted = let some = accepted.some in cc
line_reads (e ∷ es) text accepted = (text_trails e es (printed (e ∷ es)) text, accepted)
