-- A text is read as one memory, or refused in one way.
use Rattle.memory_desc.proofs.Common.{AreStatements, ContentText, Describes, Description, Err, List, MemoryFault, None, Ok, Reads, Result, Some, Statement, ap, heard, inl, inr, of_lines, refl, some_same, stands, subst, sym, text_lines, version_at, version_in, walk, ℕ, ◌↔◌, ◌∙◌, ◌≡◌, ◌⊎◌}
use Rattle.bist_text.specs.declared.keyed_lines.TextFault.{TextFault}
use Rattle.memory_desc.specs.inner.Heard.{statements}
use Rattle.memory_desc.proofs.Determined.{describes_one}
use Rattle.memory_desc.proofs.LineLaws.{line_exact}
use Rattle.memory_desc.proofs.OneText.{are_heard, heard_are}
use Rattle.bist_text.proofs.keyed.Texts as Texts

-- what the reader hears: a line is refused, or the statements describe a memory or are refused
abbrev pub Hears : List ℕ → Result Description MemoryFault → Type 0
Hears bytes r =
    ((f : TextFault) × (walk version_at (text_lines bytes) None ≡ Some f) × (r ≡ Err (of_lines f)))
    ⊎ ((walk version_at (text_lines bytes) None ≡ None) × Describes (statements (text_lines bytes)) r)

by_statements : (bytes : List ℕ) (r : Result Description MemoryFault) → (ss : List Statement) × AreStatements bytes ss × Describes ss r → Hears bytes r
by_statements bytes r h = (let a = are_heard bytes h.0 h.1 in inr (a.0, subst (λ (ss : List Statement). Describes ss r) (sym a.1) h.2))

reads_heard : (bytes : List ℕ) (r : Result Description MemoryFault) → Reads bytes r → Hears bytes r
reads_heard bytes (Ok d) h = by_statements bytes (Ok d) h
reads_heard bytes (Err f) h = elim h [
  | inl a ↦ inl (a.0, Texts.refused_heard ContentText stands version_in heard line_exact (text_lines bytes) None a.0 a.1, ap Err a.2)
  | inr s ↦ by_statements bytes (Err f) s
]

heard_reads : (bytes : List ℕ) (r : Result Description MemoryFault) → Hears bytes r → Reads bytes r
heard_reads bytes r h = elim h [
  | inl a ↦ subst (Reads bytes) (sym a.2) (inl (a.0, Texts.heard_refused ContentText stands version_in heard line_exact (text_lines bytes) None a.0 a.1, refl))
  | inr a ↦ go r (statements (text_lines bytes), heard_are bytes a.0, a.1)
]
  where
    go : (r : Result Description MemoryFault) → (ss : List Statement) × AreStatements bytes ss × Describes ss r → Reads bytes r
    go (Ok d) s = s
    go (Err f) s = inr s

hears_one : (bytes : List ℕ) (r s : Result Description MemoryFault) → Hears bytes r → Hears bytes s → r ≡ s
hears_one bytes r s h k = elim h [
  | inl a ↦ elim k [ inl b ↦ a.2 ∙ ap (λ f. Err (of_lines f)) (some_same a.0 b.0 (sym a.1 ∙ b.1)) ∙ sym b.2 | inr b ↦ (let e = a.1 in let f = b.0 in let z : ⊥ = cc in absurd z) ]
  | inr a ↦ elim k [ inl b ↦ (let e = b.1 in let f = a.0 in let z : ⊥ = cc in absurd z) | inr b ↦ describes_one (statements (text_lines bytes)) r s a.1 b.1 ]
]

-- what is heard is what the text is read as
pub reading : (bytes : List ℕ) (r : Result Description MemoryFault) → Hears bytes r → (q : Result Description MemoryFault) → (r ≡ q) ↔ Reads bytes q
reading bytes r h q = (λ e. heard_reads bytes q (subst (Hears bytes) e h), λ k. hears_one bytes r q h (reads_heard bytes q k))

-- A text is read in one way.
pub reads_one : (bytes : List ℕ) (r s : Result Description MemoryFault) → Reads bytes r → Reads bytes s → r ≡ s
reads_one bytes r s h k = hears_one bytes r s (reads_heard bytes r h) (reads_heard bytes s k)
