-- A text is read in one way: as what the reader hears in it.
use Rattle.chip_desc.proofs.Common.{ChipDescription, ChipFault, Content, ContentText, List, None, Option, Result, Some, ChipVersion, ap, by_lines, by_statements, heard, inl, inr, is_formed, reading, refl, refusal, said, stands, statements, subst, sym, text_lines, true, version_at, version_in, walk, ℕ, ◌↔◌, ◌∙◌, ◌≡◌}
use Rattle.bist_text.specs.declared.keyed_lines.TextFault.{TextFault}
use Rattle.chip_desc.specs.ChipTable.{Reads}
use Rattle.chip_desc.specs.declared.content.ChipVersion.TheVariants.{One}
use Rattle.chip_desc.proofs.ArgumentLaws.{line_exact}
use Rattle.bist_text.proofs.keyed.Texts as Texts

wide : (v : Option ChipVersion) (c : Content) → stands v c ≡ true → stands (Some One) c ≡ true
wide v c h = refl

-- what a line says is formed
pub formed_said : (b : List ℕ) (c : Content) → said b ≡ Some c → is_formed c ≡ true
formed_said b c e = (Texts.text_said ContentText stands version_in heard line_exact One wide b c e).0

by_walk : (bytes : List ℕ) {o : Option TextFault} → walk version_at (text_lines bytes) None ≡ o → reading bytes ≡ by_lines o (statements (text_lines bytes))
by_walk bytes e = ap (λ o. by_lines o (statements (text_lines bytes))) e

reads_heard : (bytes : List ℕ) (r : Result ChipDescription ChipFault) → Reads bytes r → reading bytes ≡ r
unfolding Reads
reads_heard bytes r h = elim h [
  | inl a ↦ by_walk bytes (Texts.refused_heard ContentText stands version_in heard line_exact (text_lines bytes) None a.0 a.1) ∙ sym a.2
  | inr s ↦ (
      let q = Texts.say_heard ContentText stands version_in heard line_exact One wide (text_lines bytes) None s.0 s.1 in
      by_walk bytes q.0 ∙ ap (λ ss. by_statements (refusal ss) ss) q.1 ∙ sym s.2
      )
]

heard_reads : (bytes : List ℕ) → Reads bytes (reading bytes)
unfolding Reads
heard_reads bytes = go (walk version_at (text_lines bytes) None) refl
  where
    go : (o : Option TextFault) → walk version_at (text_lines bytes) None ≡ o → Reads bytes (reading bytes)
    go None e = inr (statements (text_lines bytes), Texts.heard_say ContentText stands version_in heard line_exact One wide (text_lines bytes) None e, by_walk bytes e)
    go (Some f) e = inl (f, Texts.heard_refused ContentText stands version_in heard line_exact (text_lines bytes) None f e, by_walk bytes e)

-- what is answered
pub reads_as : (bytes : List ℕ) (r : Result ChipDescription ChipFault) → r ≡ reading bytes → (q : Result ChipDescription ChipFault) → (r ≡ q) ↔ Reads bytes q
reads_as bytes r a q = (λ e. subst (Reads bytes) (sym a ∙ e) (heard_reads bytes), λ h. a ∙ reads_heard bytes q h)

-- A text is read in one way.
pub reads_one : (bytes : List ℕ) (q r : Result ChipDescription ChipFault) → Reads bytes q → Reads bytes r → q ≡ r
reads_one bytes q r h k = sym (reads_heard bytes q h) ∙ reads_heard bytes r k
