-- The statements of a text are those that the reader hears in it.
use Rattle.memory_desc.proofs.Common.{AreStatements, Content, ContentText, List, None, Option, Some, Statement, Two, heard, is_formed, refl, stands, sym, text_lines, true, version_at, version_in, walk, ℕ, ◌∙◌, ◌≡◌}
use Rattle.memory_desc.specs.inner.Heard.{said, statements}
use Rattle.memory_desc.specs.declared.content.Version.{Version}
use Rattle.memory_desc.proofs.LineLaws.{line_exact}
use Rattle.bist_text.proofs.keyed.Texts as Texts

wide : (v : Option Version) (c : Content) → stands v c ≡ true → stands (Some Two) c ≡ true
wide v c h = refl

-- what a line says is formed
pub formed_said : (b : List ℕ) (c : Content) → said b ≡ Some c → is_formed c ≡ true
formed_said b c e = (Texts.text_said ContentText stands version_in heard line_exact Two wide b c e).0

pub are_heard : (bytes : List ℕ) (ss : List Statement) → AreStatements bytes ss → (walk version_at (text_lines bytes) None ≡ None) × (statements (text_lines bytes) ≡ ss)
are_heard bytes ss a = Texts.say_heard ContentText stands version_in heard line_exact Two wide (text_lines bytes) None ss a

pub heard_are : (bytes : List ℕ) → walk version_at (text_lines bytes) None ≡ None → AreStatements bytes (statements (text_lines bytes))
heard_are bytes e = Texts.heard_say ContentText stands version_in heard line_exact Two wide (text_lines bytes) None e

-- A text has no two lists of statements.
pub statements_one : (bytes : List ℕ) (ss ts : List Statement) → AreStatements bytes ss → AreStatements bytes ts → ss ≡ ts
statements_one bytes ss ts a b = sym (are_heard bytes ss a).1 ∙ (are_heard bytes ts b).1
