-- The names that several proofs cite, passed on from one place. Declares nothing.
pub use Rattle.std.proofs.Common.{Bool, Err, List, None, Ok, Option, Result, Some, SomeIff, [], ap, append_assoc, arith, cond, drop, drop-cons, false, find, if◌then◌else◌, inl, inr, length, length-drop, refl, subst, suc, sym, take, take-take, take_all, true, unwrap_or, zero, zero-le, ℕ, ◌&&◌, ◌++◌, ◌+◌, ◌-◌, ◌<◌, ◌==◌, ◌↔◌, ◌∙◌, ◌∷◌, ◌≡◌, ◌≤◌, ◌⊎◌}
pub use Rattle.std.proofs.lemmas.Bool.{and_from, and_parts, eq-eqb, eqb-true, lt-ltb, ltb-true}
pub use Rattle.std.specs.List.{list_all}
pub use Rattle.std.specs.Option.{IsSome}
pub use Rattle.std.specs.Prelude.{MatchResult, get_or, nat_le, nat_lt, option_map, slice_get}
pub use Rattle.std.specs.Str.Parse.{AllDigits, digits_value}
pub use Rattle.bist_text.proofs.KeywordLaws.{IsOf, spell_alive, spell_ends, spell_law, stands_all}
pub use Rattle.bist_text.proofs.LinePieces.{apart, at_bool, gap_off, gap_on, of_blank, space_off, space_on, tail_blank, tail_other, when_false, when_holds, when_true}
pub use Rattle.bist_text.proofs.LineStops.{IsPlain, is_run, plain_blank, run_of, run_parts}
pub use Rattle.bist_text.proofs.Pieces.{back, many_none, same}
pub use Rattle.bist_text.specs.Grammar.{Continues, are_bytes, byte, is_blank, one_of, word}
pub use Rattle.bist_text.specs.Identifiers.{begins_identifier, in_identifier, is_digit, is_identifier}
pub use Rattle.bist_text.specs.KeyedTexts.{AreRefused, IsLineFault, LineOf, Say, Statement, at_line, content_of, known, or_else, stated, unless_there}
pub use Rattle.bist_text.specs.Keywords.{Word, letters_of, spell}
pub use Rattle.bist_text.specs.LineGrammar.{comment, gap, space, tail}
pub use Rattle.bist_text.specs.Lines.{TextLine}
pub use Rattle.bist_text.specs.Machine.{Holds, Outcome, read, truncated, unexpected}
pub use Rattle.bist_text.specs.inner.Keywords.{all_words, are_apart, left, stands}
pub use Rattle.bist_text.specs.inner.Machine.{Answers, IsExact}
pub use Rattle.bist_text.specs.keyed.Lines.{answer, keyed_of, line_of}
pub use Rattle.bist_text.specs.keyed.Parts.{Class, all_fit, all_of, begun_by, behind_of, by_byte, by_item, by_letter, byte_of, comment_of, end_of, ends_with, fits_of, front_of, gap_of, is_hash, is_hex_digit, is_word, items_from, items_of, key_from, key_of, later, length_of, no_letters, number_of, remark_of, spaced, up_to, word_of}
pub use Rattle.bist_text.specs.keyed.Reading.{Read, onward, outcome, stuck, took}
pub use Rattle.bist_text.specs.keyed.Texts.{all_stated, carried, checked, said_in, step, versions, walk}
