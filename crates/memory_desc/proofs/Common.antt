-- The names that several proofs cite, passed on from one place. Declares nothing.
pub use Rattle.std.proofs.Common.{Bool, Err, IsTrue, List, None, Ok, Option, Result, Some, [], add-one, ap, append-nil, append_assoc, arith, bit_or, bit_xor, codes, cond, false, get_or, if◌then◌else◌, inl, inr, is_some, length, lit<, lit≤, nat_eq, not, refl, replicate, slice_index, slice_set, subst, suc, sym, take, true, zero, ℕ, ◌%◌, ◌&&◌, ◌*◌, ◌++◌, ◌+◌, ◌-◌, ◌/◌, ◌<◌, ◌==◌, ◌^◌, ◌||◌, ◌↔◌, ◌∙◌, ◌∷◌, ◌≡◌, ◌≢◌, ◌≤◌, ◌⊎◌}
pub use Rattle.std.proofs.Math.ListN.{drop}
pub use Rattle.std.proofs.Math.Nat.{le_antisymm, one-mul, pow-suc, zero-mul}
pub use Rattle.std.proofs.Math.Path.{ap₂}
pub use Rattle.std.proofs.Math.Pow.{pow-lt}
pub use Rattle.std.proofs.Math.Seq.{take-append_seam, take-length}
pub use Rattle.std.proofs.lemmas.Bool.{and_from, and_parts, cases_lt, eq-eqb, eqb-true, le-leb, le-ltb, leb-false, lt-leb, lt-ltb, ltb-false, ne_eqb, or_left, or_parts, or_right}
pub use Rattle.std.proofs.lemmas.Bool.Decides.{nat_tests}
pub use Rattle.std.proofs.lemmas.Grind.{get_or_default_zero}
pub use Rattle.std.proofs.lemmas.List.{get_or-set_other, get_or-set_same, length-append, length-set, take_all, take_more}
pub use Rattle.std.proofs.lemmas.List.Folds.{find-append, list_all-append}
pub use Rattle.std.proofs.lemmas.Nat.{pow_pos, xor_comm, xor_lt}
pub use Rattle.std.proofs.lemmas.Nat.Bits.{bit_at-lt, bit_at-pow_same, shr_and_one}
pub use Rattle.std.proofs.lemmas.Result.{err_from_is_err_and, on_ok_weaker}
pub use Rattle.std.specs.Char.{digit_value, is_newline}
pub use Rattle.std.specs.Int.{bit_at, from_bool, is_power_of_two}
pub use Rattle.std.specs.Int.Bits.{xor_assoc, xor_shifted, xor_zero_l, xor_zero_r}
pub use Rattle.std.specs.List.{list_all, list_any, onto_first, refill, slice_split}
pub use Rattle.std.specs.Option.{IsSome, option_or}
pub use Rattle.std.specs.Prelude.{All, Contains, MatchResult, decimal, find, nat_le, nat_lt, option_map, slice_get}
pub use Rattle.std.specs.Str.Parse.{AllDigits, digits_value}
pub use Rattle.backgrounds.specs.Backgrounds.{IsLogSet}
pub use Rattle.bist_bits.specs.Width.{IsWidthOf}
pub use Rattle.bist_text.proofs.LinePieces.{apart, at_bool, gap_off, gap_on, tail_blank, tail_other, when_false}
pub use Rattle.bist_text.proofs.LineStops.{no_mark}
pub use Rattle.bist_text.proofs.Pieces.{at_byte, many_none, same, word_on}
pub use Rattle.bist_text.proofs.keyed.Checks.{alone, here, is_there, next, none_first, passed, some_same, stopped, there}
pub use Rattle.bist_text.proofs.keyed.Classes.{run_is}
pub use Rattle.bist_text.proofs.keyed.Found.{found_fails, found_passes, none_at, said_found, said_there}
pub use Rattle.bist_text.proofs.keyed.Items.{IsNext, choice_shortens, Shortens, Shorter, longer, made_shorter, no_item, one_item, onward_on, some_shortens, spaced_shorter, weaker, word_shortens}
pub use Rattle.bist_text.proofs.keyed.PartLaws.{Remark, remark_told}
pub use Rattle.bist_text.proofs.keyed.Told.{Behind, Told, told_from, told_iff}
pub use Rattle.bist_text.specs.Grammar.{Continues, are_bytes, byte, is_blank, word}
pub use Rattle.bist_text.specs.KeyedTexts.{LineOf, Say, first_refusal, or_else, unless_there}
pub use Rattle.bist_text.specs.LineGrammar.{gap, space, tail}
pub use Rattle.bist_text.specs.Lines.{TextLine, lines_from, lines_left, lines_of_parts, text_lines}
pub use Rattle.bist_text.specs.Numbers.{hex_digits, word_text}
pub use Rattle.bist_text.specs.ReservedWords.{is_among, reserved_words}
pub use Rattle.bist_text.specs.declared.keyed_lines.WordKind.TheVariants.{Number}
pub use Rattle.bist_text.specs.keyed.Parts.{by_byte, by_item, byte_of, end_of, fits_of, remark_of, spaced, word_of}
pub use Rattle.bist_text.specs.keyed.Reading.{Read, onward, stuck, took}
pub use Rattle.bist_text.specs.keyed.Texts.{checked, walk}
pub use Rattle.memory_desc.specs.Described.{AreOfMemory, IsScrambling, described}
pub use Rattle.memory_desc.specs.Descriptions.{Description, IsBackgrounds, IsMemory, assembled}
pub use Rattle.memory_desc.specs.LineText.{Content, ContentText, Term, argument, backgrounds, bits, constant, equation, index_bit, is_formed, is_hex, key_text, kind_of, latency, log, more_terms, more_words, name, pause, polarity, scramble, version, words}
pub use Rattle.memory_desc.specs.Names.{IsName, is_digit, is_identifier, is_letter, is_name_byte}
pub use Rattle.memory_desc.specs.Printed.{argument_text, contents, index_terms, is_plain, line_text, lines_text, one_term, printed, row_terms, rows_printed, term_text, terms_text, version_number, with_ports, with_rows, words_text}
pub use Rattle.memory_desc.specs.Statements.{Statement, may_stand, stands, version_in}
pub use Rattle.memory_desc.specs.Subjects.{about, content_of, is_about, is_same, subject}
pub use Rattle.memory_desc.specs.Table.{AreRefusedBy, AreStatements, Describes, IsLast, Reads, at_line, is_other, is_row, is_term_too_wide, missing, missing_row, of_lines, out_of_range, repeated, too_many, too_wide, unfit, unrowed, unscramblable, unserved, unsized, without_solid}
pub use Rattle.memory_desc.specs.Values.{AreBackgrounds, bits_said, constant_of, index_bits, latency_in, latency_said, matrix_said, name_in, name_said, number_in, pause_in, pause_said, polarity_in, polarity_said, rows_said, terms_in, terms_said, words_said}
pub use Rattle.memory_desc.specs.declared.content.Key.TheVariants.{Memory, Scramble}
pub use Rattle.memory_desc.specs.declared.content.Subject.{Subject}
pub use Rattle.memory_desc.specs.declared.content.Version.TheVariants.{One, Two}
pub use Rattle.memory_desc.specs.declared.fault.MemoryFault.{MemoryFault}
pub use Rattle.memory_desc.specs.declared.fault.MemoryFault.TheVariants.{Missing, Repeated, ScrambleNeedsPowerOfTwo, Singular}
pub use Rattle.memory_desc.specs.inner.Heard.{IsWhole, argument_of, heard, items_after, items_in, hex_word_of, is_caret, is_l, keys_in, keys_of, listed_of, log_of, marked_term_of, next_term_of, next_word_of, spaced_word_of, term_of, version_at, words_of}
pub use Rattle.memory_desc.specs.inner.Met.{MayBeMet, MayHave}
pub use Rattle.memory_desc.specs.inner.Printed.{Adds, further}
pub use Rattle.memory_desc.specs.inner.Seeking.{is_sought}
pub use Rattle.memory_desc.specs.inner.Seen.{number_or, plain_content, plain_line_content, plain_statement}
pub use Rattle.memory_desc.specs.inner.Standing.{GivesBackgrounds, GivesScrambling}
pub use Rattle.scrambler.proofs.LinearLemmas.{bit_at-number, dot-zero_left, dot_below, number-below, number-bits, two_digits}
pub use Rattle.scrambler.specs.Scrambling.{IsFull, IsInvertible, IsWithin, Scrambling, identity, is_identity, matrix_of, product}
