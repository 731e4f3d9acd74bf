-- The names that several proofs cite, passed on from one place. Declares nothing.
pub use Rattle.std.proofs.Common.{Bool, Err, List, None, Ok, Option, Result, Some, [], ap, arith, cond, false, if◌then◌else◌, inl, inr, length, map, not, refl, subst, suc, sym, true, zero, ℕ, ◌&&◌, ◌++◌, ◌+◌, ◌<◌, ◌==◌, ◌||◌, ◌↔◌, ◌∙◌, ◌∷◌, ◌≡◌, ◌≤◌}
pub use Rattle.std.proofs.lemmas.Bool.{and_from, and_parts, eqb-true, le-leb, leb-true, lt-ltb, ltb-false, or_parts}
pub use Rattle.std.proofs.lemmas.List.{length-append, length-map}
pub use Rattle.std.proofs.lemmas.Str.{IsUtf8-from_ascii}
pub use Rattle.std.specs.List.{find, list_all}
pub use Rattle.std.specs.Prelude.{All, nat_le, nat_lt}
pub use Rattle.bist_text.proofs.keyed.Checks.{alone, next, passed, stopped}
pub use Rattle.bist_text.proofs.keyed.Found.{found_fails, found_passes, none_at, said_found}
pub use Rattle.bist_text.specs.KeyedTexts.{LineOf, stated, unless_there}
pub use Rattle.bist_text.specs.Lines.{TextLine, lines_left, text_lines}
pub use Rattle.bist_text.specs.keyed.Texts.{checked, walk}
pub use Rattle.chip_desc.specs.ChipLines.{Content, ContentText, Statement, argument, budget, is_formed, key_text, kind_of, may_stand, name, stands, unit, version, version_in}
pub use Rattle.chip_desc.specs.ChipTable.{budget_in, budget_said, by_statements, content_of, described, first_of, is_heavier, is_key, is_out_of_range, is_outside, missing, name_in, name_said, out_of_range, refusal, repeated, too_heavy, too_many, unit_in, units_said}
pub use Rattle.chip_desc.specs.Chips.{ChipDescription, IsChip, IsFile, IsUnit, UnitDescription, described_as, is_file, unit_of}
pub use Rattle.chip_desc.specs.declared.chip.ChipUnit.{ChipUnit}
pub use Rattle.chip_desc.specs.declared.content.ChipKey.{ChipKey}
pub use Rattle.chip_desc.specs.declared.content.ChipKey.TheVariants.{Budget, Chip, Name}
pub use Rattle.chip_desc.specs.declared.content.ChipVersion.{ChipVersion}
pub use Rattle.chip_desc.specs.declared.fault.ChipFault.{ChipFault}
pub use Rattle.chip_desc.specs.declared.fault.ChipFault.TheVariants.{Missing, TooManyUnits}
pub use Rattle.chip_desc.specs.inner.Heard.{argument_of, by_lines, heard, keys_in, plain_statement, plain_unit, reading, said, statements, version_at}
pub use Rattle.chip_desc.specs.inner.Seeking.{heavier_than, is_sought, unit_said}
pub use Rattle.memory_desc.specs.Names.{IsName}
