-- The names that several proofs cite, passed on from one place. Declares nothing.
pub use Rattle.std.proofs.Common.{All, Bool, Contains, Err, Global, IfErr, IfOk, IfSome, IsErrAnd, IsTrue, List, MatchResult, None, Ok, Option, Result, Some, Vec, [], add-one, ap, append-nil, append_assoc, ap₂, arith, below_more, bit_xor, codes, cond, decimal, drop, false, get_or, if◌then◌else◌, inl, inr, is_some, length, lit<, map, nat_lt, not, refl, replicate, rules, slice_get, slice_index_or, subst, suc, sym, take, true, zero, ℕ, ◌%◌, ◌&&◌, ◌*◌, ◌++◌, ◌+◌, ◌-◌, ◌/◌, ◌<◌, ◌==◌, ◌^◌, ◌↔◌, ◌∙◌, ◌∷◌, ◌≡◌, ◌≢◌, ◌≤◌, ◌⊎◌}
pub use Rattle.bist_host.specs.Files.{Files, HostState, OnlyReads, ReadsRose, Rose, Says, WritesFile, WritesRose}
pub use Rattle.march_core.specs.March.{MarchElement, all_ops}
pub use Rattle.memory_desc.specs.Descriptions.{Description, IsMemory}
pub use Rattle.verilog_tree.specs.Plain.{ModulePort, ModuleTree, plain_module}
pub use Rattle.dynamic_core.specs.declared.item.Item.{Item}
pub use Rattle.self_test.specs.SelfTest.{SelfTest, module_name}
pub use Rattle.bist_endings.specs.Ending.{Done, Written, done_of, found_status, plain, status_of, written_of}
pub use Rattle.bist_endings.specs.Words.{IsNumber, Words, word}
pub use Rattle.bist_endings.specs.Then.{OrNoMemory, SaysOwn, Then}
pub use Rattle.bist_endings.specs.OneOutcome.{Answer, AreDone, HasOneAnswerButNames, HasOneOutcome, HasOneValue, IsSettledRefusal, answer_of}
pub use Rattle.bist_endings.specs.Conclude.{Ends, NamesWords, RefusalEnds, SaysAfterWrites, WritesInOrder}
pub use Rattle.bist_endings.specs.declared.ending.Refusal.{Refusal}
pub use Rattle.bist_endings.specs.declared.ending.Effects.{Effects}
pub use Rattle.bist_endings.specs.declared.ending.InputRefusal.{InputRefusal}
pub use Rattle.bist_endings.specs.declared.concluding.WriteStop.{WriteStop}
pub use Rattle.bist_endings.proofs.Settling.{Concludes, IsTold, NeverUsage, Settles, leaves_conclude, narrows, none_conclude, outcome_settles, own_said, own_settles, then_concludes, then_settles, where_settles}
pub use Rattle.bist_inputs.specs.Inputs.{HasCause, HasInputCause, HasReadCause, InputMarch, IsOwnRefusal}
unfoldable pub use Rattle.bist_inputs.specs.Inputs.{FileMarch, GivesList, GivesMarch, GivesPrim, InputList}
pub use Rattle.bist_inputs.specs.Memories.{InputMemory}
unfoldable pub use Rattle.bist_inputs.specs.Memories.{FileMemory, GivesMemory}
pub use Rattle.bist_inputs.specs.Designs.{CanRun}
unfoldable pub use Rattle.bist_inputs.specs.Designs.{InputModule}
unfoldable pub use Rattle.bist_inputs.specs.Chips.{GivesChip, InputChip, UnitMarch, UnitMemory}
pub use Rattle.bist_inputs.proofs.OneInput.{chip_settles, list_settles, march_settles, memory_settles, prim_settles, unit_march_settles, unit_memory_settles}
pub use Rattle.word_device.specs.Boxes.{Tells, TellsChip, TellsNothing, TellsScript, Told, blank, filled_chip, pattern}
pub use Rattle.word_device.specs.Runs.{AllRight, Closes, FailsAlone, HasDetected, IsFirstWrong, IsPlain, PassesAlone, SomeWrong, run_word}
pub use Rattle.word_device.specs.Ports.{Chip, planted_chip, shape_of}
pub use Rattle.word_device.specs.declared.device.Planted.{Planted}
pub use Rattle.bench.specs.declared.ending.Seen.{Seen}
pub use Rattle.bench.specs.Endings.{IsFirstRead, IsFirstSeen}
pub use Rattle.bench.specs.Laws.{EndsSelfTest, IsSeenOf, IsWrongRead, done_at, script_word}
pub use Rattle.fault_core.specs.Primitive.{IsPrimitive, Primitive, has_aggressor}
pub use Rattle.chip_desc.specs.Chips.{ChipDescription, IsChip, UnitDescription, unit_of}
pub use Rattle.chip_rtl.specs.ChipTest.{TestUnit, lengths, test_length}
pub use Rattle.chip_rtl.specs.ChipLaws.{ShowsAll, AllTested, AllShow, IsPlan, memories, weights}
pub use Rattle.chip_plan.specs.Groups.{FirstFit, IsFirstRoom, Seat, end_of, last_group}
pub use Rattle.bist_app.specs.Shared.{Before, Boxes, FirstTells, FitsAggressor, FitsLength, LeavesFirst}
pub use Rattle.bist_app.specs.inner.RunsBeside.{FirstHasRoom}
unfoldable pub use Rattle.bist_app.specs.Shared.{FitsRoom, HasBox, HasPorts}
pub use Rattle.bist_app.specs.Forms.{Form, HasForm, Row, without_boxes}
pub use Rattle.bist_app.specs.Run.{Decides, DecidesCommand, HasNoForm, HasNoShape, HasShape, IsFormed, Runs, command_named, row_of}
pub use Rattle.bist_app.specs.declared.commands.Command.{Command}
pub use Rattle.word_march.specs.Commands.{command_count, cycle_count, port_ops, span}
pub use Rattle.std.proofs.lemmas.List.{append_cancel_right, drop_all, ext_get_or, get_or-map, length-append, length-map, length-replicate, map-append, take_all}
pub use Rattle.self_test.specs.WrongPort.{ArePorts, wrong_port}
pub use Rattle.march_core.specs.Visits.{Direction, Downward, FitsWord, Upward, directions_of, is_direction, is_down_at, visits}
unfoldable pub use Rattle.march_core.specs.Visits.{direction_at}
pub use Rattle.std.specs.Option.{IsSome, option_copied, option_map}
pub use Rattle.std.specs.Prelude.{MatchOption}
pub use Rattle.std.specs.List.{AllByRecursion, range_with_len}
pub use Rattle.report.proofs.OneReport.{detects_one, text_one}
pub use Rattle.report.specs.Report.{DetectsOf, IsMixedReport}
pub use Rattle.report_lines.specs.Lines.{total_line}
pub use Rattle.verilog_cycle.specs.Design.{DesignView, Elaborates, Fit, IsNew, NoLoop, Refused, registers_of}
pub use Rattle.verilog_tree.specs.Grammar.{ByPrecedence, Parenthesised}
pub use Rattle.word_device.specs.Chips.{FitsAggPlace, FitsMemory}
unfoldable pub use Rattle.word_device.specs.Chips.{closed_words}
pub use Rattle.bist_inputs.proofs.OneDesign.{Spelled, input_can_run, input_spells, module_settles}
pub use Rattle.std.proofs.Math.Nat.{div-div-eq-div-mul, div-one, mod-eq_of_lt, mul-div_cancel, mul-lt-mul_of_pos_right, mul-mod_left, one-le-pow}
pub use Rattle.std.proofs.lemmas.Result.{IfOk-weaker, on_ok_weaker}
pub use Rattle.port_check.specs.declared.answer.PortAnswer.{PortAnswer}
