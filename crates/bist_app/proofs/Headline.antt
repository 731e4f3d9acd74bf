-- What the answer of the top call comes to for `compile`.
use Rattle.bist_app.proofs.Common.{ap, ◌≡◌, ◌≢◌, ◌<◌, sym, ◌∙◌, subst, arith, ℕ, List, [], ◌∷◌, Option, Some, None, Result, Ok, Err, Files, HostState, WritesFile, Says, MarchElement, Description, IsMemory, Item, Words, word, Done, WritesInOrder, FileMarch, InputMarch, InputList, GivesMarch, GivesList, FileMemory, InputMemory, GivesMemory, Boxes, HasForm, Command, command_named, Runs}
use Rattle.march_syntax.specs.Answers.{SpellsMarch, Reads as ReadsMarch}
use Rattle.march_syntax.proofs.OneOutcome.{reads_one as one_march}
use Rattle.memory_desc.specs.Described.{SpellsMemory}
use Rattle.memory_desc.specs.Table.{Reads as ReadsMemory}
use Rattle.memory_desc.proofs.OneOutcome.{reads_one as one_memory}
use Rattle.dynamic_core.specs.Items.{SpellsItems, ReadsItems}
use Rattle.dynamic_core.proofs.ListExact.{list_one}
use Rattle.bist_app.specs.Compile.{IsCompiled, LeavesCompile, DecidesCompile, compile_form}
use Rattle.march_core.specs.March.{IsMarch}
use Rattle.verilog_emit.proofs.OneTree.{text_formed}
use Rattle.bench.proofs.Beside.{passes_beside}
use Rattle.bist_app.specs.Headline.{Only, InputHas, IsCompilation, LeavesCompilation}
use Rattle.bist_app.proofs.Beside.{links_fail, decoders_fail, in_word_fails}
use Rattle.bist_app.proofs.Listed.{each_fails}
use Rattle.bist_app.proofs.Complete.{if_told}
use Rattle.bist_app.proofs.Succeeding.{Succeeds, succeeds, not_refused, same_value}

-- ---- the inputs

-- what is read in one way alone
pub only_read : {A E : Type 0} (Reads : Result A E → Type 0) (a : A) → ((q r : Result A E) → Reads q → Reads r → q ≡ r) → Reads (Ok a) → Only (λ x. Reads (Ok x)) a
only_read Reads a one reads = (reads, λ other also. same_value (one (Ok other) (Ok a) also reads))

pub march_read : (files : Files) (words : Words) (position : ℕ) (march : List MarchElement) → InputMarch (Some files) words position (Ok march) → InputHas files (word words position) (λ bytes. Only (SpellsMarch bytes) march)
unfolding FileMarch GivesMarch
march_read files words position march (Ok bytes, gives, reads) = (bytes, gives.0, (gives.1, only_read (ReadsMarch bytes) march (one_march bytes) reads))
march_read files words position march (Err e, gives, same) = absurd (not_refused same)

pub memory_read : (files : Files) (words : Words) (position : ℕ) (d : Description) → InputMemory (Some files) words position (Ok d) → IsMemory d × InputHas files (word words position) (λ bytes. Only (SpellsMemory bytes) d)
unfolding FileMemory GivesMemory
memory_read files words position d (Ok bytes, gives, reads) = (reads.1, (bytes, gives.0, (gives.1, only_read (ReadsMemory bytes) d (one_memory bytes) reads.0)))
memory_read files words position d (Err e, gives, same) = absurd (not_refused same)

pub is_march : (files : Files) (name : List ℕ) (march : List MarchElement) → InputHas files name (λ bytes. Only (SpellsMarch bytes) march) → IsMarch march
is_march files name march (bytes, told, (low, (spells, only))) = spells.1

list_read : (files : Files) (words : Words) (items : List Item) → InputList (Some files) words 3 (Ok items) → InputHas files (word words 3) (λ bytes. Only (SpellsItems bytes) items)
unfolding InputList GivesList
list_read files words items (Ok bytes, gives, reads) = (bytes, gives.0, (gives.1, only_read (ReadsItems bytes) items (list_one bytes) reads))
list_read files words items (Err e, gives, same) = absurd (not_refused same)

-- the march, the memory and the list that were read, and what is left of them
record Inputs (files : Files) (words : Words) (done : Done) : Type 0 where
  march : List MarchElement
  memory : Description
  is_memory : IsMemory memory
  items : List Item
  march_text : InputHas files (word words 1) (λ bytes. Only (SpellsMarch bytes) march)
  memory_text : InputHas files (word words 2) (λ bytes. Only (SpellsMemory bytes) memory)
  list_text : InputHas files (word words 3) (λ bytes. Only (SpellsItems bytes) items)
  compiled : IsCompiled march memory items done

inputs : (files : Files) (words : Words) (done : Done) → DecidesCompile (Some files) words (Ok done) → Inputs files words done
unfolding LeavesCompile
inputs files words done (Err e, first, same) = absurd (not_refused same)
inputs files words done (Ok march, first, (Err e, second, same)) = absurd (not_refused same)
inputs files words done (Ok march, first, (Ok memory, second, (Err e, third, same))) = absurd (not_refused same)
inputs files words done (Ok march, first, (Ok memory, second, (Ok items, third, compiled))) = record {
  march = march;
  memory = memory;
  is_memory = (memory_read files words 2 memory second).0;
  items = items;
  march_text = march_read files words 1 march first;
  memory_text = (memory_read files words 2 memory second).1;
  list_text = list_read files words items third;
  compiled = compiled;
}

-- ---- the writes

-- two files are written
record WritesTwo (files : Files) (told : Option Files) (one other : List ℕ) (text bytes : List ℕ) : Type 0 where
  after : Files
  is_told : told ≡ Some after
  first : after one ≡ Some text
  second : after other ≡ Some bytes
  others : (name : List ℕ) → name ≢ one → name ≢ other → after name ≡ files name

two : (files : Files) (between last told : Option Files) (one other text bytes : List ℕ) → one ≢ other
    → WritesFile (Some files) between one text → WritesFile between last other bytes → told ≡ last → WritesTwo files told one other text bytes
two files None last told one other text bytes apart w v same = absurd w.1
two files (Some between) None told one other text bytes apart w v same = absurd v.1
two files (Some between) (Some last) told one other text bytes apart w v same = record {
  after = last;
  is_told = same;
  first = v.1 one apart ∙ w.0;
  second = v.0;
  others = λ name m n. v.1 name n ∙ w.1 name m;
}

written : (words : Words) (files : Files) (told : Option Files) (text bytes : List ℕ) → word words 4 ≢ word words 5
    → WritesInOrder words ((record { position = 4; bytes = text }) ∷ (record { position = 5; bytes = bytes }) ∷ []) (Some files) told (Ok tt)
    → WritesTwo files told (word words 4) (word words 5) text bytes
written words files told text bytes apart (between, w, (last, v, same)) = two files between last told (word words 4) (word words 5) text bytes apart w v same

-- ---- the whole

-- the words of the two files that are written
module_not_report : (words : Words) → HasForm compile_form words → word words 4 ≢ word words 5
module_not_report [] h = absurd (omega (arith, h.count))
module_not_report (a ∷ []) h = absurd (omega (arith, h.count))
module_not_report (a ∷ b ∷ []) h = absurd (omega (arith, h.count))
module_not_report (a ∷ b ∷ c ∷ []) h = absurd (omega (arith, h.count))
module_not_report (a ∷ b ∷ c ∷ d ∷ []) h = absurd (omega (arith, h.count))
module_not_report (a ∷ b ∷ c ∷ d ∷ e ∷ []) h = absurd (omega (arith, h.count))
module_not_report (a ∷ b ∷ c ∷ d ∷ e ∷ f ∷ rest) h =
    let some : 0 < 1 = omega arith in
    λ same. h.files.1.1.1.0 0 f some (sym same)

compilation : (words : Words) (files : Files) (old new : HostState) (n : ℕ) → Succeeds Command.Compile words files old new n
    → (files' : Files) × (new.files ≡ Some files') × IsCompilation words files files' old.said new.said n
compilation words files old new n s =
    let i = inputs files words s.done s.decides.0 in
    let c = i.compiled in
    let forms = text_formed c.text c.tests.tree c.tests.is_text in
    let w = written words files new.files c.text c.bytes (module_not_report words s.form) (subst (λ outs. WritesInOrder words outs (Some files) new.files (Ok tt)) c.outputs s.writes) in (
      w.after,
      w.is_told,
      record {
        shape = s.form;
        march = i.march;
        memory = i.memory;
        is_memory = i.is_memory;
        items = i.items;
        march_text = i.march_text;
        memory_text = i.memory_text;
        list_text = i.list_text;
        tree = c.tests.tree;
        self_test = c.tests.self_test;
        expected = c.tests.expected;
        numbers = c.tests.numbers;
        conforms = (c.tests.conforms, c.tests.conforms_alone);
        module_text = (c.text, w.first, (c.tests.is_text, c.tests.one_tree));
        spells = (c.text, w.first, (c.tests.spells, c.tests.no_other));
        freely = (c.text, w.first, (c.tests.freely, c.tests.freely_no_other));
        passes = passes_beside c.tests.tree i.march i.memory c.tests.self_test forms (is_march files (word words 1) i.march i.march_text) i.is_memory;
        fails = each_fails files (word words 3) c.tests.tree i.march i.memory i.items c.tests.self_test forms i.is_memory i.list_text;
        fails_linked = links_fail c.tests.tree i.march i.memory c.tests.self_test forms (is_march files (word words 1) i.march i.march_text) i.is_memory;
        fails_decoder = decoders_fail c.tests.tree i.march i.memory c.tests.self_test forms (is_march files (word words 1) i.march i.march_text) i.is_memory;
        fails_in_word = in_word_fails c.tests.tree i.march i.memory c.tests.self_test forms i.is_memory;
        report_text = (c.bytes, w.second, c.reports.report);
        escapes = s.done.found;
        found = c.reports.found;
        status_is = s.status;
        covered = c.reports.covered;
        detects = c.reports.detects;
        says = subst (λ line. Says old.said new.said line) c.reports.last s.says;
        others = w.others;
      },
    )

pub leaves_compilation : (words : Words) (boxes left : Boxes) (old new : HostState) (n : ℕ) → Runs words boxes left old new n → LeavesCompilation words old new n
leaves_compilation words boxes left old new n runs =
    if_told old.files _ (λ files told name low. compilation words files old new n (succeeds Command.Compile words boxes left files old new n (ap command_named name) low told runs))
