use Rattle.std.proofs.Common.{◌≡◌, ◌<◌, ◌^◌, drop, ◌↔◌}
use Rattle.std.specs.Str.Parse.{AllDigits, digits_value_after}
use Rattle.bist_text.proofs.numbers.number.Given as goal

-- the digits so far write the value, which the others go on from
abbrev pub invariant-loop-byte : goal.invariant-loop-byte
invariant-loop-byte l = record {
  digits : AllDigits l.radix (drop l.byte-index l.bytes) ↔ AllDigits l.radix l.bytes;
  value : digits_value_after l.radix l.value (drop l.byte-index l.bytes) ≡ digits_value_after l.radix 0 l.bytes;
  small : l.value < l.radix ^ l.byte-index;
}
