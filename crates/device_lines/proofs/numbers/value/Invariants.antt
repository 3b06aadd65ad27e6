use Rattle.std.proofs.Common.{◌≡◌, ◌<◌, ◌^◌, take}
use Rattle.device_lines.specs.Numbers.{value_of}
use Rattle.device_lines.proofs.numbers.value.Given as goal

abbrev pub invariant-loop-byte : goal.invariant-loop-byte
invariant-loop-byte l = record {
  read : l.value ≡ value_of (take l.byte-index l.digits);
  small : l.value < 10 ^ l.byte-index;
}
