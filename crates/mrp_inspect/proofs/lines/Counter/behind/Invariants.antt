use Rattle.std.proofs.Common.{◌≡◌, ◌≤◌, ◌+◌, drop}
use Rattle.mrp_inspect.specs.Lines.{counted_all}
use Rattle.mrp_inspect.proofs.lines.Counter.behind.Given as goal

abbrev pub invariant-loop-byte : goal.invariant-loop-byte
invariant-loop-byte l = record {
  counted : counted_all l.fn.self l.fn.bytes ≡ counted_all l.counter (drop l.byte-index l.bytes);
  most : l.counter.line ≤ l.fn.self.line + l.byte-index;
}
