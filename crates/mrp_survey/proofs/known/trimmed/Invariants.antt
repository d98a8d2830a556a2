use Rattle.std.proofs.Common.{◌≡◌, ◌≤◌, ◌+◌, length, take}
use Rattle.std.specs.List.{suffix_len}
use Rattle.mrp_survey.specs.Known.{is_space}
use Rattle.mrp_survey.proofs.known.trimmed.Given as goal

abbrev pub invariant-loop-len : goal.invariant-loop-len
invariant-loop-len l = record {
  within : l.len ≤ length l.rest;
  cut : l.len + suffix_len is_space l.rest ≡ length l.rest + suffix_len is_space (take l.len l.rest);
}

abbrev pub decreases-loop-len : goal.decreases-loop-len
decreases-loop-len l = l.len
