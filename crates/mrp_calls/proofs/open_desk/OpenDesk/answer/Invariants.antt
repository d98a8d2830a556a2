use Rattle.std.proofs.Common.{◌≤◌, ◌+◌, ◌*◌, length, vec_capacity, vec_len}
use Rattle.mrp_calls.proofs.Lines.{SoFar}
use Rattle.mrp_calls.proofs.open_desk.OpenDesk.answer.Given as goal

abbrev pub invariant-loop-rest : goal.invariant-loop-rest
invariant-loop-rest l = record {
  so_far : SoFar l.batch l.initial.self l.rest l.self l.answers.items l.records.items;
  room : vec_len l.answers + 10 * length l.rest ≤ vec_capacity l.answers;
}

abbrev pub decreases-loop-rest : goal.decreases-loop-rest
decreases-loop-rest l = length l.rest
