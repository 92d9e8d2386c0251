-- The whole gives what is left to read gives behind the fields that were read, whose bytes are on the page; there are at most as many lines as bytes, and one
-- more.
use Rattle.std.proofs.Common.{◌+◌, ◌-◌, ◌≤◌, length}
use Rattle.form.proofs.ReadLaws.{Read}
use Rattle.form.proofs.read_lines.Given as goal

abbrev pub invariant-loop-at : goal.invariant-loop-at
invariant-loop-at l = record {
  at_end : l.at ≤ length l.text + 1;
  line_count : l.line ≤ l.at + 1;
  in_table : l.field ≤ 28;
  read : Read l.text l.initial.draft l.at l.line l.field l.draft;
}

abbrev pub decreases-loop-at : goal.decreases-loop-at
decreases-loop-at l = length l.text + 1 - l.at
