use Rattle.cacache_laws.proofs.Calls.InParts.{logs_lead, calls_begin, parts_go_on, left_are_cases, parts_answer, reads_are_parts, writes_are_parts}
use Rattle.cacache_laws.proofs.laws.parts_laws.Goals as goal

pub returns : goal.returns
returns c = record {
  logs = logs_lead;
  begins = calls_begin;
  parts = parts_go_on;
  answers = parts_answer;
  writes = writes_are_parts;
  reads = reads_are_parts;
  left = left_are_cases;
}
