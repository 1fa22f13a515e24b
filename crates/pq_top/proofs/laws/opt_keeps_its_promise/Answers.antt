use Rattle.pq_top.proofs.Promising.{optimised_by_run, same_output, read_again, framed, keeps_matrix, is_local, few_calls, counts_gates, counts_rounds}
use Rattle.pq_top.proofs.laws.opt_keeps_its_promise.Goals as goal

pub returns : goal.returns
returns c = record {
  optimises = optimised_by_run;
  text = λ omega options text output p q report is. is.read;
  output = λ omega options text output p q report is. is.written;
  again = read_again;
  frame = framed;
  matrix = keeps_matrix;
  local = λ omega options text output p q report from to is. is_local omega options text output p q report is from to;
  calls = few_calls;
  gates = counts_gates;
  first_fingers = λ omega options text output p q report is i. (is.reported i).first_fingers;
  rounds = counts_rounds;
  workers = same_output;
}
