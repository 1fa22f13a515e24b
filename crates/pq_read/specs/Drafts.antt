-- What a draft holds.
use Rattle.pq_read.specs.declared.draft.Draft.{Draft}
use Rattle.pq_read.specs.Environment.{Env}

abbrev pub env_of : Draft → Env
env_of r = record {
  header = r.header;
  included = r.included;
  program = record { qregs = r.quantum; cregs = r.classical; gates = r.gates.items; tail = r.tail };
}
