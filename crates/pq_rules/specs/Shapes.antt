use Rattle.pq_rules.specs.declared.table.BuiltinRule.{BuiltinRule}
use Rattle.pq_rules.specs.Row.{RowView}

-- the row of a rule of the table
abbrev pub rule_row : BuiltinRule → RowView
rule_row rule = record { wires = rule.wires; pattern = rule.pattern.now; replacement = rule.replacement.now; phase = rule.phase }
