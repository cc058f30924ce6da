-- The tables that a call is given, of the code's struct. Assumes nothing: these are definitions.
use Rattle.model.specs.Tables.{Tables as ModelTables}
use Rattle.theory.specs.Tables.{tables_given}
use Rattle.table_rules.specs.declared.Tables.{Tables}

-- the model's tables that these say
abbrev pub given_by : Tables → ModelTables
given_by t = tables_given t.decisions t.states t.clauses t.sizes.now t.costs.now t.counts.now t.lits.now
