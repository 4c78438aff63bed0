use Rattle.std.proofs.Common.{sym, ap, subst}
use Rattle.tables.specs.declared.rows.Rows.{Rows}
use Rattle.programs.specs.Clauses.{AllSay}
use Rattle.programs.specs.Normal.{NormalRules}
use Rattle.programs.specs.Tables.{rules_of, clauses_of}
use Rattle.programs.specs.declared.rules.RuleTable.{RuleTable}
use Rattle.programs.specs.declared.clause.Clause.{Clause}
use Rattle.programs.proofs.Naming.{table_says, table_normal}
use Rattle.programs.proofs.rules.RuleTable.of.Goals as goal

pub returns : goal.returns
returns c =
    let t = c.args.table.now in
    let e = ap (λ (rows : Rows Clause 128). record { width = t.width; clauses = rows; aggregates = t.aggregates }) c.clauses_from.ensures in
    record { is = e; says = subst (λ (r : RuleTable). AllSay (rules_of t) (clauses_of r)) (sym e) (table_says t); normal = λ n. subst NormalRules (sym e) (table_normal t n) }
