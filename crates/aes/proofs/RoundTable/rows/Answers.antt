-- Four bytes of the table, added up.
use Rattle.aes.proofs.RoundLaws.{rows_code}
use Rattle.aes.proofs.RoundTable.rows.Goals as goal

pub returns : goal.returns
returns c = rows_code c.args.self.entries.now c.args.self.whole c.args.a c.args.b c.args.c c.args.d
