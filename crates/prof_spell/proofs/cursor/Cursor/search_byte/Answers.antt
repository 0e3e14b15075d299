use Rattle.prof_spell.proofs.EscapeLemmas.{escape_reads, itself_taken}
use Rattle.prof_spell.proofs.cursor.Cursor.search_byte.Goals as goal

pub returns-in-Some : goal.returns-in-Some
returns-in-Some c =
    let some = c.in-Some.ensures.some in
    itself_taken c.args.due c.args.self.now c.pass.new.self c.in-Some.byte (c.pass.ensures _ some.0) some.1 c.in-Some.ensures.between some.2

pub returns-in-None : goal.returns-in-None
returns-in-None c = escape_reads c.args.due c.args.self.now c.percent.new.self c.percent.result c.in-None.ensures.none c.percent.ensures
