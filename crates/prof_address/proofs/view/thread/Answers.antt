use Rattle.std.specs.Prelude.{codes}
use Rattle.std.specs.Fmt.{decimal}
use Rattle.prof_spell.specs.Pieces.{literal}
use Rattle.prof_spell.proofs.Parts.{err_first}
use Rattle.prof_address.specs.Parts.{threads}
use Rattle.prof_address.proofs.ViewLemmas.{word_of, threads_leads, thread_reads}
use Rattle.prof_address.proofs.view.thread.Goals as goal

pub returns-in-Ok : goal.returns-in-Ok
returns-in-Ok c = thread_reads c.args.cursor.now c.literal.new.self c.number.new.cursor c.number.result c.in-Ok.ensures c.number.ensures

pub returns-in-Err : goal.returns-in-Err
returns-in-Err c = err_first threads (literal (codes "thread=")) word_of (λ n. decimal n) c.args.cursor.now c.literal.new.self c.in-Err.stop threads_leads c.in-Err.ensures
