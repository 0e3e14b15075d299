use Rattle.std.specs.Prelude.{codes}
use Rattle.prof_spell.specs.Pieces.{literal}
use Rattle.prof_spell.specs.Chains.{chains}
use Rattle.prof_spell.proofs.SequenceLemmas.{err_front}
use Rattle.prof_keep.specs.Reading.{line_chain}
use Rattle.prof_keep.proofs.SavedLemmas.{lines_meet, lines_read}
use Rattle.prof_keep.proofs.reading.after_place.Goals as goal

pub returns-in-Ok : goal.returns-in-Ok
returns-in-Ok c = lines_read c.args.form c.args.place c.requires c.args.cursor.now c.literal.new.self c.view_lines.new.cursor c.view_lines.result c.in-Ok.ensures c.view_lines.ensures

pub returns-in-Err : goal.returns-in-Err
returns-in-Err c = err_front (literal (codes "\n")) (λ u. chains (line_chain c.args.form c.args.place) 0) c.args.cursor.now c.literal.new.self c.in-Err.stop (lines_meet c.args.form c.args.place c.requires) c.in-Err.ensures
