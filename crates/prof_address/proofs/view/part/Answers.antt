use Rattle.std.proofs.Common.{◌<◌, List, length, sym, subst}
use Rattle.std.specs.Prelude.{Err}
use Rattle.prof_spell.specs.Spelling.{Reads, IsTaken}
use Rattle.prof_spell.specs.Pieces.{words, Among}
use Rattle.prof_spell.proofs.Parts.{err_first}
use Rattle.prof_address.specs.declared.part.Part.{Part}
use Rattle.prof_address.specs.Parts.{parts, part_word, part_of, said_text, result_said}
use Rattle.prof_address.proofs.PartLemmas.{part_words, part_leads, read_part, some_parts}
use Rattle.prof_address.proofs.view.part.Goals as goal

pub one_of-requires : goal.one_of-requires
one_of-requires c = subst (λ (list : List Part). 0 < length list) (sym c.parts_from.ensures) (some_parts c.args.due c.requires)

pub returns-in-Err : goal.returns-in-Err
returns-in-Err c = err_first (parts c.args.form c.args.due) (part_words c.args.due) part_of said_text c.args.cursor.now c.one_of.new.self c.in-Err.stop (part_leads c.args.form c.args.due)
    (subst (λ (list : List Part). Reads (words part_word (Among list)) c.args.cursor.now (Err c.in-Err.stop) c.one_of.new.self) c.parts_from.ensures c.in-Err.ensures)

pub returns : goal.returns
returns c = read_part c.args.form c.args.due c.args.cursor.now c.one_of.new.self c.content.new.cursor c.in-Ok.part (result_said c.content.result)
    (subst (λ (list : List Part). IsTaken (words part_word (Among list)) c.args.cursor.now c.in-Ok.part c.one_of.new.self) c.parts_from.ensures c.in-Ok.ensures)
    c.content.ensures
