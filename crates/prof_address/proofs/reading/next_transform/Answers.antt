use Rattle.std.proofs.Common.{List, subst}
use Rattle.prof_spell.specs.Spelling.{Reads, IsTaken}
use Rattle.prof_spell.specs.Pieces.{words, Among}
use Rattle.std.specs.Prelude.{Err}
use Rattle.prof_spell.proofs.Parts.{err_first}
use Rattle.prof_address.specs.declared.kind.Kind.{Kind}
use Rattle.prof_address.specs.Transforms.{transforms, kind_word, kind_of, arguments_text}
use Rattle.prof_address.proofs.ByKind.{kind_words, kind_leads, read_behind}
use Rattle.prof_address.proofs.reading.next_transform.Goals as goal

pub returns-in-Err : goal.returns-in-Err
returns-in-Err c = err_first (transforms c.args.form) (kind_words c.args.form) kind_of arguments_text c.args.cursor.now c.one_of.new.self c.in-Err.stop (kind_leads c.args.form)
    (subst (λ (kinds : List Kind). Reads (words kind_word (Among kinds)) c.args.cursor.now (Err c.in-Err.stop) c.one_of.new.self) c.kinds.ensures c.in-Err.ensures)

pub returns : goal.returns
returns c = read_behind c.args.form c.args.cursor.now c.one_of.new.self c.arguments.new.cursor c.in-Ok.kind c.arguments.result
    (subst (λ (kinds : List Kind). IsTaken (words kind_word (Among kinds)) c.args.cursor.now c.in-Ok.kind c.one_of.new.self) c.kinds.ensures c.in-Ok.ensures)
    c.arguments.ensures
