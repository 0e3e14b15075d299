use Rattle.prof_request.specs.declared.command_word.CommandWord.TheVariants as w
use Rattle.prof_request.proofs.CommandLemmas.{arguments_err}
use Rattle.prof_request.proofs.arguments.arguments.Goals as goal

pub returns-in-Err : goal.returns-in-Err
returns-in-Err c = arguments_err c.args.word w.Open c.args.cursor.now c.profile_and_thread.new.cursor c.in-Err.stop c.in-Open.is c.in-Err.ensures

pub returns-in-Err-name : goal.returns-in-Err-name
returns-in-Err-name c = arguments_err c.args.word w.Load c.args.cursor.now c.name.new.cursor c.in-Err-name.stop c.in-Load.is c.in-Err-name.ensures

pub returns-in-Err-version_and_transform : goal.returns-in-Err-version_and_transform
returns-in-Err-version_and_transform c = arguments_err c.args.word w.Push c.args.cursor.now c.version_and_transform.new.cursor c.in-Err-version_and_transform.stop c.in-Push.is c.in-Err-version_and_transform.ensures

pub returns-in-Err-version_and_number : goal.returns-in-Err-version_and_number
returns-in-Err-version_and_number c = arguments_err c.args.word w.PopTo c.args.cursor.now c.version_and_number.new.cursor c.in-Err-version_and_number.stop c.in-PopTo.is c.in-Err-version_and_number.ensures

pub returns-in-Err-version_and_range : goal.returns-in-Err-version_and_range
returns-in-Err-version_and_range c = arguments_err c.args.word w.Range c.args.cursor.now c.version_and_range.new.cursor c.in-Err-version_and_range.stop c.in-Range.is c.in-Err-version_and_range.ensures

pub returns-in-Err-version_and_number-2 : goal.returns-in-Err-version_and_number-2
returns-in-Err-version_and_number-2 c = arguments_err c.args.word w.PopRangesTo c.args.cursor.now c.version_and_number-in-PopRangesTo.new.cursor c.in-Err-version_and_number-2.stop c.in-PopRangesTo.is c.in-Err-version_and_number-2.ensures

pub returns-in-Err-version_and_filter : goal.returns-in-Err-version_and_filter
returns-in-Err-version_and_filter c = arguments_err c.args.word w.Implementation c.args.cursor.now c.version_and_filter.new.cursor c.in-Err-version_and_filter.stop c.in-Implementation.is c.in-Err-version_and_filter.ensures

pub returns-in-Err-version_and_text : goal.returns-in-Err-version_and_text
returns-in-Err-version_and_text c = arguments_err c.args.word w.Search c.args.cursor.now c.version_and_text.new.cursor c.in-Err-version_and_text.stop c.in-Search.is c.in-Err-version_and_text.ensures

pub returns-in-Err-number : goal.returns-in-Err-number
returns-in-Err-number c = arguments_err c.args.word w.Undo c.args.cursor.now c.number.new.cursor c.in-Err-number.stop c.in-Undo.is c.in-Err-number.ensures

pub returns-in-Err-number-2 : goal.returns-in-Err-number-2
returns-in-Err-number-2 c = arguments_err c.args.word w.Redo c.args.cursor.now c.number-in-Redo.new.cursor c.in-Err-number-2.stop c.in-Redo.is c.in-Err-number-2.ensures

pub returns-in-Err-version_and_text-2 : goal.returns-in-Err-version_and_text-2
returns-in-Err-version_and_text-2 c = arguments_err c.args.word w.Goto c.args.cursor.now c.version_and_text-in-Goto.new.cursor c.in-Err-version_and_text-2.stop c.in-Goto.is c.in-Err-version_and_text-2.ensures

pub returns-in-Err-rest : goal.returns-in-Err-rest
returns-in-Err-rest c = arguments_err c.args.word w.Markers c.args.cursor.now c.rest.new.cursor c.in-Err-rest.stop c.in-Markers.is c.in-Err-rest.ensures
