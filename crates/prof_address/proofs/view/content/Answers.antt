use Rattle.prof_address.proofs.PartLemmas.{err_ranges, err_shown, err_transforms, err_search, shown_taken}
use Rattle.prof_address.proofs.view.content.Goals as goal

pub returns-in-Err : goal.returns-in-Err
returns-in-Err c = err_ranges c.args.form c.args.part c.args.cursor.now c.some_ranges.new.cursor c.in-Err.stop c.in-Ranges.is c.in-Err.ensures

pub returns-in-Ok-one_of : goal.returns-in-Ok-one_of
returns-in-Ok-one_of c = shown_taken c.args.form c.args.part c.args.cursor.now c.one_of.new.self c.in-Ok-one_of.filter c.in-Implementation.is c.in-Ok-one_of.ensures

pub returns-in-Err-one_of : goal.returns-in-Err-one_of
returns-in-Err-one_of c = err_shown c.args.form c.args.part c.args.cursor.now c.one_of.new.self c.in-Err-one_of.stop c.in-Implementation.is c.in-Err-one_of.ensures

pub returns-in-Err-some_transforms : goal.returns-in-Err-some_transforms
returns-in-Err-some_transforms c = err_transforms c.args.form c.args.part c.args.cursor.now c.some_transforms.new.cursor c.in-Err-some_transforms.stop c.in-Transforms.is c.in-Err-some_transforms.ensures

pub returns-in-Err-some_search : goal.returns-in-Err-some_search
returns-in-Err-some_search c = err_search c.args.form c.args.part c.args.cursor.now c.some_search.new.cursor c.in-Err-some_search.stop c.in-Search.is c.in-Err-some_search.ensures
