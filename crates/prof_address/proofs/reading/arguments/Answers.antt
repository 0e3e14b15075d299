use Rattle.prof_address.proofs.ByKind.{err_MergeFunction, err_MergeCallNode, err_DropFunction, err_FocusSubtree, err_FocusFunction, err_FocusCategory, err_CollapseResource, err_CollapseDirectRecursion, err_CollapseRecursion, err_CollapseFunctionSubtree, err_FilterSamples}
use Rattle.prof_address.proofs.reading.arguments.Goals as goal

pub returns-in-Err : goal.returns-in-Err
returns-in-Err c = err_MergeFunction c.args.kind c.args.cursor.now c.number.new.cursor c.in-Err.stop c.in-MergeFunction.is c.in-Err.ensures

pub returns-in-Err-node : goal.returns-in-Err-node
returns-in-Err-node c = err_MergeCallNode c.args.kind c.args.cursor.now c.node.new.cursor c.in-Err-node.stop c.in-MergeCallNode.is c.in-Err-node.ensures

pub returns-in-Err-number : goal.returns-in-Err-number
returns-in-Err-number c = err_DropFunction c.args.kind c.args.cursor.now c.number-in-DropFunction.new.cursor c.in-Err-number.stop c.in-DropFunction.is c.in-Err-number.ensures

pub returns-in-Err-focus : goal.returns-in-Err-focus
returns-in-Err-focus c = err_FocusSubtree c.args.kind c.args.cursor.now c.focus.new.cursor c.in-Err-focus.stop c.in-FocusSubtree.is c.in-Err-focus.ensures

pub returns-in-Err-number-2 : goal.returns-in-Err-number-2
returns-in-Err-number-2 c = err_FocusFunction c.args.kind c.args.cursor.now c.number-in-FocusFunction.new.cursor c.in-Err-number-2.stop c.in-FocusFunction.is c.in-Err-number-2.ensures

pub returns-in-Err-number-3 : goal.returns-in-Err-number-3
returns-in-Err-number-3 c = err_FocusCategory c.args.kind c.args.cursor.now c.number-in-FocusCategory.new.cursor c.in-Err-number-3.stop c.in-FocusCategory.is c.in-Err-number-3.ensures

pub returns-in-Err-counted : goal.returns-in-Err-counted
returns-in-Err-counted c = err_CollapseResource c.args.kind c.args.cursor.now c.counted.new.cursor c.in-Err-counted.stop c.in-CollapseResource.is c.in-Err-counted.ensures

pub returns-in-Err-counted-2 : goal.returns-in-Err-counted-2
returns-in-Err-counted-2 c = err_CollapseDirectRecursion c.args.kind c.args.cursor.now c.counted-in-CollapseDirectRecursion.new.cursor c.in-Err-counted-2.stop c.in-CollapseDirectRecursion.is c.in-Err-counted-2.ensures

pub returns-in-Err-number-4 : goal.returns-in-Err-number-4
returns-in-Err-number-4 c = err_CollapseRecursion c.args.kind c.args.cursor.now c.number-in-CollapseRecursion.new.cursor c.in-Err-number-4.stop c.in-CollapseRecursion.is c.in-Err-number-4.ensures

pub returns-in-Err-number-5 : goal.returns-in-Err-number-5
returns-in-Err-number-5 c = err_CollapseFunctionSubtree c.args.kind c.args.cursor.now c.number-in-CollapseFunctionSubtree.new.cursor c.in-Err-number-5.stop c.in-CollapseFunctionSubtree.is c.in-Err-number-5.ensures

pub returns-in-Err-search : goal.returns-in-Err-search
returns-in-Err-search c = err_FilterSamples c.args.kind c.args.cursor.now c.search.new.self c.in-Err-search.stop c.in-FilterSamples.is c.in-Err-search.ensures
