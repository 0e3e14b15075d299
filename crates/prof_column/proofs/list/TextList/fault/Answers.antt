use Rattle.std.proofs.Common.{◌≤◌, ◌<◌, length, arith, sym, ◌∙◌, ap}
use Rattle.prof_raw.specs.declared.limits.TheConstants.{MOST_STRINGS}
use Rattle.std.specs.Option.{option_map}
use Rattle.prof_layout.specs.Lists.{wrong_kind}
use Rattle.prof_column.proofs.TextLists.{texts-over, texts-within}
use Rattle.prof_column.proofs.list.TextList.fault.Goals as goal

pub returns-in-Array : goal.returns-in-Array
returns-in-Array c = λ member is.
    let over : MOST_STRINGS < length c.args.self.now.texts.items = let l = c.len.ensures in let t = c.if-len.true in omega arith in
    let f = c.whole-in-Array.ensures in
    let e = texts-over member c.args.self.now is c.in-Array.is over in
    cc

pub returns-in_err-self-in-Array-2 : goal.returns-in_err-self-in-Array-2
returns-in_err-self-in-Array-2 c = λ member is.
    let few : length c.args.self.now.texts.items ≤ MOST_STRINGS = let l = c.len.ensures in let t = c.if-len.false in omega arith in
    let e = texts-within member c.args.self.now is c.in-Array-2.is few in
    let none = ap (option_map wrong_kind) c.in_err-self-in-Array-2.was in
    let f = c.from_residual.ensures in
    cc

pub returns-in_ok-self-in-Array-2 : goal.returns-in_ok-self-in-Array-2
returns-in_ok-self-in-Array-2 c = λ member is.
    let few : length c.args.self.now.texts.items ≤ MOST_STRINGS = let l = c.len.ensures in let t = c.if-len.false in omega arith in
    sym (ap (option_map wrong_kind) c.in_ok-self-in-Array-2.was) ∙ texts-within member c.args.self.now is c.in-Array-2.is few
