use Rattle.std.proofs.Common.{rules, ◌≡◌, ◌<◌, Some, None, length, arith, get_or}
use Rattle.std.proofs.lemmas.Grind.{common_steps}
use Rattle.std.proofs.lemmas.List.{get_or_default}
use Rattle.prof_gecko_names.proofs.keys.known_key.Goals as goal

pub returns-in-Some-clause-value : goal.returns-in-Some-clause-value
returns-in-Some-clause-value c =
    let inside : c.args.place < length c.args.known.now.items = omega arith in
    let at : get_or c.args.known.now.items c.args.place None ≡ Some c.in-Some.key = first_of (grind (arith, common_steps), grind (arith, get_or_default), search rules) in
    c.requires.known c.args.place c.in-Some.key at
