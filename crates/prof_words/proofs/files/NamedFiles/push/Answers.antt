use Rattle.std.proofs.Common.{rules, ◌≡◌, ◌∙◌, [], ◌∷◌, ◌++◌, false, ap}
use Rattle.std.specs.List.{list_any}
use Rattle.prof_words.specs.Files.{names_differ}
use Rattle.prof_words.proofs.Names.{goes_by, names_differ-more}
use Rattle.prof_words.proofs.files.NamedFiles.push.Goals as goal

pub invariant_of-self-2 : goal.invariant_of-self-2
invariant_of-self-2 c =
    let old = c.self.inside.files.items in
    let is : c.push.new.self.items ≡ old ++ (c.args.name.now, c.args.file.now) ∷ [] = search rules in
    let free : list_any (goes_by c.args.name.now) old ≡ false = search rules in
    ap names_differ is ∙ names_differ-more old (c.args.name.now, c.args.file.now) c.self.invariant free
