-- A member of an object as it is written.
use Rattle.std.specs.Prelude.{ℕ, List, ◌++◌, codes}
use Rattle.prof_grammar.specs.Value.{Value}
use Rattle.prof_writer.specs.Writing.{quoted}
use Rattle.prof_write.specs.Compact.{compact}

abbrev pub member_text : List ℕ × Value → List ℕ
member_text m = quoted m.0 ++ (codes ":" ++ compact m.1)
