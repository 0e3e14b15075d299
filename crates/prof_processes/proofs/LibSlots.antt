-- One more member of a library.
use Rattle.std.proofs.Common.{◌≡◌, ℕ, List, Option}
use Rattle.std.specs.Prelude.{codes, string_bytes, String}
use Rattle.std.specs.Option.{option_map}
use Rattle.std.specs.declared.alloc.Global.{Global}
use Rattle.prof_grammar.specs.Value.{Value, Members, snoc}
use Rattle.prof_column.specs.Kept.{string_of}
use Rattle.prof_gecko_layout.specs.GeckoProfile.{bound_of}
use Rattle.prof_schema.proofs.Slots.{Goes, slot_after}
use Rattle.prof_processes.specs.Libs.{IsLib}
use Rattle.prof_processes.specs.declared.libs.LibMembers.{LibMembers}

abbrev pub HoldsText : Option Value → Option (String Global) → Type 0
HoldsText o t = option_map string_bytes t ≡ string_of o

abbrev pub HoldsBound : Option Value → Option ℕ → Type 0
HoldsBound o b = b ≡ bound_of o

pub lib_more : (n : List ℕ) (v : Value) (old new : LibMembers) →
    Goes HoldsText (codes "name") n v old.name new.name →
    Goes HoldsBound (codes "start") n v old.start new.start →
    Goes HoldsBound (codes "end") n v old.end new.end →
    (ms : Members) → IsLib ms old → IsLib (snoc ms n v) new
lib_more n v old new name start end ms h = record {
  name = slot_after HoldsText (codes "name") n v old.name new.name name ms h.name;
  start = slot_after HoldsBound (codes "start") n v old.start new.start start ms h.start;
  end = slot_after HoldsBound (codes "end") n v old.end new.end end ms h.end;
}
