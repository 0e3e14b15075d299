-- What is gathered of the libraries and of the start of a process.
use Rattle.std.specs.Prelude.{◌≡◌, List, [], Option, None, map, codes, string_bytes}
use Rattle.std.specs.Option.{option_map}
use Rattle.prof_grammar.specs.Value.{Value, Members, last_named}
use Rattle.prof_layout.specs.Lists.{items_of}
use Rattle.prof_column.specs.Kept.{string_of}
use Rattle.prof_gecko_layout.specs.GeckoProfile.{bound_of, lib_of, first_lib_fault, libs_fault, start_rule, start_value}
use Rattle.prof_processes.specs.declared.libs.LibMembers.{LibMembers}
use Rattle.prof_processes.specs.declared.libs.LibList.{LibList}
use Rattle.prof_processes.specs.declared.start.ProcessStart.{ProcessStart}

-- the members of a library
pub record IsLib (ms : Members) (l : LibMembers) : Type 0 where
  pub name : option_map string_bytes l.name ≡ string_of (last_named (codes "name") ms)
  pub start : l.start ≡ bound_of (last_named (codes "start") ms)
  pub end : l.end ≡ bound_of (last_named (codes "end") ms)

-- the libraries of these items: all of them where none breaks a rule
pub record AreLibs (vs : List Value) (l : LibList) : Type 0 where
  pub fault_is : l.fault ≡ first_lib_fault 0 vs
  pub libs : l.fault ≡ None → l.libs.items ≡ map lib_of vs

-- of a list that had none at first
pub record AreLibsOf (first : LibList) (vs : List Value) (l : LibList) : Type 0 where
  pub are : AreLibs [] first → AreLibs vs l

-- the libraries of a member
pub record IsLibList (member : Option Value) (l : LibList) : Type 0 where
  pub fault_is : l.fault ≡ libs_fault member
  pub libs : l.fault ≡ None → l.libs.items ≡ map lib_of (items_of member)

-- the start that a member says
pub record IsStart (member : Option Value) (s : ProcessStart) : Type 0 where
  pub fault_is : s.fault ≡ start_rule member
  pub start : s.fault ≡ None → s.start ≡ start_value member

-- what is gathered of the members of `meta`
abbrev pub IsMeta : Members → ProcessStart → Type 0
IsMeta ms s = IsStart (last_named (codes "startTime") ms) s
