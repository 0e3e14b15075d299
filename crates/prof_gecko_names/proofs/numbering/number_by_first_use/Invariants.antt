use Rattle.std.proofs.Common.{◌≡◌, ◌≤◌, length, take}
use Rattle.prof_gecko_names.specs.FirstUses.{numbered}
use Rattle.prof_gecko_names.proofs.numbering.number_by_first_use.Given as goal

abbrev pub invariant-loop-key : goal.invariant-loop-key
invariant-loop-key g l = record {
  uses : l.uses.keys ≡ (numbered g.K.PartialEq.eq (take l.key-index l.keys)).uses;
  rows : l.rows.items ≡ (numbered g.K.PartialEq.eq (take l.key-index l.keys)).rows;
  numbers : l.numbers.items ≡ (numbered g.K.PartialEq.eq (take l.key-index l.keys)).numbers;
  many : length l.numbers.items ≡ l.key-index;
  few : length l.uses.keys ≤ l.key-index;
}
