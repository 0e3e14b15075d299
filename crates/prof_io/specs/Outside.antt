-- What objects of the outside tell of themselves, at one moment.
use Rattle.std.specs.Prelude.{ℕ, List}
use Rattle.std.specs.declared.option.Option.{Option}
use Rattle.prof_io.specs.declared.outside.Counted.{Ghosts}
use Rattle.prof_io.specs.declared.outside.Keeper.{Ghosts as KeeperGhosts}
use Rattle.prof_io.specs.Shelf.{Place, Shelf}

-- what is seen of an object: all that `Counted` speaks of
pub record Seen : Type 1 where
  pub faults : ℕ
  pub left : Option (List ℕ)
  pub written : Option (List ℕ)
  pub place : Place
  pub sure : Type 0
  pub room : Option ℕ

-- what is seen of a keeper
pub record Kept : Type 1 where
  pub faults : ℕ
  pub sure : Type 0
  pub texts : Option Shelf
  pub begun : List ℕ → Option Shelf
  pub called_at : ℕ
  pub returned_at : ℕ
  pub got : Option (List ℕ)

abbrev pub seen : {X : Type 0} → Ghosts X → X → Seen
seen g x = record { faults = g.faults x; left = g.left x; written = g.written x; place = g.place x; sure = g.sure x; room = g.room x }

abbrev pub kept : {X : Type 0} → Ghosts X → KeeperGhosts X → X → Kept
kept g k x = record {
  faults = g.faults x;
  sure = g.sure x;
  texts = k.texts x;
  begun = k.begun x;
  called_at = k.called_at x;
  returned_at = k.returned_at x;
  got = k.got x;
}
