-- Tables of named columns stay as they are where a member `schema` or `data` comes.
use Rattle.std.proofs.Common.{refl, inr}
use Rattle.std.specs.Prelude.{codes}
use Rattle.prof_grammar.specs.Value.{Value, Members, snoc}
use Rattle.prof_members.specs.Gathered.{AreFrameColumns, AreStackColumns, AreSampleColumns}
use Rattle.prof_members.specs.declared.samples.SampleTable.{SampleTable}
use Rattle.prof_members.specs.declared.shared.FrameTable.{FrameTable}
use Rattle.prof_members.specs.declared.shared.StackTable.{StackTable}
use Rattle.prof_members.proofs.SampleMembers.{samples-more}
use Rattle.prof_members.proofs.SharedSlots.{frames_more, stacks_more}
use Rattle.prof_schema.specs.Named.{placed_name}
use Rattle.prof_schema.specs.declared.table.PlacedMember.{PlacedMember}
use Rattle.prof_schema.specs.declared.table.PlacedMember.TheVariants.{Schema, Data}

pub frames_stay : (ms : Members) (m : PlacedMember) (v : Value) (t : FrameTable) → AreFrameColumns ms t → AreFrameColumns (snoc ms (placed_name m) v) t
frames_stay ms Schema v t h = frames_more (codes "schema") v t t (inr (refl, refl)) (inr (refl, refl)) (inr (refl, refl)) ms h
frames_stay ms Data v t h = frames_more (codes "data") v t t (inr (refl, refl)) (inr (refl, refl)) (inr (refl, refl)) ms h

pub stacks_stay : (ms : Members) (m : PlacedMember) (v : Value) (t : StackTable) → AreStackColumns ms t → AreStackColumns (snoc ms (placed_name m) v) t
stacks_stay ms Schema v t h = stacks_more (codes "schema") v t t (inr (refl, refl)) (inr (refl, refl)) (inr (refl, refl)) ms h
stacks_stay ms Data v t h = stacks_more (codes "data") v t t (inr (refl, refl)) (inr (refl, refl)) (inr (refl, refl)) ms h

pub samples_stay : (ms : Members) (m : PlacedMember) (v : Value) (t : SampleTable) → AreSampleColumns ms t → AreSampleColumns (snoc ms (placed_name m) v) t
samples_stay ms Schema v t h = samples-more (codes "schema") v t t refl refl refl refl refl refl refl ms h
samples_stay ms Data v t h = samples-more (codes "data") v t t refl refl refl refl refl refl refl ms h
