-- Worked placed tables: places, cells and what is kept of them.
use Rattle.std.proofs.Common.{◌≡◌, ℕ, List, [], ◌∷◌, None, Some, true, false, refl}
use Rattle.std.specs.Prelude.{codes, pos, negsuc}
use Rattle.prof_time.specs.Scaled.{over, under}
use Rattle.prof_time.specs.TakenApart.{numeral_of}
use Rattle.prof_grammar.specs.Value.{Value, Values, value, no_values, member, no_members}
use Rattle.prof_raw.specs.declared.rule.Rule.TheVariants as rule
use Rattle.prof_raw.specs.declared.raw.State.TheVariants as state
use Rattle.prof_layout.specs.Columns.{absent}
use Rattle.prof_layout.specs.Numbers.{scaled_of, whole_of}
use Rattle.prof_schema.specs.Places.{place_of, are_places}
use Rattle.prof_schema.specs.Placed.{named_cells, read_placed}
use Rattle.prof_schema.specs.RowCells.{cells_kept, ends_from}
use Rattle.prof_schema.specs.declared.cells.RowCell.TheVariants as cell
use Rattle.prof_schema.specs.declared.reading.PlacedReading.TheVariants as placed

abbrev list : List Value → Values
list [] = no_values
list (v ∷ vs) = value v (list vs)

abbrev arr : List Value → Value
arr vs = Value.array (list vs)

abbrev num : List ℕ → Value
num text = Value.number text

-- `time` was first said to stand at 7, and `more` at 256
abbrev schema : Value
schema = Value.object (member (codes "time") (num (codes "7")) (member (codes "stack") (num (codes "0")) (member (codes "more") (num (codes "256")) (member (codes "time") (num (codes "1.0")) no_members))))

abbrev mended : Value
mended = Value.object (member (codes "time") (num (codes "7")) (member (codes "more") (num (codes "256")) (member (codes "more") (num (codes "255")) no_members)))

-- the second row is short, and the third is none
abbrev rows : List Value
rows = arr (num (codes "2") ∷ num (codes "1.5") ∷ []) ∷ arr (num (codes "0.5") ∷ []) ∷ Value.null ∷ arr (Value.null ∷ Value.boolean true ∷ []) ∷ []

abbrev table : Value
table = Value.object (member (codes "data") (arr rows) (member (codes "schema") schema no_members))

last_place : place_of (codes "time") (Some schema) ≡ Some 1
unfolding numeral_of over under whole_of
last_place = refl

bad_place : are_places (Some schema) ≡ false
unfolding numeral_of over under whole_of
bad_place = refl

mended_place : are_places (Some mended) ≡ true
unfolding numeral_of over under whole_of
mended_place = refl

stacks : named_cells (read_placed placed.MaybeIndex) (Some table) (codes "stack") ≡ record { state = state.Array; cells = Some (pos 2) ∷ None ∷ None ∷ None ∷ []; bad = Some (record { row = 1; rule = rule.IndexOut }) }
unfolding numeral_of over under whole_of
stacks = refl

times : named_cells (read_placed placed.Time) (Some table) (codes "time") ≡ record { state = state.Array; cells = Some (pos 1500000) ∷ None ∷ None ∷ None ∷ []; bad = Some (record { row = 1; rule = rule.WrongKind }) }
unfolding numeral_of over under whole_of scaled_of
times = refl

truths : named_cells (read_placed placed.True) (Some table) (codes "time") ≡ record { state = state.Array; cells = Some (pos 0) ∷ Some (pos 0) ∷ Some (pos 0) ∷ Some (pos 1) ∷ []; bad = None }
unfolding numeral_of over under whole_of
truths = refl

no_column : named_cells (read_placed placed.Index) (Some table) (codes "frame") ≡ absent
no_column = refl

ends : ends_from 0 rows ≡ 2 ∷ 3 ∷ 3 ∷ 5 ∷ []
ends = refl

-- a whole number past 64 bits, half a nanosecond, a time out of the range, and an object's texts
kept : cells_kept 3 (num (codes "-1e30") ∷ num (codes "1.5e-6") ∷ num (codes "9e12") ∷ num (codes "9000000000000.1") ∷ Value.object (member (codes "a") (Value.string (codes "x")) no_members) ∷ Value.array no_values ∷ Value.object no_members ∷ []) ≡
    cell.Whole (negsuc 9223372036854775807) ∷ cell.Scaled (pos 2) ∷ cell.Whole (pos 9000000000000) ∷ cell.Far ∷ cell.Texts 3 4 ∷ cell.Other ∷ cell.Texts 4 4 ∷ []
unfolding numeral_of over under whole_of scaled_of
kept = refl
