-- The columns of samples, of one member more.
use Rattle.std.proofs.Common.{◌≡◌, ℕ, Some, List}
use Rattle.prof_raw.specs.declared.limits.TheConstants.{MOST_SAMPLES}
use Rattle.std.specs.Prelude.{codes, true, false, if◌then◌else◌}
use Rattle.prof_grammar.specs.Value.{Value, Members, snoc, same_text}
use Rattle.prof_layout.specs.declared.reading.Reading.TheVariants as reading
use Rattle.prof_layout.specs.Tables.{said_by, weight_unit}
use Rattle.prof_layout.proofs.Members.{slot}
use Rattle.prof_members.specs.declared.samples.SampleTable.{SampleTable}
use Rattle.prof_members.specs.declared.samples.SampleMember.{SampleMember}
use Rattle.prof_members.specs.declared.samples.SampleMember.TheVariants.{Stack, Time, TimeDeltas, WeightType, Weight, Length}
use Rattle.prof_members.specs.SampleNames.{sample_name}
use Rattle.prof_members.proofs.OtherNames.{stays}
use Rattle.prof_column.specs.Kept.{kept_column}
use Rattle.prof_members.specs.Gathered.{AreSampleColumns}

pub samples-more : (n : List ℕ) (v : Value) (s t : SampleTable) →
    t.stack ≡ (if same_text n (codes "stack") then kept_column MOST_SAMPLES reading.MaybeIndex true (Some v) else s.stack) →
    t.time ≡ (if same_text n (codes "time") then kept_column MOST_SAMPLES reading.Time false (Some v) else s.time) →
    t.time_deltas ≡ (if same_text n (codes "timeDeltas") then kept_column MOST_SAMPLES reading.Time false (Some v) else s.time_deltas) →
    t.unit ≡ (if same_text n (codes "weightType") then weight_unit (Some v) else s.unit) →
    t.weights.counts ≡ (if same_text n (codes "weight") then kept_column MOST_SAMPLES reading.Count false (Some v) else s.weights.counts) →
    t.weights.times ≡ (if same_text n (codes "weight") then kept_column MOST_SAMPLES reading.Time false (Some v) else s.weights.times) →
    t.length ≡ (if same_text n (codes "length") then said_by (Some v) else s.length) →
    (ms : Members) → AreSampleColumns ms s → AreSampleColumns (snoc ms n v) t
samples-more n v s t stack time deltas unit counts times length ms is = record {
  stack = slot (kept_column MOST_SAMPLES reading.MaybeIndex true) (codes "stack") ms n v s.stack t.stack is.stack stack;
  time = slot (kept_column MOST_SAMPLES reading.Time false) (codes "time") ms n v s.time t.time is.time time;
  deltas = slot (kept_column MOST_SAMPLES reading.Time false) (codes "timeDeltas") ms n v s.time_deltas t.time_deltas is.deltas deltas;
  unit = slot weight_unit (codes "weightType") ms n v s.unit t.unit is.unit unit;
  weights = record {
    counts = slot (kept_column MOST_SAMPLES reading.Count false) (codes "weight") ms n v s.weights.counts t.weights.counts is.weights.counts counts;
    times = slot (kept_column MOST_SAMPLES reading.Time false) (codes "weight") ms n v s.weights.times t.weights.times is.weights.times times;
  };
  length = slot said_by (codes "length") ms n v s.length t.length is.length length;
}

-- a member of another name plays no part
pub samples-stay : (n : List ℕ) (v : Value) (s : SampleTable) → ((m : SampleMember) → same_text n (sample_name m) ≡ false) → (ms : Members) → AreSampleColumns ms s → AreSampleColumns (snoc ms n v) s
samples-stay n v s other =
    samples-more n v s s (stays _ _ _ (other Stack)) (stays _ _ _ (other Time)) (stays _ _ _ (other TimeDeltas)) (stays _ _ _ (other WeightType)) (stays _ _ _ (other Weight)) (stays _ _ _ (other Weight)) (stays _ _ _ (other Length))
