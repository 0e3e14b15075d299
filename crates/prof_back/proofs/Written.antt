-- The value that is written of a profile can be written and read back.
use Rattle.std.proofs.Common.{◌≡◌, ℕ, zero, suc, ◌+◌, ◌-◌, ◌^◌, ◌<◌, ◌≤◌, List, [], ◌∷◌, Option, None, Some, codes, length, take, drop, refl, arith, Bool, true, false}
use Rattle.std.specs.Prelude.{ℤ, nat_lt, ◌&&◌, ◌==◌, IfSome, IsUtf8, map, slice_get}
use Rattle.std.specs.Fmt.{decimal}
use Rattle.std.specs.List.{enumerate_from}
use Rattle.std.proofs.lemmas.Fmt.{IsAscii-decimal}
use Rattle.std.proofs.lemmas.List.{length-take}
use Rattle.std.proofs.lemmas.Option.{slice_get_within}
use Rattle.std.specs.Str.{IsAscii}
use Rattle.std.proofs.lemmas.Bool.Decides.{nat_tests}
use Rattle.std.proofs.lemmas.Str.{IsUtf8-from_ascii}
use Rattle.prof_grammar.specs.Value.{Value, boolean, number, string}
use Rattle.prof_time.specs.Numeral.{Numeral, IsNumber}
use Rattle.prof_time.specs.Numeral as n
use Rattle.prof_told.proofs.Numbers.{decimal_is_exact, signed_decimal_is_exact, scaled_text_is_scaled}
use Rattle.prof_tables.proofs.RowLemmas.{all_at}
use Rattle.prof_tables.specs.Ties.{InRange, IsFunc, IsFrame, IsSample, IsMarker, AreTied, IsShared, AreOwn}
use Rattle.prof_raw.specs.declared.raw.Unit.{Unit as WeightUnit}
use Rattle.prof_raw.specs.declared.raw.Unit.TheVariants as unit
use Rattle.prof_tables.specs.declared.rows.FrameRow.{FrameRow}
use Rattle.prof_tables.specs.declared.rows.StackRow.{StackRow}
use Rattle.prof_tables.specs.declared.rows.SampleRow.{SampleRow}
use Rattle.prof_tables.specs.declared.markers.RawMarker.{RawMarker}
use Rattle.prof_tables.specs.Profiles.{ProfileTables, CountsIn}
use Rattle.prof_tables.specs.Threads.{Func, SharedTables, ThreadTables}
use Rattle.prof_write.specs.Compact.{values_of, members_of}
use Rattle.prof_write.specs.Cells.{column, index, maybe_index, resource_index, time, maybe_time, weight, weight_type, data_value, category_value, color}
use Rattle.prof_write.specs.Written.{funcs_value, frames_value, stacks_value, samples_value, markers_value, resources_value, thread_value, profile_value, marker_texts}
use Rattle.prof_back.specs.Writable.{IsWritable, AreWritable, AreWritableMembers}
use Rattle.prof_back.specs.Texts.{IsThread, IsKept}
use Rattle.prof_back.proofs.Cells.{minus_one_exact, in_range_small}

-- ---- columns

items_writable : {A : Type 0} (cell : A → Value) (rows : List A) (most : ℕ) → ((i : ℕ) (r : A) → slice_get rows i ≡ Some r → IsWritable (cell r) most) → AreWritable (values_of (map cell rows)) most
items_writable cell [] most h = tt
items_writable cell (r ∷ rows) most h = (h 0 r refl, items_writable cell rows most (λ i s e. h (suc i) s e))

pub column_writable : {A : Type 0} (cell : A → Value) (rows : List A) (most : ℕ) → ((i : ℕ) (r : A) → slice_get rows i ≡ Some r → IsWritable (cell r) most) → IsWritable (column cell rows) (suc most)
column_writable cell rows most h = items_writable cell rows most h

-- ---- cells

pub index_writable : (n most : ℕ) → n < 2 ^ 64 → IsWritable (index n) most
index_writable n most h = let e = decimal_is_exact n h in (e.numeral, e.reads)

pub maybe_writable : (n : Option ℕ) (most : ℕ) → IfSome n (λ k. k < 2 ^ 64) → IsWritable (maybe_index n) most
maybe_writable None most h = tt
maybe_writable (Some n) most h = index_writable n most h

resource_writable : (n : Option ℕ) (most : ℕ) → IfSome n (λ k. k < 2 ^ 64) → IsWritable (resource_index n) most
resource_writable None most h = (minus_one_exact.numeral, minus_one_exact.reads)
resource_writable (Some n) most h = index_writable n most h

pub time_writable : (z : ℤ) (most : ℕ) → InRange z → IsWritable (time z) most
time_writable z most h = let e = scaled_text_is_scaled 6 z (in_range_small z h) in (e.numeral, e.reads)

maybe_time_writable : (z : Option ℤ) (most : ℕ) → IfSome z InRange → IsWritable (maybe_time z) most
maybe_time_writable None most h = tt
maybe_time_writable (Some z) most h = time_writable z most h

weight_writable : (u : WeightUnit) (z : ℤ) (most : ℕ) → InRange z → IsWritable (weight u z) most
weight_writable unit.Ns z most h = time_writable z most h
weight_writable unit.Samples z most h = let e = signed_decimal_is_exact z (in_range_small z h) in (e.numeral, e.reads)
weight_writable unit.Bytes z most h = let e = signed_decimal_is_exact z (in_range_small z h) in (e.numeral, e.reads)

-- ---- texts

-- each byte is below 128
abbrev are_ascii : List ℕ → Bool
are_ascii [] = true
are_ascii (c ∷ cs) = nat_lt c 128 && are_ascii cs

both_true : (a b : Bool) → (a && b) ≡ true → (a ≡ true) × (b ≡ true)
both_true true b e = (refl, e)
both_true false b e = absurd cc

ascii : (text : List ℕ) → are_ascii text ≡ true → IsAscii text
ascii [] h i = omega arith
ascii (c ∷ cs) h zero = let small : nat_lt c 128 ≡ true = (both_true (nat_lt c 128) (are_ascii cs) h).0 in grind (arith, nat_tests)
ascii (c ∷ cs) h (suc i) = ascii cs (both_true (nat_lt c 128) (are_ascii cs) h).1 i

pub utf8 : (text : List ℕ) → are_ascii text ≡ true → IsUtf8 text
utf8 text h = IsUtf8-from_ascii text (ascii text h)

type_utf8 : (u : WeightUnit) → IsUtf8 (weight_type u)
type_utf8 unit.Samples = utf8 (codes "samples") refl
type_utf8 unit.Bytes = utf8 (codes "bytes") refl
type_utf8 unit.Ns = utf8 (codes "tracing-ms") refl

color_utf8 : (b : Bool) → IsUtf8 (color b)
color_utf8 true = utf8 (codes "grey") refl
color_utf8 false = utf8 (codes "blue") refl

number_utf8 : (n : ℕ) → n < 2 ^ 64 → IsUtf8 (decimal n)
number_utf8 n h = IsUtf8-from_ascii (decimal n) (IsAscii-decimal n h)

-- each element, by its place
abbrev Each : {A : Type 0} → (A → Type 0) → List A → Type 0
Each {A} P xs = (i : ℕ) (x : A) → slice_get xs i ≡ Some x → P x

no_some : {A : Type 0} {x : A} → None ≡ Some x → ⊥
no_some e = cc

each_drop : {A : Type 0} (P : A → Type 0) (n : ℕ) (xs : List A) → Each P xs → Each P (drop n xs)
each_drop P zero xs h = h
each_drop P (suc n) [] h = h
each_drop P (suc n) (x ∷ xs) h = each_drop P n xs (λ i y e. h (suc i) y e)

each_take : {A : Type 0} (P : A → Type 0) (n : ℕ) (xs : List A) → Each P xs → Each P (take n xs)
each_take P zero xs h i x e = absurd (no_some e)
each_take P (suc n) [] h i x e = absurd (no_some e)
each_take P (suc n) (y ∷ xs) h zero x e = h zero x e
each_take P (suc n) (y ∷ xs) h (suc i) x e = each_take P n xs (λ i x e. h (suc i) x e) i x e

numbered_writable : (from : ℕ) (texts : List (List ℕ)) (most : ℕ) → from + length texts < 2 ^ 64 → Each IsUtf8 texts →
    AreWritableMembers (members_of (map (λ (p : ℕ × List ℕ). (decimal p.0, string p.1)) (enumerate_from from texts))) most
numbered_writable from [] most few h = tt
numbered_writable from (text ∷ texts) most few h =
    (number_utf8 from (omega arith), h 0 text refl, numbered_writable (from + 1) texts most (omega arith) (λ i x e. h (suc i) x e))

data_writable : (texts : List (List ℕ)) (most : ℕ) → length texts < 2 ^ 64 → Each IsUtf8 texts → IsWritable (data_value texts) (suc most)
data_writable [] most few h = tt
data_writable (text ∷ texts) most few h = numbered_writable 0 (text ∷ texts) most (omega arith) h

-- ---- tables

resources_writable : (t : SharedTables) (most : ℕ) → AreTied t → IsWritable (resources_value t) (suc (suc most))
resources_writable t most tied =
    let strings : length t.strings ≤ 4194304 = tied.few_strings in
    (utf8 (codes "name") refl, column_writable index t.resources most (λ i n e. let is : n < length t.strings = all_at (λ n. n < length t.strings) t.resources i n tied.resources e in index_writable n most (omega arith)), tt)

small : (n : ℕ) → n ≤ 4194304 → (o : Option ℕ) → IfSome o (λ k. k < n) → IfSome o (λ k. k < 2 ^ 64)
small n h None i = tt
small n h (Some x) i = omega arith

funcs_writable : (t : SharedTables) (most : ℕ) → AreTied t → IsWritable (funcs_value t) (suc (suc most))
funcs_writable t most tied =
    let strings : length t.strings ≤ 4194304 = tied.few_strings in
    let resources : length t.resources ≤ 4194304 = (let few : length t.resources ≤ 1048576 = tied.few_resources in omega arith) in
    let func_at : (i : ℕ) (f : Func) → slice_get t.funcs i ≡ Some f → IsFunc (length t.strings) (length t.resources) f = λ i f e. all_at (IsFunc (length t.strings) (length t.resources)) t.funcs i f tied.funcs e in (
      utf8 (codes "name") refl,
      column_writable (λ (f : Func). index f.name) t.funcs most (λ i f e. let is = (func_at i f e).name in index_writable f.name most (omega arith)),
      (
        utf8 (codes "isJS") refl,
        column_writable (λ (f : Func). boolean f.is_js) t.funcs most (λ i f e. tt),
        (
          utf8 (codes "relevantForJS") refl,
          column_writable (λ (f : Func). boolean f.relevant_for_js) t.funcs most (λ i f e. tt),
          (
            utf8 (codes "resource") refl,
            column_writable (λ (f : Func). resource_index f.resource) t.funcs most (λ i f e. resource_writable f.resource most (small (length t.resources) resources f.resource (func_at i f e).resource)),
            (
              utf8 (codes "fileName") refl,
              column_writable (λ (f : Func). maybe_index f.file) t.funcs most (λ i f e. maybe_writable f.file most (small (length t.strings) strings f.file (func_at i f e).file)),
              tt,
            ),
          ),
        ),
      ),
    )

frames_writable : (t : SharedTables) (most : ℕ) → AreTied t → t.categories ≤ 65536 → IsWritable (frames_value t) (suc (suc most))
frames_writable t most tied few =
    let funcs : length t.funcs ≤ 1048576 = tied.few_funcs in
    let frame_at : (i : ℕ) (f : FrameRow) → slice_get t.frames i ≡ Some f → IsFrame (length t.funcs) t.categories f = λ i f e. all_at (IsFrame (length t.funcs) t.categories) t.frames i f tied.frames e in (
      utf8 (codes "func") refl,
      column_writable (λ (f : FrameRow). index f.func) t.frames most (λ i f e. let is = (frame_at i f e).func in index_writable f.func most (omega arith)),
      (
        utf8 (codes "category") refl,
        column_writable (λ (f : FrameRow). maybe_index f.category) t.frames most (λ i f e. maybe_writable f.category most (small t.categories (omega arith) f.category (frame_at i f e).category)),
        tt,
      ),
    )

stacks_writable : (t : SharedTables) (most : ℕ) → IsShared t → IsWritable (stacks_value t) (suc (suc most))
stacks_writable t most kept =
    let frames : length t.frames ≤ 4194304 = kept.tied.few_frames in
    let stacks : length t.stacks ≤ 4194304 = kept.tied.few_stacks in (
      utf8 (codes "frame") refl,
      column_writable index t.stack_frames most (λ i j e. let is = kept.frames.frame i j e in let within = slice_get_within t.frames j is.1.0 is.1.1.1 in index_writable j most (omega arith)),
      (
        utf8 (codes "prefix") refl,
        column_writable (λ (s : StackRow). maybe_index s.prefix) t.stacks most
            (λ i s e. let within = slice_get_within t.stacks i s e in maybe_writable s.prefix most (small i (omega arith) s.prefix (kept.prefixes i s e))),
        tt,
      ),
    )

samples_writable : (t : ThreadTables) (most : ℕ) → AreTied t.shared → AreOwn t → IsWritable (samples_value t) (suc (suc most))
samples_writable t most tied own =
    let stacks : length t.shared.stacks ≤ 4194304 = tied.few_stacks in
    let sample_at : (i : ℕ) (s : SampleRow) → slice_get t.samples i ≡ Some s → IsSample (length t.shared.stacks) s = λ i s e. all_at (IsSample (length t.shared.stacks)) t.samples i s own.samples e in (
      utf8 (codes "stack") refl,
      column_writable (λ (s : SampleRow). maybe_index s.stack) t.samples most (λ i s e. maybe_writable s.stack most (small (length t.shared.stacks) stacks s.stack (sample_at i s e).stack)),
      (
        utf8 (codes "time") refl,
        column_writable (λ (s : SampleRow). time s.time) t.samples most (λ i s e. time_writable s.time most (sample_at i s e).time),
        (
          utf8 (codes "weightType") refl,
          type_utf8 t.unit,
          (
            utf8 (codes "weight") refl,
            column_writable (λ (s : SampleRow). weight t.unit s.weight) t.samples most (λ i s e. weight_writable t.unit s.weight most (sample_at i s e).weight),
            tt,
          ),
        ),
      ),
    )

markers_writable : (t : ThreadTables) (most : ℕ) → IsThread t → IsWritable (markers_value t.markers) (suc (suc (suc most)))
markers_writable t most kept =
    let strings : length t.shared.strings ≤ 4194304 = kept.shared.tied.few_strings in
    let marker_at : (i : ℕ) (m : RawMarker) → slice_get t.markers.rows i ≡ Some m → IsMarker (length t.shared.strings) (length t.markers.texts) m =
    λ i m e. all_at (IsMarker (length t.shared.strings) (length t.markers.texts)) t.markers.rows i m kept.own.markers e in
    let all_texts : Each IsUtf8 t.markers.texts = λ i x e. all_at IsUtf8 t.markers.texts i x kept.texts e in (
      utf8 (codes "phase") refl,
      column_writable (λ (m : RawMarker). index m.phase) t.markers.rows (suc most) (λ i m e. let is = (marker_at i m e).phase in index_writable m.phase (suc most) (omega arith)),
      (
        utf8 (codes "name") refl,
        column_writable (λ (m : RawMarker). index m.name) t.markers.rows (suc most) (λ i m e. let is = (marker_at i m e).name in index_writable m.name (suc most) (omega arith)),
        (
          utf8 (codes "startTime") refl,
          column_writable (λ (m : RawMarker). maybe_time m.start) t.markers.rows (suc most) (λ i m e. maybe_time_writable m.start (suc most) (marker_at i m e).start),
          (
            utf8 (codes "endTime") refl,
            column_writable (λ (m : RawMarker). maybe_time m.end) t.markers.rows (suc most) (λ i m e. maybe_time_writable m.end (suc most) (marker_at i m e).end),
            (
              utf8 (codes "data") refl,
              column_writable (λ (m : RawMarker). data_value (marker_texts t.markers.texts m)) t.markers.rows (suc most)
                  (λ i m e.
                  let end : m.texts.1 < 2 ^ 32 = all_at (λ (m : RawMarker). m.texts.1 < 2 ^ 32) t.markers.rows i m kept.ranges e in
                  data_writable (marker_texts t.markers.texts m) most (omega (arith, length-take (m.texts.1 - m.texts.0) (drop m.texts.0 t.markers.texts)))
                  (each_take IsUtf8 (m.texts.1 - m.texts.0) (drop m.texts.0 t.markers.texts) (each_drop IsUtf8 m.texts.0 t.markers.texts all_texts))),
              tt,
            ),
          ),
        ),
      ),
    )

thread_writable : (t : ThreadTables) (most : ℕ) → IsThread t → t.shared.categories ≤ 65536 → IsWritable (thread_value t) (suc (suc (suc (suc most))))
thread_writable t most kept few =
    let tied = kept.shared.tied in (
      utf8 (codes "name") refl,
      kept.name,
      (
        utf8 (codes "stringArray") refl,
        column_writable string t.shared.strings (suc (suc most)) (λ i s e. all_at IsUtf8 t.shared.strings i s kept.strings e),
        (
          utf8 (codes "resourceTable") refl,
          resources_writable t.shared (suc most) tied,
          (
            utf8 (codes "funcTable") refl,
            funcs_writable t.shared (suc most) tied,
            (
              utf8 (codes "frameTable") refl,
              frames_writable t.shared (suc most) tied few,
              (
                utf8 (codes "stackTable") refl,
                stacks_writable t.shared (suc most) kept.shared,
                (
                  utf8 (codes "samples") refl,
                  samples_writable t (suc most) tied kept.own,
                  (
                    utf8 (codes "markers") refl,
                    markers_writable t most kept,
                    tt,
                  ),
                ),
              ),
            ),
          ),
        ),
      ),
    )

-- ---- the profile

categories_writable : (default from : ℕ) (names : List (List ℕ)) (most : ℕ) → Each IsUtf8 names → AreWritable (values_of (map (category_value default) (enumerate_from from names))) (suc most)
categories_writable default from [] most h = tt
categories_writable default from (name ∷ names) most h =
    ((utf8 (codes "name") refl, h 0 name refl, (utf8 (codes "color") refl, color_utf8 (from == default), tt)), categories_writable default (from + 1) names most (λ i x e. h (suc i) x e))

pub zero_writable : (most : ℕ) → IsWritable (number (codes "0")) most
zero_writable most = (record { negative = false; whole = codes "0"; fraction = []; down = false; exponent = [] }, n.number n.no_sign n.zero_int n.no_fraction n.no_exponent)

pub profile_writable : (p : ProfileTables) → IsKept p → length p.categories ≤ 65536 → IsWritable (profile_value p) 256
profile_writable p kept few =
    let names : Each IsUtf8 p.categories = λ i x e. all_at IsUtf8 p.categories i x kept.names e in (
      utf8 (codes "meta") refl,
      (utf8 (codes "preprocessedProfileVersion") refl, zero_writable 254, (utf8 (codes "categories") refl, categories_writable p.default 0 p.categories 252 names, tt)),
      (
        utf8 (codes "libs") refl,
        tt,
        (
          utf8 (codes "threads") refl,
          column_writable thread_value p.threads 254
              (λ i t e.
              let counts : CountsIn (length p.categories) p.default t = all_at (CountsIn (length p.categories) p.default) p.threads i t kept.profile.threads e in
              let same : t.shared.categories ≡ length p.categories = counts.0 in
              thread_writable t 250 (all_at IsThread p.threads i t kept.threads e) (omega arith)),
          tt,
        ),
      ),
    )
