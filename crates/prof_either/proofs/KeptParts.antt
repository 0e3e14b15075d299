-- What is kept of a Gecko thread's columns breaks what all of them break, and stands for the same thread where nothing breaks.
use Rattle.std.proofs.Common.{◌≡◌, ℕ, suc, ◌<◌, ◌≤◌, Option, None, Some, List, [], ◌∷◌, length, take, false, refl, ◌∙◌, ap, arith, inl, inr}
use Rattle.std.specs.Prelude.{nat_le, nat_eq, if◌then◌else◌}
use Rattle.std.proofs.lemmas.Bool.{cases_lt}
use Rattle.std.proofs.lemmas.List.{take_all, length-take-le}
use Rattle.prof_raw.specs.declared.column.CellKind.TheVariants as kind
use Rattle.prof_raw.specs.declared.limits.TheConstants.{MOST_ROWS, MOST_STRINGS}
use Rattle.prof_raw.specs.declared.raw.State.TheVariants.{Array}
use Rattle.prof_raw.specs.declared.rule.Broken.{Broken}
use Rattle.prof_raw.specs.declared.rule.Column.TheVariants as column
use Rattle.prof_raw.specs.declared.rule.ListFault.{ListFault}
use Rattle.prof_raw.specs.declared.rule.Table.TheVariants as table
use Rattle.prof_raw.specs.Cells.{Cells, OwnCells, SharedCells}
use Rattle.prof_raw.specs.Checks.{first_of, named, first_column, optional_column, samples_broken, markers_broken, own_broken}
use Rattle.prof_raw.specs.Rules.{counted_fault}
use Rattle.prof_raw.proofs.ColumnLemmas.{first_fit, counted_fit}
use Rattle.prof_tables.specs.Rows.{shared_of, thread_of}
use Rattle.prof_grammar.specs.Value.{Value}
use Rattle.prof_layout.specs.Columns.{capped, IsGathered}
use Rattle.prof_layout.specs.Kept.{kept_samples, kept_markers, kept_texts, AreOwnGathered}
use Rattle.prof_layout.specs.Markers.{all_texts, ranges_from}
use Rattle.prof_layout.proofs.Capped.{capped_same, capped_over, needed-capped, optional-capped}
use Rattle.prof_layout.proofs.Kept.{or_same, all_pass, some_none, not_within, not_same, is_array}
use Rattle.prof_layout.proofs.KeptOwn.{samples_kept, markers_kept, own_whole}
use Rattle.prof_gecko_names.specs.Lists.{Lists}
use Rattle.prof_gecko.specs.Gathered.{Lib}
use Rattle.prof_gecko.specs.Columns.{FrameCells, StackCells, ThreadParts}
use Rattle.prof_gecko.specs.Converted.{lists_in, shared_in, thread_in}
use Rattle.prof_gecko.specs.Checks.{table_broken, frames_checks, frames_broken, stacks_checks, stacks_broken, columns_checks, columns_broken, limits_broken, parts_broken}

-- ---- the strings

strings_kept : (thread : Option ℕ) (strings : List (List ℕ)) (own : Option ListFault) →
    named thread table.StringTable column.List (counted_fault MOST_STRINGS (length (take (suc MOST_STRINGS) strings)) own) ≡ named thread table.StringTable column.List (counted_fault MOST_STRINGS (length strings) own)
strings_kept thread strings own = elim (cases_lt MOST_STRINGS (length strings)) [
  | inl over ↦
      let long : MOST_STRINGS < length (take (suc MOST_STRINGS) strings) = over_taken MOST_STRINGS strings over in
      let kept : nat_le (length (take (suc MOST_STRINGS) strings)) MOST_STRINGS ≡ false = not_within (length (take (suc MOST_STRINGS) strings)) MOST_STRINGS long in
      let all : nat_le (length strings) MOST_STRINGS ≡ false = not_within (length strings) MOST_STRINGS over in
      rw (kept, all) refl
  | inr within ↦ ap (λ (ss : List (List ℕ)). named thread table.StringTable column.List (counted_fault MOST_STRINGS (length ss) own)) (take_all (suc MOST_STRINGS) strings (omega arith))
]
  where
    over_taken : {X : Type 0} (most : ℕ) (xs : List X) → most < length xs → most < length (take (suc most) xs)
    over_taken most xs over = let e = length-take-le (suc most) xs (omega arith) in omega arith

-- ---- frames

pub record FramesGathered (f : FrameCells) : Type 0 where
  pub location : IsGathered f.location
  pub relevant : IsGathered f.relevant_for_js
  pub category : IsGathered f.category

unfoldable pub kept_frames : FrameCells → FrameCells
kept_frames f = record f { location = capped MOST_ROWS f.location; relevant_for_js = capped MOST_ROWS f.relevant_for_js; category = capped MOST_ROWS f.category }

frames_kept : (thread : Option ℕ) (strings categories : ℕ) (f : FrameCells) → FramesGathered f → frames_broken thread strings categories (kept_frames f) ≡ frames_broken thread strings categories f
unfolding frames_broken kept_frames
frames_kept thread strings categories f h = elim (cases_lt MOST_ROWS (length f.location.cells)) [
  | inl over ↦
      let array : f.location.state ≡ Array = is_array f.location h.location (omega arith) in
      let kept : nat_le (length (take (suc MOST_ROWS) f.location.cells)) MOST_ROWS ≡ false = not_within (length (take (suc MOST_ROWS) f.location.cells)) MOST_ROWS (capped_over MOST_ROWS f.location over) in
      let all : nat_le (length f.location.cells) MOST_ROWS ≡ false = not_within (length f.location.cells) MOST_ROWS over in
      rw (array, kept, all) refl
  | inr few ↦
      let rows = length f.location.cells in
      let before = table_broken thread table.FrameTable f.fault in
      let first = first_column thread table.FrameTable column.Location MOST_ROWS (kind.Index strings) f.location in
      ap (λ (c : Cells). frames_broken thread strings categories (record f { location = c; relevant_for_js = capped MOST_ROWS f.relevant_for_js; category = capped MOST_ROWS f.category })) (capped_same MOST_ROWS f.location h.location (omega arith))
      ∙ ap (λ (o : Option Broken). first_of (before ∷ first ∷ o ∷ optional_column thread table.FrameTable column.Category rows (kind.MaybeIndex categories) (capped MOST_ROWS f.category) ∷ []))
      (optional-capped thread table.FrameTable column.RelevantForJs MOST_ROWS rows kind.Truth f.relevant_for_js few h.relevant)
      ∙ ap (λ (o : Option Broken). first_of (before ∷ first ∷ optional_column thread table.FrameTable column.RelevantForJs rows kind.Truth f.relevant_for_js ∷ o ∷ []))
      (optional-capped thread table.FrameTable column.Category MOST_ROWS rows (kind.MaybeIndex categories) f.category few h.category)
]

-- an optional column that passes beside so few rows has no more
optional_few : (thread : Option ℕ) (c : _) (rows : ℕ) (k : _) (cells : Cells) → IsGathered cells → rows ≤ MOST_ROWS → optional_column thread table.FrameTable c rows k cells ≡ None → length cells.cells ≤ MOST_ROWS
optional_few thread c rows k cells h few none = elim (cases_lt MOST_ROWS (length cells.cells)) [
  | inl over ↦
      let array : cells.state ≡ Array = is_array cells h (omega arith) in
      let test : nat_eq (length cells.cells) rows ≡ false = not_same (length cells.cells) rows (omega arith) in
      absurd (some_none _ (rw (array, test) at none))
  | inr within ↦ within
]

frames_whole : (thread : Option ℕ) (strings categories : ℕ) (f : FrameCells) → FramesGathered f → frames_broken thread strings categories f ≡ None → kept_frames f ≡ f
unfolding frames_broken kept_frames
frames_whole thread strings categories f h none =
    let rows = length f.location.cells in
    let all = all_pass (frames_checks thread strings categories f) none in
    let few : rows ≤ MOST_ROWS = (first_fit thread table.FrameTable column.Location MOST_ROWS (kind.Index strings) f.location all.1.0).0 in
    let relevant = optional_few thread column.RelevantForJs rows kind.Truth f.relevant_for_js h.relevant few all.1.1.0 in
    let category = optional_few thread column.Category rows (kind.MaybeIndex categories) f.category h.category few all.1.1.1.0 in
    ap (λ (c : Cells). let r : FrameCells = record f { location = c; relevant_for_js = capped MOST_ROWS f.relevant_for_js; category = capped MOST_ROWS f.category } in r) (capped_same MOST_ROWS f.location h.location (omega (arith, few)))
    ∙ ap (λ (c : Cells). let r : FrameCells = record f { relevant_for_js = c; category = capped MOST_ROWS f.category } in r) (capped_same MOST_ROWS f.relevant_for_js h.relevant (omega (arith, relevant)))
    ∙ ap (λ (c : Cells). let r : FrameCells = record f { category = c } in r) (capped_same MOST_ROWS f.category h.category (omega (arith, category)))

-- ---- stack rows

pub record StacksGathered (s : StackCells) : Type 0 where
  pub frame : IsGathered s.frame
  pub prefix : IsGathered s.prefix

unfoldable pub kept_stacks : StackCells → StackCells
kept_stacks s = record s { frame = capped MOST_ROWS s.frame; prefix = capped MOST_ROWS s.prefix }

stacks_kept : (thread : Option ℕ) (frames : ℕ) (s : StackCells) → StacksGathered s → stacks_broken thread frames (kept_stacks s) ≡ stacks_broken thread frames s
unfolding stacks_broken kept_stacks
stacks_kept thread frames s h = elim (cases_lt MOST_ROWS (length s.frame.cells)) [
  | inl over ↦
      let array : s.frame.state ≡ Array = is_array s.frame h.frame (omega arith) in
      let kept : nat_le (length (take (suc MOST_ROWS) s.frame.cells)) MOST_ROWS ≡ false = not_within (length (take (suc MOST_ROWS) s.frame.cells)) MOST_ROWS (capped_over MOST_ROWS s.frame over) in
      let all : nat_le (length s.frame.cells) MOST_ROWS ≡ false = not_within (length s.frame.cells) MOST_ROWS over in
      rw (array, kept, all) refl
  | inr few ↦
      let rows = length s.frame.cells in
      let before = table_broken thread table.StackTable s.fault in
      let first = first_column thread table.StackTable column.Frame MOST_ROWS (kind.Index frames) s.frame in
      ap (λ (c : Cells). stacks_broken thread frames (record s { frame = c; prefix = capped MOST_ROWS s.prefix })) (capped_same MOST_ROWS s.frame h.frame (omega arith))
      ∙ ap (λ (o : Option Broken). first_of (before ∷ first ∷ o ∷ [])) (needed-capped thread table.StackTable column.Prefix MOST_ROWS rows kind.Prefix s.prefix few h.prefix)
]

stacks_whole : (thread : Option ℕ) (frames : ℕ) (s : StackCells) → StacksGathered s → stacks_broken thread frames s ≡ None → kept_stacks s ≡ s
unfolding stacks_broken kept_stacks
stacks_whole thread frames s h none =
    let rows = length s.frame.cells in
    let all = all_pass (stacks_checks thread frames s) none in
    let few : rows ≤ MOST_ROWS = (first_fit thread table.StackTable column.Frame MOST_ROWS (kind.Index frames) s.frame all.1.0).0 in
    let prefix : length s.prefix.cells ≤ MOST_ROWS = elim (cases_lt MOST_ROWS (length s.prefix.cells)) [
      | inl over ↦
          let array : s.prefix.state ≡ Array = is_array s.prefix h.prefix (omega arith) in
          let test : nat_eq (length s.prefix.cells) rows ≡ false = not_same (length s.prefix.cells) rows (omega arith) in
          absurd (some_none _ (rw (array, test) at all.1.1.0))
      | inr within ↦ within
    ] in
    ap (λ (c : Cells). let r : StackCells = record s { frame = c; prefix = capped MOST_ROWS s.prefix } in r) (capped_same MOST_ROWS s.frame h.frame (omega (arith, few)))
    ∙ ap (λ (c : Cells). let r : StackCells = record s { prefix = c } in r) (capped_same MOST_ROWS s.prefix h.prefix (omega (arith, prefix)))

-- ---- samples and markers

skip_texts_samples : (thread : Option ℕ) (stacks : ℕ) (rows : List Value) (raw : OwnCells) → samples_broken thread stacks (kept_texts rows (kept_markers raw)) ≡ samples_broken thread stacks raw
unfolding samples_broken kept_texts kept_markers
skip_texts_samples thread stacks rows raw = refl

own_samples : (thread : Option ℕ) (stacks : ℕ) (rows : List Value) (raw : OwnCells) → AreOwnGathered raw → samples_broken thread stacks (kept_texts rows (kept_markers (kept_samples raw))) ≡ samples_broken thread stacks raw
own_samples thread stacks rows raw h = skip_texts_samples thread stacks rows (kept_samples raw) ∙ samples_kept thread stacks raw h

skip_texts_markers : (thread : Option ℕ) (strings : ℕ) (rows : List Value) (raw : OwnCells) → markers_broken thread strings (kept_texts rows (kept_markers (kept_samples raw))) ≡ markers_broken thread strings (kept_markers raw)
unfolding markers_broken kept_texts kept_markers kept_samples
skip_texts_markers thread strings rows raw = refl

own_markers : (thread : Option ℕ) (strings : ℕ) (rows : List Value) (raw : OwnCells) → AreOwnGathered raw → markers_broken thread strings (kept_texts rows (kept_markers (kept_samples raw))) ≡ markers_broken thread strings raw
own_markers thread strings rows raw h = skip_texts_markers thread strings rows raw ∙ markers_kept thread strings raw h

own_has : (rows : List Value) (raw : OwnCells) → (kept_texts rows (kept_markers (kept_samples raw))).has_markers ≡ raw.has_markers
unfolding kept_texts kept_markers kept_samples
own_has rows raw = refl

-- ---- all columns of a thread

-- the columns, and the values of the details, whose texts they have
pub record PartsGathered (rows : List Value) (p : ThreadParts) : Type 0 where
  pub frames : FramesGathered p.frames
  pub stacks : StacksGathered p.stacks
  pub own : AreOwnGathered p.own
  pub texts : p.own.marker_texts ≡ all_texts rows
  pub ranges : p.own.marker_ranges ≡ ranges_from 0 rows
  pub few : length rows ≤ length p.own.marker_data.cells

abbrev pub kept_parts : List Value → ThreadParts → ThreadParts
kept_parts rows p = record p {
  strings = take (suc MOST_STRINGS) p.strings;
  frames = kept_frames p.frames;
  stacks = kept_stacks p.stacks;
  own = kept_texts rows (kept_markers (kept_samples p.own));
}

few_strings : (thread : Option ℕ) (p : ThreadParts) → named thread table.StringTable column.List (counted_fault MOST_STRINGS (length p.strings) p.string_fault) ≡ None → take (suc MOST_STRINGS) p.strings ≡ p.strings
few_strings thread p none =
    let few = counted_fit thread table.StringTable column.List MOST_STRINGS (length p.strings) p.string_fault none in
    take_all (suc MOST_STRINGS) p.strings (omega (arith, few))

pub columns_kept : (thread : Option ℕ) (categories : ℕ) (rows : List Value) (p : ThreadParts) → PartsGathered rows p → columns_broken thread categories (kept_parts rows p) ≡ columns_broken thread categories p
unfolding columns_broken
columns_kept thread categories rows p h =
    or_same _ _ _ _ (strings_kept thread p.strings p.string_fault) (λ none.
    let strings = few_strings thread p none in
    or_same _ _ _ _ (ap (λ (ss : List (List ℕ)). frames_broken thread (length ss) categories (kept_frames p.frames)) strings ∙ frames_kept thread (length p.strings) categories p.frames h.frames) (λ none.
    let frames = frames_whole thread (length p.strings) categories p.frames h.frames none in
    or_same _ _ _ _ (ap (λ (f : FrameCells). stacks_broken thread (length f.location.cells) (kept_stacks p.stacks)) frames ∙ stacks_kept thread (length p.frames.location.cells) p.stacks h.stacks) (λ none.
    let stacks = stacks_whole thread (length p.frames.location.cells) p.stacks h.stacks none in
    let own = kept_texts rows (kept_markers (kept_samples p.own)) in
    let samples1 = samples_broken thread (length (kept_stacks p.stacks).frame.cells) own in
    let samples2 = samples_broken thread (length p.stacks.frame.cells) p.own in
    let fault1 = if own.has_markers then table_broken thread table.Markers p.markers_fault else None in
    let fault2 = if p.own.has_markers then table_broken thread table.Markers p.markers_fault else None in
    let markers1 = markers_broken thread (length (take (suc MOST_STRINGS) p.strings)) own in
    let markers2 = markers_broken thread (length p.strings) p.own in
    or_same (table_broken thread table.Samples p.samples_fault) (table_broken thread table.Samples p.samples_fault) (first_of (samples1 ∷ fault1 ∷ markers1 ∷ [])) (first_of (samples2 ∷ fault2 ∷ markers2 ∷ [])) refl (λ none.
    or_same samples1 samples2 (first_of (fault1 ∷ markers1 ∷ [])) (first_of (fault2 ∷ markers2 ∷ [])) (ap (λ (s : StackCells). samples_broken thread (length s.frame.cells) own) stacks ∙ own_samples thread (length p.stacks.frame.cells) rows p.own h.own) (λ none.
    or_same fault1 fault2 (first_of (markers1 ∷ [])) (first_of (markers2 ∷ [])) (ap (λ b. let o : Option Broken = if b then table_broken thread table.Markers p.markers_fault else None in o) (own_has rows p.own)) (λ none.
    or_same markers1 markers2 None None (ap (λ (ss : List (List ℕ)). markers_broken thread (length ss) own) strings ∙ own_markers thread (length p.strings) rows p.own h.own) (λ none. refl)))))))

-- ---- the thread

record ArePassed (thread : Option ℕ) (p : ThreadParts) : Type 0 where
  strings : take (suc MOST_STRINGS) p.strings ≡ p.strings
  frames : kept_frames p.frames ≡ p.frames
  stacks : kept_stacks p.stacks ≡ p.stacks
  samples : samples_broken thread (length p.stacks.frame.cells) p.own ≡ None
  markers : markers_broken thread (length p.strings) p.own ≡ None

passed : (thread : Option ℕ) (categories : ℕ) (rows : List Value) (p : ThreadParts) → PartsGathered rows p → columns_broken thread categories p ≡ None → ArePassed thread p
unfolding columns_broken
passed thread categories rows p h none =
    let all = all_pass (columns_checks thread categories p) none in
    record {
      strings = few_strings thread p all.0;
      frames = frames_whole thread (length p.strings) categories p.frames h.frames all.1.0;
      stacks = stacks_whole thread (length p.frames.location.cells) p.stacks h.stacks all.1.1.0;
      samples = all.1.1.1.1.0;
      markers = all.1.1.1.1.1.1.0;
    }

lists_same : (libs : List Lib) (thread : Option ℕ) (rows : List Value) (p : ThreadParts) → ArePassed thread p → lists_in libs (kept_parts rows p).strings (kept_parts rows p).frames ≡ lists_in libs p.strings p.frames
lists_same libs thread rows p ok =
    ap (λ (ss : List (List ℕ)). lists_in libs ss (kept_frames p.frames)) ok.strings
    ∙ ap (λ (f : FrameCells). lists_in libs p.strings f) ok.frames

pub parts_kept : (number categories : ℕ) (libs : List Lib) (rows : List Value) (p : ThreadParts) → PartsGathered rows p → parts_broken number categories libs (kept_parts rows p) ≡ parts_broken number categories libs p
unfolding parts_broken
parts_kept number categories libs rows p h =
    or_same _ _ _ _ (columns_kept (Some number) categories rows p h) (λ none.
    let ok = passed (Some number) categories rows p h none in
    ap (λ (d : Lists). first_of (limits_broken (Some number) d ∷ [])) (lists_same libs (Some number) rows p ok))

own_passes : (thread : Option ℕ) (strings stacks : ℕ) (own : OwnCells) → samples_broken thread stacks own ≡ None → markers_broken thread strings own ≡ None → own_broken thread strings stacks own ≡ None
unfolding own_broken
own_passes thread strings stacks own s m = rw (s, m) refl

shared_same : (libs : List Lib) (thread : Option ℕ) (rows : List Value) (p : ThreadParts) → ArePassed thread p → shared_in libs (kept_parts rows p) ≡ shared_in libs p
shared_same libs thread rows p ok =
    ap (λ (ss : List (List ℕ)). shared_in libs (record p { strings = ss; frames = kept_frames p.frames; stacks = kept_stacks p.stacks; own = (kept_parts rows p).own })) ok.strings
    ∙ ap (λ (f : FrameCells). shared_in libs (record p { frames = f; stacks = kept_stacks p.stacks; own = (kept_parts rows p).own })) ok.frames
    ∙ ap (λ (s : StackCells). shared_in libs (record p { stacks = s; own = (kept_parts rows p).own })) ok.stacks

pub parts_whole : (number categories default : ℕ) (libs : List Lib) (rows : List Value) (p : ThreadParts) → PartsGathered rows p → columns_broken (Some number) categories p ≡ None →
    thread_in categories default libs (kept_parts rows p) ≡ thread_in categories default libs p
unfolding thread_in
parts_whole number categories default libs rows p h none =
    let thread = Some number in
    let ok = passed thread categories rows p h none in
    let own = own_passes thread (length p.strings) (length p.stacks.frame.cells) p.own ok.samples ok.markers in
    ap (λ (s : SharedCells). thread_of (shared_of categories default s) (kept_parts rows p).own) (shared_same libs thread rows p ok)
    ∙ own_whole thread (length p.strings) (length p.stacks.frame.cells) (shared_of categories default (shared_in libs p)) rows p.own h.own h.texts h.ranges h.few own
