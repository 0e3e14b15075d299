-- The parts of a view, as a chain.
use Rattle.std.proofs.Common.{◌≡◌, ◌≢◌, ℕ, ◌+◌, ◌<◌, ◌≤◌, Bool, true, false, List, [], ◌∷◌, ◌++◌, length, zero, suc, refl, sym, subst, ap, ◌∙◌, arith, inl, inr}
use Rattle.std.specs.Prelude.{◌==◌, not, codes, Result, Ok, Err, pos}
use Rattle.prof_spell.specs.Spelling.{Language, Apart, IsTaken, Reads, Splits}
use Rattle.prof_spell.specs.Readings.{Readable}
use Rattle.prof_spell.specs.declared.cursor.Stop.{Stop}
use Rattle.prof_spell.specs.Pieces.{Among, words, joined_goes}
use Rattle.prof_spell.specs.Chains.{chains}
use Rattle.prof_spell.specs.Escapes.{searches}
use Rattle.prof_spell.proofs.Words.{apart_any, splits_words}
use Rattle.prof_spell.proofs.Parts.{Leads, Built, rest, splits_behind, splits_built, err_behind, err_built, taken_behind, taken_built}
use Rattle.prof_spell.proofs.Readings.{reading_words, reading_built, reading_behind, reading_chain, Next, item, none}
use Rattle.prof_spell.proofs.Chained.{Linked}
use Rattle.prof_spell.proofs.Bytes.{eqb_is}
use Rattle.prof_path.specs.declared.transform.Implementation.{Implementation}
use Rattle.prof_path.specs.declared.transform.Implementation.TheVariants as i
use Rattle.prof_path.specs.declared.transform.Range.{Range}
use Rattle.prof_path.specs.declared.transform.Transform.{Transform}
use Rattle.prof_path.specs.declared.transform.Transform.TheVariants.{MergeFunction, MergeCallNode, DropFunction, FocusSubtree, FocusFunction, FocusCategory, CollapseResource, CollapseDirectRecursion, CollapseRecursion, CollapseFunctionSubtree, FilterSamples}
use Rattle.prof_address.specs.declared.kind.Form.{Form}
use Rattle.prof_address.specs.declared.kind.Form.TheVariants.{First, Second}
use Rattle.prof_address.specs.declared.kind.Filter.{Filter}
use Rattle.prof_address.specs.declared.kind.TheConstants.{SHOWN}
use Rattle.prof_address.specs.declared.part.Part.{Part}
use Rattle.prof_address.specs.declared.part.Part.TheVariants as p
use Rattle.prof_address.specs.Transforms.{filter_word, transforms, some_transforms, transform_goes, u32s, IsOf}
use Rattle.prof_address.specs.Views.{not_line_end}
use Rattle.prof_address.specs.Parts.{ranges, some_ranges, some_searches, place, part_word, parts_from, Said, said_ranges, said_implementation, said_transforms, said_search, part_of, said_text, said_goes, IsSaid, contents, parts, part_chain}
use Rattle.prof_address.proofs.Filters.{as_filter}
use Rattle.prof_address.proofs.Lists.{splits_some, reading_some}
use Rattle.prof_address.proofs.RangeLemmas.{splits_some_ranges, reading_some_ranges, splits_some_searches, reading_some_search, letter_fits}

-- ---- what stands behind the word of each part

abbrev Shape : Part → Said → Type 0
Shape p.Ranges s = (list : List Range) × (s ≡ said_ranges list)
Shape p.Implementation s = (shown : Implementation) × (s ≡ said_implementation shown)
Shape p.Transforms s = (list : List Transform) × (s ≡ said_transforms list)
Shape p.Search s = (search : List ℕ) × (s ≡ said_search search)

shaped : (s : Said) (part : Part) → part_of s ≡ part → Shape part s
shaped (said_ranges list) part e = subst (λ (q : Part). Shape q (said_ranges list)) e (list, refl)
shaped (said_implementation shown) part e = subst (λ (q : Part). Shape q (said_implementation shown)) e (shown, refl)
shaped (said_transforms list) part e = subst (λ (q : Part). Shape q (said_transforms list)) e (list, refl)
shaped (said_search search) part e = subst (λ (q : Part). Shape q (said_search search)) e (search, refl)

pub ranges_built : (form : Form) → Built (contents form p.Ranges) some_ranges said_ranges
ranges_built form = record {
  into = λ y f. ((f, refl), refl);
  from = λ s f.
      let r = shaped s p.Ranges f.1 in
      (r.0, r.1, subst (λ (q : Said). IsSaid form q) r.1 f.0, λ m a. subst (λ (q : Said). Apart (said_goes q) m) r.1 a);
}

pub transforms_built : (form : Form) → Built (contents form p.Transforms) (some_transforms form) said_transforms
transforms_built form = record {
  into = λ y f. ((f, refl), refl);
  from = λ s f.
      let r = shaped s p.Transforms f.1 in
      (r.0, r.1, subst (λ (q : Said). IsSaid form q) r.1 f.0, λ m a. subst (λ (q : Said). Apart (said_goes q) m) r.1 a);
}

pub search_built : (form : Form) → Built (contents form p.Search) some_searches said_search
search_built form = record {
  into = λ y f. ((f, refl), refl);
  from = λ s f.
      let r = shaped s p.Search f.1 in
      (r.0, r.1, subst (λ (q : Said). IsSaid form q) r.1 f.0, λ m a. subst (λ (q : Said). Apart (said_goes q) m) r.1 a);
}

abbrev pub shown_words : Language Filter
shown_words = words filter_word (Among SHOWN)

abbrev pub said_shown : Filter → Said
said_shown f = said_implementation f.0

pub shown_built : (form : Form) → Built (contents form p.Implementation) shown_words said_shown
shown_built form = record {
  into = λ f h. ((shown f h, refl), refl);
  from = λ s f.
      let r = shaped s p.Implementation f.1 in
      (as_filter r.0, r.1, among r.0 (subst (λ (q : Said). IsSaid form q) r.1 f.0), λ m a. apart_any m);
}
  where
    shown : (f : Filter) → Among SHOWN f → f.0 ≢ i.Combined
    shown f (inl e) q = let h : i.Js ≡ i.Combined = ap (λ (g : Filter). g.0) e ∙ q in cc
    shown f (inr (inl e)) q = let h : i.Cpp ≡ i.Combined = ap (λ (g : Filter). g.0) e ∙ q in cc
    shown f (inr (inr n)) q = n

    among : (shown : Implementation) → shown ≢ i.Combined → Among SHOWN (as_filter shown)
    among i.Combined n = absurd (n refl)
    among i.Js n = inl refl
    among i.Cpp n = inr (inl refl)

splits_shown : Splits shown_words
splits_shown = splits_words filter_word SHOWN refl

splits_contents : (form : Form) (part : Part) → Splits (contents form part)
splits_contents form p.Ranges = splits_built (contents form p.Ranges) some_ranges said_ranges (ranges_built form) splits_some_ranges
splits_contents form p.Implementation = splits_built (contents form p.Implementation) shown_words said_shown (shown_built form) splits_shown
splits_contents form p.Transforms = splits_built (contents form p.Transforms) (some_transforms form) said_transforms (transforms_built form) (splits_some form)
splits_contents form p.Search = splits_built (contents form p.Search) some_searches said_search (search_built form) splits_some_searches

-- where what stands behind the word of a part is stuck
pub err_ranges : (form : Form) (part : Part) (bytes left : List ℕ) (stop : Stop) → part ≡ p.Ranges → Reads some_ranges bytes (Err stop) left → Reads (contents form part) bytes (Err stop) left
err_ranges form part bytes left stop e s = subst (λ (q : Part). Reads (contents form q) bytes (Err stop) left) (sym e) (err_built (contents form p.Ranges) some_ranges said_ranges bytes left stop (ranges_built form) s)

pub err_shown : (form : Form) (part : Part) (bytes left : List ℕ) (stop : Stop) → part ≡ p.Implementation → Reads shown_words bytes (Err stop) left → Reads (contents form part) bytes (Err stop) left
err_shown form part bytes left stop e s = subst (λ (q : Part). Reads (contents form q) bytes (Err stop) left) (sym e) (err_built (contents form p.Implementation) shown_words said_shown bytes left stop (shown_built form) s)

pub err_transforms : (form : Form) (part : Part) (bytes left : List ℕ) (stop : Stop) → part ≡ p.Transforms → Reads (some_transforms form) bytes (Err stop) left → Reads (contents form part) bytes (Err stop) left
err_transforms form part bytes left stop e s = subst (λ (q : Part). Reads (contents form q) bytes (Err stop) left) (sym e) (err_built (contents form p.Transforms) (some_transforms form) said_transforms bytes left stop (transforms_built form) s)

pub err_search : (form : Form) (part : Part) (bytes left : List ℕ) (stop : Stop) → part ≡ p.Search → Reads some_searches bytes (Err stop) left → Reads (contents form part) bytes (Err stop) left
err_search form part bytes left stop e s = subst (λ (q : Part). Reads (contents form q) bytes (Err stop) left) (sym e) (err_built (contents form p.Search) some_searches said_search bytes left stop (search_built form) s)

-- and where it was read
pub ranges_taken : (form : Form) (part : Part) (bytes left : List ℕ) (list : List Range) → part ≡ p.Ranges → IsTaken some_ranges bytes list left → IsTaken (contents form part) bytes (said_ranges list) left
ranges_taken form part bytes left list e t = subst (λ (q : Part). IsTaken (contents form q) bytes (said_ranges list) left) (sym e) (taken_built (contents form p.Ranges) some_ranges said_ranges bytes left list (ranges_built form) (λ a. a) t)

pub shown_taken : (form : Form) (part : Part) (bytes left : List ℕ) (f : Filter) → part ≡ p.Implementation → IsTaken shown_words bytes f left → IsTaken (contents form part) bytes (said_shown f) left
shown_taken form part bytes left f e t = subst (λ (q : Part). IsTaken (contents form q) bytes (said_shown f) left) (sym e) (taken_built (contents form p.Implementation) shown_words said_shown bytes left f (shown_built form) (λ a. apart_any left) t)

pub transforms_taken : (form : Form) (part : Part) (bytes left : List ℕ) (list : List Transform) → part ≡ p.Transforms → IsTaken (some_transforms form) bytes list left → IsTaken (contents form part) bytes (said_transforms list) left
transforms_taken form part bytes left list e t = subst (λ (q : Part). IsTaken (contents form q) bytes (said_transforms list) left) (sym e) (taken_built (contents form p.Transforms) (some_transforms form) said_transforms bytes left list (transforms_built form) (λ a. a) t)

pub search_taken : (form : Form) (part : Part) (bytes left search : List ℕ) → part ≡ p.Search → IsTaken some_searches bytes search left → IsTaken (contents form part) bytes (said_search search) left
search_taken form part bytes left search e t = subst (λ (q : Part). IsTaken (contents form q) bytes (said_search search) left) (sym e) (taken_built (contents form p.Search) some_searches said_search bytes left search (search_built form) (λ a. a) t)

-- ---- the words of the parts from a place on

abbrev pub part_words : ℕ → Language Part
part_words due = words part_word (Among (parts_from due))

pub among_from : (due : ℕ) (part : Part) → due ≤ place part → Among (parts_from due) part
among_from zero p.Ranges l = inl refl
among_from zero p.Implementation l = inr (inl refl)
among_from zero p.Transforms l = inr (inr (inl refl))
among_from zero p.Search l = inr (inr (inr (inl refl)))
among_from (suc zero) p.Ranges l = absurd (omega arith)
among_from (suc zero) p.Implementation l = inl refl
among_from (suc zero) p.Transforms l = inr (inl refl)
among_from (suc zero) p.Search l = inr (inr (inl refl))
among_from (suc (suc zero)) p.Ranges l = absurd (omega arith)
among_from (suc (suc zero)) p.Implementation l = absurd (omega arith)
among_from (suc (suc zero)) p.Transforms l = inl refl
among_from (suc (suc zero)) p.Search l = inr (inl refl)
among_from (suc (suc (suc zero))) p.Ranges l = absurd (omega arith)
among_from (suc (suc (suc zero))) p.Implementation l = absurd (omega arith)
among_from (suc (suc (suc zero))) p.Transforms l = absurd (omega arith)
among_from (suc (suc (suc zero))) p.Search l = inl refl
among_from (suc (suc (suc (suc n)))) p.Ranges l = absurd (omega arith)
among_from (suc (suc (suc (suc n)))) p.Implementation l = absurd (omega arith)
among_from (suc (suc (suc (suc n)))) p.Transforms l = absurd (omega arith)
among_from (suc (suc (suc (suc n)))) p.Search l = absurd (omega arith)

at_place : (due : ℕ) (part other : Part) → other ≡ part → due ≤ place other → due ≤ place part
at_place due part other e l = subst (λ (q : Part). due ≤ place q) e l

pub from_among : (due : ℕ) (part : Part) → Among (parts_from due) part → due ≤ place part
from_among zero part a = omega arith
from_among (suc zero) part (inl e) = at_place 1 part p.Implementation e (omega arith)
from_among (suc zero) part (inr (inl e)) = at_place 1 part p.Transforms e (omega arith)
from_among (suc zero) part (inr (inr (inl e))) = at_place 1 part p.Search e (omega arith)
from_among (suc zero) part (inr (inr (inr n))) = absurd n
from_among (suc (suc zero)) part (inl e) = at_place 2 part p.Transforms e (omega arith)
from_among (suc (suc zero)) part (inr (inl e)) = at_place 2 part p.Search e (omega arith)
from_among (suc (suc zero)) part (inr (inr n)) = absurd n
from_among (suc (suc (suc zero))) part (inl e) = at_place 3 part p.Search e (omega arith)
from_among (suc (suc (suc zero))) part (inr n) = absurd n
from_among (suc (suc (suc (suc n)))) part a = absurd a

pub some_parts : (due : ℕ) → due < 4 → 0 < length (parts_from due)
some_parts zero l = omega arith
some_parts (suc zero) l = omega arith
some_parts (suc (suc zero)) l = omega arith
some_parts (suc (suc (suc zero))) l = omega arith
some_parts (suc (suc (suc (suc n)))) l = absurd (omega arith)

splits_part_words : (due : ℕ) → Splits (part_words due)
splits_part_words zero = splits_words part_word (parts_from 0) refl
splits_part_words (suc zero) = splits_words part_word (parts_from 1) refl
splits_part_words (suc (suc zero)) = splits_words part_word (parts_from 2) refl
splits_part_words (suc (suc (suc zero))) = splits_words part_word (parts_from 3) refl
splits_part_words (suc (suc (suc (suc n)))) = splits_words part_word [] refl

some_transform : (form : Form) → IsOf form (MergeFunction 0)
some_transform First = (omega arith, inl refl)
some_transform Second = (omega arith, inl refl)

some_said : (form : Form) (part : Part) → (s : Said) × IsSaid form s × (part_of s ≡ part)
some_said form p.Ranges = (said_ranges (record { start = pos 0; end = pos 0 } ∷ []), (λ e. cc, ((omega arith, omega arith), tt)), refl)
some_said form p.Implementation = (said_implementation i.Js, λ e. cc, refl)
some_said form p.Transforms = (said_transforms (MergeFunction 0 ∷ []), (λ e. cc, (some_transform form, tt)), refl)
some_said form p.Search = (said_search (65 ∷ []), letter_fits, refl)

pub part_leads : (form : Form) (due : ℕ) → Leads (parts form due) (part_words due) part_of said_text
part_leads form due = record {
  cut = λ s f. refl;
  fits = λ s f. among_from due (part_of s) f.1;
  some = λ part a.
      let s = some_said form part in
      (s.0, (s.1, subst (λ (q : Part). due ≤ place q) (sym s.2) (from_among due part a)), s.2);
  apart = λ s m f a. apart_any (said_text s ++ m);
}

pub said_built : (form : Form) (due : ℕ) (part : Part) → due ≤ place part → Built (rest (parts form due) part_of said_text part) (contents form part) (λ s. s)
said_built form due part l = record {
  into = λ s f. (((f.0, subst (λ (q : Part). due ≤ place q) (sym f.1) l), f.1), refl);
  from = λ s f. (s, refl, (f.0.0, f.1), λ m a. a);
}

splits_parts : (form : Form) (due : ℕ) → Splits (parts form due)
splits_parts form due = splits_behind (parts form due) (part_words due) part_of said_text (part_leads form due) (splits_part_words due)
    (λ part. record {
      same = λ s t m n fs ft am an e.
          (splits_built (rest (parts form due) part_of said_text part) (contents form part) (λ q. q) (said_built form due part (subst (λ (q : Part). due ≤ place q) fs.1 fs.0.1)) (splits_contents form part)).same s t m n fs ft am an e;
    })

-- the word of a part was read, and then what stands behind it
pub read_part : (form : Form) (due : ℕ) (bytes mid left : List ℕ) (part : Part) (r : Result Said Stop) → IsTaken (part_words due) bytes part mid → Reads (contents form part) mid r left → Reads (parts form due) bytes r left
read_part form due bytes mid left part (Ok s) t u =
    taken_behind (parts form due) (part_words due) part_of said_text bytes mid left part s (part_leads form due) t
    (taken_built (rest (parts form due) part_of said_text part) (contents form part) (λ q. q) mid left s (said_built form due part (from_among due part t.fits)) (λ a. a) u)
read_part form due bytes mid left part (Err stop) t u =
    err_behind (parts form due) (part_words due) part_of said_text bytes mid left part stop (part_leads form due) (splits_part_words due) t
    (err_built (rest (parts form due) part_of said_text part) (contents form part) (λ q. q) mid left stop (said_built form due part (from_among due part t.fits)) u)

-- ---- the chain

word_first : (part : Part) → (t : List ℕ) × (part_word part ≡ 38 ∷ t)
word_first p.Ranges = (codes "range=", refl)
word_first p.Implementation = (codes "implementation=", refl)
word_first p.Transforms = (codes "transforms=", refl)
word_first p.Search = (codes "search=", refl)

ranges_end : (b : ℕ) (list : List Range) → (b == 126) ≡ false → ranges.goes (record { start = pos 0; end = pos 0 }) b ≡ false → joined_goes ranges.goes 126 list b ≡ false
ranges_end b [] e f = e
ranges_end b (r ∷ []) e f = rw (f, e) refl
ranges_end b (r ∷ q ∷ list) e f = ranges_end b (q ∷ list) e f

path_end : (b : ℕ) (q : List ℕ) → (b == 46) ≡ false → u32s.goes 0 b ≡ false → joined_goes u32s.goes 46 q b ≡ false
path_end b [] e f = e
path_end b (n ∷ []) e f = rw (f, e) refl
path_end b (n ∷ m ∷ q) e f = path_end b (m ∷ q) e f

-- neither a part nor the end of a line goes on with a transform
record Ends (b : ℕ) : Type 0 where
  digit : u32s.goes 0 b ≡ false
  point : (b == 46) ≡ false
  tilde : (b == 126) ≡ false
  dash : (b == 45) ≡ false
  search : searches.goes [] b ≡ false

transform_end : (b : ℕ) (t : Transform) → Ends b → transform_goes t b ≡ false
transform_end b (MergeFunction n) h = h.digit
transform_end b (MergeCallNode f q) h = path_end b q h.point h.digit
transform_end b (DropFunction n) h = h.digit
transform_end b (FocusSubtree f q true) h = refl
transform_end b (FocusSubtree f q false) h = rw (path_end b q h.point h.digit, h.dash) refl
transform_end b (FocusFunction n) h = h.digit
transform_end b (FocusCategory n) h = h.digit
transform_end b (CollapseResource f n) h = h.digit
transform_end b (CollapseDirectRecursion f n) h = h.digit
transform_end b (CollapseRecursion n) h = h.digit
transform_end b (CollapseFunctionSubtree n) h = h.digit
transform_end b (FilterSamples s) h = h.search

transforms_end : (b : ℕ) (list : List Transform) → Ends b → joined_goes transform_goes 126 list b ≡ false
transforms_end b [] h = h.tilde
transforms_end b (t ∷ []) h = rw (transform_end b t h, h.tilde) refl
transforms_end b (t ∷ u ∷ list) h = transforms_end b (u ∷ list) h

said_end : (b : ℕ) (s : Said) → Ends b → said_goes s b ≡ false
said_end b (said_ranges list) h = ranges_end b list h.tilde h.digit
said_end b (said_implementation shown) h = refl
said_end b (said_transforms list) h = transforms_end b list h
said_end b (said_search search) h = h.search

line_ends : Ends 10
line_ends = record { digit = refl; point = refl; tilde = refl; dash = refl; search = refl }

part_ends : Ends 38
part_ends = record { digit = refl; point = refl; tilde = refl; dash = refl; search = refl }

only_line_end : (b : ℕ) → not_line_end b ≡ false → b ≡ 10
only_line_end b e = at (b == 10) refl e
  where
    at : (t : Bool) → (b == 10) ≡ t → not t ≡ false → b ≡ 10
    at true f g = eqb_is b 10 f
    at false f g = cc

pub linked_parts : (form : Form) → Linked (part_chain form)
linked_parts form = record {
  splits = splits_parts form;
  some = λ due s f. let w = word_first (part_of s) in (38, w.0 ++ said_text s, ap (λ t. t ++ said_text s) w.1, refl);
  apart = λ due s b f g. subst (λ (c : ℕ). said_goes s c ≡ false) (sym (only_line_end b g)) (said_end 10 s line_ends);
  follows = λ due s t m f g.
      let w = word_first (part_of t) in
      subst (λ (q : List ℕ). Apart (said_goes s) ((q ++ said_text t) ++ m)) (sym w.1) (said_end 38 s part_ends);
  on = λ due. ([], record { each = tt; ends = refl });
}

-- ---- each is read to an end

reading_contents : (form : Form) (part : Part) → Readable (contents form part)
reading_contents form p.Ranges = reading_built (contents form p.Ranges) some_ranges said_ranges (ranges_built form) (λ y left f a. a) reading_some_ranges
reading_contents form p.Implementation = reading_built (contents form p.Implementation) shown_words said_shown (shown_built form) (λ y left f a. apart_any left) (reading_words filter_word (as_filter i.Js) (as_filter i.Cpp ∷ []))
reading_contents form p.Transforms = reading_built (contents form p.Transforms) (some_transforms form) said_transforms (transforms_built form) (λ y left f a. a) (reading_some form)
reading_contents form p.Search = reading_built (contents form p.Search) some_searches said_search (search_built form) (λ y left f a. a) reading_some_search

part_reading : (form : Form) (due : ℕ) → Readable (part_words due) → Readable (parts form due)
part_reading form due reads = reading_behind (parts form due) (part_words due) part_of said_text (part_leads form due) (splits_part_words due) reads
    (λ part f. reading_built (rest (parts form due) part_of said_text part) (contents form part) (λ s. s) (said_built form due part (from_among due part f)) (λ y left g a. a) (reading_contents form part))

next_part : (form : Form) (due : ℕ) (mid : List ℕ) → Next (part_chain form) due mid
next_part form zero mid = item (part_reading form 0 (reading_words part_word p.Ranges (p.Implementation ∷ p.Transforms ∷ p.Search ∷ [])) mid)
next_part form (suc zero) mid = item (part_reading form 1 (reading_words part_word p.Implementation (p.Transforms ∷ p.Search ∷ [])) mid)
next_part form (suc (suc zero)) mid = item (part_reading form 2 (reading_words part_word p.Transforms (p.Search ∷ [])) mid)
next_part form (suc (suc (suc zero))) mid = item (part_reading form 3 (reading_words part_word p.Search []) mid)
next_part form (suc (suc (suc (suc n)))) mid = none refl (λ b e s f look. past (part_of s) f.1)
  where
    past : (part : Part) → suc (suc (suc (suc n))) ≤ place part → ⊥
    past p.Ranges l = omega arith
    past p.Implementation l = omega arith
    past p.Transforms l = omega arith
    past p.Search l = omega arith

pub reading_parts : (form : Form) → Readable (chains (part_chain form) 0)
reading_parts form = reading_chain (part_chain form) 0 (linked_parts form) (next_part form)
