-- A view is its thread and the parts that aren't the default.
use Rattle.std.proofs.Common.{◌≡◌, ◌≢◌, ℕ, ◌+◌, ◌<◌, ◌≤◌, Bool, true, false, List, [], ◌∷◌, ◌++◌, length, length-append, refl, sym, subst, ap, ◌∙◌, arith, append_assoc, append-nil}
use Rattle.std.specs.Prelude.{Some, codes, Result, Ok, Err, ◌==◌, not, IsUtf8}
use Rattle.std.specs.Fmt.{decimal}
use Rattle.std.proofs.lemmas.Str.{IsUtf8-nil}
use Rattle.prof_spell.specs.Spelling.{Language, first, Apart, IsTaken, Reads, Splits}
use Rattle.prof_spell.specs.Readings.{Readable}
use Rattle.prof_spell.specs.declared.cursor.Stop.{Stop}
use Rattle.prof_spell.specs.Pieces.{literal, EachFits}
use Rattle.prof_spell.specs.Chains.{chain_text, MayCome, IsWhole, chains}
use Rattle.prof_spell.proofs.Words.{apart_any, splits_literal}
use Rattle.prof_spell.proofs.Bytes.{eqb_is}
use Rattle.prof_spell.proofs.Parts.{Leads, Built, rest, splits_behind, splits_built, err_behind, err_built, taken_behind, taken_built}
use Rattle.prof_spell.proofs.Readings.{reading_literal, reading_built, reading_behind}
use Rattle.prof_spell.proofs.Chained.{splits_chain}
use Rattle.prof_path.specs.Views.{ViewLists}
use Rattle.prof_path.specs.declared.transform.Implementation.{Implementation}
use Rattle.prof_path.specs.declared.transform.Implementation.TheVariants.{Combined, Js, Cpp}
use Rattle.prof_path.specs.declared.transform.Range.{Range}
use Rattle.prof_path.specs.declared.transform.Transform.{Transform}
use Rattle.prof_address.specs.declared.kind.Form.{Form}
use Rattle.prof_address.specs.Transforms.{u32s, IsOf}
use Rattle.prof_address.specs.Views.{ranges_part, implementation_part, transforms_part, search_part, parts_text, IsWrittenRange, IsWrittenView, views, not_line_end}
use Rattle.prof_address.specs.declared.part.Part.{Part}
use Rattle.prof_address.specs.declared.part.Part.TheVariants as p
use Rattle.prof_address.specs.Parts.{parts, place, threads, part_word, Said, said_ranges, said_implementation, said_transforms, said_search, part_of, place_of, said_text, IsSaid, part_chain, fresh, with_said, filled}
use Rattle.prof_address.proofs.Filters.{splits_u32s, reading_u32}
use Rattle.prof_address.proofs.PartLemmas.{linked_parts, reading_parts}

-- ---- the parts of a view that aren't the default

ranges_said : List Range → List Said
ranges_said [] = []
ranges_said (r ∷ list) = said_ranges (r ∷ list) ∷ []

implementation_said : Implementation → List Said
implementation_said Combined = []
implementation_said Js = said_implementation Js ∷ []
implementation_said Cpp = said_implementation Cpp ∷ []

transforms_said : List Transform → List Said
transforms_said [] = []
transforms_said (t ∷ list) = said_transforms (t ∷ list) ∷ []

search_said : List ℕ → List Said
search_said [] = []
search_said (b ∷ s) = said_search (b ∷ s) ∷ []

four_said : List Range → Implementation → List Transform → List ℕ → List Said
four_said r i t s = ranges_said r ++ (implementation_said i ++ (transforms_said t ++ search_said s))

said_in : ViewLists → List Said
said_in v = four_said v.ranges v.implementation v.transforms v.search

-- ---- their text

flat : List Said → List ℕ
flat [] = []
flat (s ∷ more) = (part_word (part_of s) ++ said_text s) ++ flat more

chain_flat : (form : Form) (due : ℕ) (ss : List Said) → chain_text (part_chain form) due ss ≡ flat ss
unfolding flat
chain_flat form due [] = refl
chain_flat form due (s ∷ ss) = ap (λ t. (part_word (part_of s) ++ said_text s) ++ t) (chain_flat form (place_of s + 1) ss)

flat_append : (ss ts : List Said) → flat (ss ++ ts) ≡ flat ss ++ flat ts
unfolding flat
flat_append [] ts = refl
flat_append (s ∷ ss) ts = ap (λ t. (part_word (part_of s) ++ said_text s) ++ t) (flat_append ss ts) ∙ sym (append_assoc (part_word (part_of s) ++ said_text s) (flat ss) (flat ts))

flat_ranges : (list : List Range) → flat (ranges_said list) ≡ ranges_part list
unfolding flat ranges_said
flat_ranges [] = refl
flat_ranges (r ∷ list) = append-nil (ranges_part (r ∷ list))

flat_implementation : (i : Implementation) → flat (implementation_said i) ≡ implementation_part i
unfolding flat implementation_said
flat_implementation Combined = refl
flat_implementation Js = refl
flat_implementation Cpp = refl

flat_transforms : (list : List Transform) → flat (transforms_said list) ≡ transforms_part list
unfolding flat transforms_said
flat_transforms [] = refl
flat_transforms (t ∷ list) = append-nil (transforms_part (t ∷ list))

flat_search : (s : List ℕ) → flat (search_said s) ≡ search_part s
unfolding flat search_said
flat_search [] = refl
flat_search (b ∷ s) = append-nil (search_part (b ∷ s))

flat_said : (v : ViewLists) → flat (said_in v) ≡ parts_text v
unfolding said_in four_said
flat_said v =
    let r = ranges_said v.ranges in
    let i = implementation_said v.implementation in
    let t = transforms_said v.transforms in
    let s = search_said v.search in
    flat_append r (i ++ (t ++ s))
    ∙ ap (λ x. flat r ++ x) (flat_append i (t ++ s) ∙ ap (λ x. flat i ++ x) (flat_append t s))
    ∙ ap (λ x. x ++ (flat i ++ (flat t ++ flat s))) (flat_ranges v.ranges)
    ∙ ap (λ x. ranges_part v.ranges ++ (x ++ (flat t ++ flat s))) (flat_implementation v.implementation)
    ∙ ap (λ x. ranges_part v.ranges ++ (implementation_part v.implementation ++ (x ++ flat s))) (flat_transforms v.transforms)
    ∙ ap (λ x. ranges_part v.ranges ++ (implementation_part v.implementation ++ (transforms_part v.transforms ++ x))) (flat_search v.search)

-- ---- the view that they fill

-- what is from a place on is the default
record IsDefault (due : ℕ) (v : ViewLists) : Type 0 where
  ranges : due ≤ 0 → v.ranges ≡ []
  implementation : due ≤ 1 → v.implementation ≡ Combined
  transforms : due ≤ 2 → v.transforms ≡ []
  search : due ≤ 3 → v.search ≡ []

default_with : (form : Form) (due : ℕ) (v : ViewLists) (s : Said) → due ≤ place_of s → IsDefault due v → IsDefault (place_of s + 1) (with_said v s)
default_with form due v (said_ranges list) l d = record {
  ranges = λ h. absurd (omega arith);
  implementation = λ h. d.implementation (omega arith);
  transforms = λ h. d.transforms (omega arith);
  search = λ h. d.search (omega arith);
}
default_with form due v (said_implementation i) l d = record {
  ranges = λ h. absurd (omega arith);
  implementation = λ h. absurd (omega arith);
  transforms = λ h. d.transforms (omega arith);
  search = λ h. d.search (omega arith);
}
default_with form due v (said_transforms list) l d = record {
  ranges = λ h. absurd (omega arith);
  implementation = λ h. absurd (omega arith);
  transforms = λ h. absurd (omega arith);
  search = λ h. d.search (omega arith);
}
default_with form due v (said_search s) l d = record {
  ranges = λ h. absurd (omega arith);
  implementation = λ h. absurd (omega arith);
  transforms = λ h. absurd (omega arith);
  search = λ h. absurd (omega arith);
}

with_one : (form : Form) (due : ℕ) (v : ViewLists) (s : Said) → IsSaid form s → due ≤ place_of s → IsDefault due v → said_in (with_said v s) ≡ said_in v ++ s ∷ []
unfolding said_in four_said ranges_said implementation_said transforms_said search_said
with_one form due v (said_ranges []) f l d = absurd (f.0 refl)
with_one form due v (said_ranges (r ∷ list)) f l d = rw (d.ranges (omega arith), d.implementation (omega arith), d.transforms (omega arith), d.search (omega arith)) refl
with_one form due v (said_implementation Combined) f l d = absurd (f refl)
with_one form due v (said_implementation Js) f l d =
    rw (d.implementation (omega arith), d.transforms (omega arith), d.search (omega arith)) (ap (λ x. x ++ said_implementation Js ∷ []) (sym (append-nil (ranges_said v.ranges))))
with_one form due v (said_implementation Cpp) f l d =
    rw (d.implementation (omega arith), d.transforms (omega arith), d.search (omega arith)) (ap (λ x. x ++ said_implementation Cpp ∷ []) (sym (append-nil (ranges_said v.ranges))))
with_one form due v (said_transforms []) f l d = absurd (f.0 refl)
with_one form due v (said_transforms (t ∷ list)) f l d =
    rw (d.transforms (omega arith), d.search (omega arith))
    (ap (λ x. ranges_said v.ranges ++ (x ++ said_transforms (t ∷ list) ∷ [])) (sym (append-nil (implementation_said v.implementation)))
    ∙ sym (append_assoc (ranges_said v.ranges) (implementation_said v.implementation ++ []) (said_transforms (t ∷ list) ∷ [])))
with_one form due v (said_search []) f l d = absurd (f.1 refl)
with_one form due v (said_search (b ∷ s)) f l d =
    rw (d.search (omega arith))
    (ap (λ x. ranges_said v.ranges ++ (implementation_said v.implementation ++ (x ++ said_search (b ∷ s) ∷ []))) (sym (append-nil (transforms_said v.transforms)))
    ∙ ap (λ x. ranges_said v.ranges ++ x) (sym (append_assoc (implementation_said v.implementation) (transforms_said v.transforms ++ []) (said_search (b ∷ s) ∷ [])))
    ∙ sym (append_assoc (ranges_said v.ranges) (implementation_said v.implementation ++ (transforms_said v.transforms ++ [])) (said_search (b ∷ s) ∷ [])))

filled_said : (form : Form) (due : ℕ) (v : ViewLists) (ss : List Said) → IsDefault due v → MayCome (part_chain form) due ss → said_in (filled v ss) ≡ said_in v ++ ss
filled_said form due v [] d m = sym (append-nil (said_in v))
filled_said form due v (s ∷ ss) d m =
    filled_said form (place_of s + 1) (with_said v s) ss (default_with form due v s m.0.1 d) m.1
    ∙ ap (λ x. x ++ ss) (with_one form due v s m.0.0 m.0.1 d)
    ∙ append_assoc (said_in v) (s ∷ []) ss

fresh_said : (n : ℕ) (ss : List Said) → said_in (fresh n) ++ ss ≡ ss
unfolding said_in four_said ranges_said implementation_said transforms_said search_said
fresh_said n ss = refl

fresh_default : (n : ℕ) → IsDefault 0 (fresh n)
fresh_default n = record { ranges = λ h. refl; implementation = λ h. refl; transforms = λ h. refl; search = λ h. refl }

filled_thread : (v : ViewLists) (ss : List Said) → (filled v ss).thread ≡ v.thread
filled_thread v [] = refl
filled_thread v (s ∷ ss) = filled_thread (with_said v s) ss ∙ same v s
  where
    same : (w : ViewLists) (q : Said) → (with_said w q).thread ≡ w.thread
    same w (said_ranges list) = refl
    same w (said_implementation i) = refl
    same w (said_transforms list) = refl
    same w (said_search s) = refl

pub filled_append : (v : ViewLists) (ss ts : List Said) → filled v (ss ++ ts) ≡ filled (filled v ss) ts
filled_append v [] ts = refl
filled_append v (s ∷ ss) ts = filled_append (with_said v s) ss ts

abbrev view_with : ℕ → List Range → Implementation → List Transform → List ℕ → ViewLists
view_with n r i t s = record { thread = n; ranges = r; transforms = t; implementation = i; search = s }

fill_ranges : (n : ℕ) (list : List Range) → filled (fresh n) (ranges_said list) ≡ view_with n list Combined [] []
unfolding ranges_said
fill_ranges n [] = refl
fill_ranges n (r ∷ list) = refl

fill_implementation : (n : ℕ) (list : List Range) (i : Implementation) → filled (view_with n list Combined [] []) (implementation_said i) ≡ view_with n list i [] []
unfolding implementation_said
fill_implementation n list Combined = refl
fill_implementation n list Js = refl
fill_implementation n list Cpp = refl

fill_transforms : (n : ℕ) (list : List Range) (i : Implementation) (ts : List Transform) → filled (view_with n list i [] []) (transforms_said ts) ≡ view_with n list i ts []
unfolding transforms_said
fill_transforms n list i [] = refl
fill_transforms n list i (t ∷ ts) = refl

fill_search : (n : ℕ) (list : List Range) (i : Implementation) (ts : List Transform) (s : List ℕ) → filled (view_with n list i ts []) (search_said s) ≡ view_with n list i ts s
unfolding search_said
fill_search n list i ts [] = refl
fill_search n list i ts (b ∷ s) = refl

filled_back : (v : ViewLists) → filled (fresh v.thread) (said_in v) ≡ v
unfolding said_in four_said
filled_back v =
    let r = ranges_said v.ranges in
    let i = implementation_said v.implementation in
    let t = transforms_said v.transforms in
    let s = search_said v.search in
    filled_append (fresh v.thread) r (i ++ (t ++ s)) ∙ ap (λ w. filled w (i ++ (t ++ s))) (fill_ranges v.thread v.ranges)
    ∙ filled_append (view_with v.thread v.ranges Combined [] []) i (t ++ s) ∙ ap (λ w. filled w (t ++ s)) (fill_implementation v.thread v.ranges v.implementation)
    ∙ filled_append (view_with v.thread v.ranges v.implementation [] []) t s ∙ ap (λ w. filled w s) (fill_transforms v.thread v.ranges v.implementation v.transforms)
    ∙ fill_search v.thread v.ranges v.implementation v.transforms v.search

-- ---- which views have a text

written_with : (form : Form) (v : ViewLists) (s : Said) → IsWrittenView form v → IsSaid form s → IsWrittenView form (with_said v s)
written_with form v (said_ranges list) w f = record { thread = w.thread; ranges = f.1; transforms = w.transforms; search = w.search }
written_with form v (said_implementation i) w f = record { thread = w.thread; ranges = w.ranges; transforms = w.transforms; search = w.search }
written_with form v (said_transforms list) w f = record { thread = w.thread; ranges = w.ranges; transforms = f.1; search = w.search }
written_with form v (said_search s) w f = record { thread = w.thread; ranges = w.ranges; transforms = w.transforms; search = f.0 }

filled_written : (form : Form) (due : ℕ) (v : ViewLists) (ss : List Said) → IsWrittenView form v → MayCome (part_chain form) due ss → IsWrittenView form (filled v ss)
filled_written form due v [] w m = w
filled_written form due v (s ∷ ss) w m = filled_written form (place_of s + 1) (with_said v s) ss (written_with form v s w m.0.0) m.1

sooner : (form : Form) (due from : ℕ) (ss : List Said) → due ≤ from → MayCome (part_chain form) from ss → MayCome (part_chain form) due ss
sooner form due from [] l m = tt
sooner form due from (s ∷ ss) l m = let k = m.0.1 in ((m.0.0, omega arith), m.1)

come_search : (form : Form) (s : List ℕ) → IsUtf8 s → MayCome (part_chain form) 3 (search_said s)
unfolding search_said
come_search form [] u = tt
come_search form (b ∷ s) u = (((u, λ e. cc), omega arith), tt)

come_transforms : (form : Form) (list : List Transform) (more : List Said) → EachFits (IsOf form) list → MayCome (part_chain form) 3 more → MayCome (part_chain form) 2 (transforms_said list ++ more)
unfolding transforms_said
come_transforms form [] more f m = sooner form 2 3 more (omega arith) m
come_transforms form (t ∷ list) more f m = (((λ e. cc, f), omega arith), m)

come_implementation : (form : Form) (i : Implementation) (more : List Said) → MayCome (part_chain form) 2 more → MayCome (part_chain form) 1 (implementation_said i ++ more)
unfolding implementation_said
come_implementation form Combined more m = sooner form 1 2 more (omega arith) m
come_implementation form Js more m = ((λ e. cc, omega arith), m)
come_implementation form Cpp more m = ((λ e. cc, omega arith), m)

come_ranges : (form : Form) (list : List Range) (more : List Said) → EachFits IsWrittenRange list → MayCome (part_chain form) 1 more → MayCome (part_chain form) 0 (ranges_said list ++ more)
unfolding ranges_said
come_ranges form [] more f m = sooner form 0 1 more (omega arith) m
come_ranges form (r ∷ list) more f m = (((λ e. cc, f), omega arith), m)

said_come : (form : Form) (v : ViewLists) → IsWrittenView form v → IsWhole (part_chain form) 0 (said_in v)
unfolding said_in four_said
said_come form v w = record {
  each = come_ranges form v.ranges _ w.ranges (come_implementation form v.implementation _ (come_transforms form v.transforms _ w.transforms (come_search form v.search w.search)));
  ends = refl;
}

-- ---- the thread, and the parts behind it

abbrev pub word_of : ℕ → Unit {0}
word_of n = tt

pub threads_leads : Leads threads (literal (codes "thread=")) word_of (λ n. decimal n)
threads_leads = record {
  cut = λ n f. refl;
  fits = λ n f. tt;
  some = λ u f. (0, omega arith, refl);
  apart = λ n m f a. apart_any (decimal n ++ m);
}

pub thread_built : Built (rest threads word_of (λ n. decimal n) tt) u32s (λ n. n)
thread_built = record {
  into = λ n f. ((f, refl), refl);
  from = λ n f. (n, refl, f.0, λ m a. a);
}

-- the word was read, and then the number
pub thread_reads : (bytes mid left : List ℕ) (r : Result ℕ Stop) → IsTaken (literal (codes "thread=")) bytes tt mid → Reads u32s mid r left → Reads threads bytes r left
thread_reads bytes mid left (Ok n) t u = taken_behind threads (literal (codes "thread=")) word_of (λ k. decimal k) bytes mid left tt n threads_leads t
    (taken_built (rest threads word_of (λ k. decimal k) tt) u32s (λ k. k) mid left n thread_built (λ a. a) u)
thread_reads bytes mid left (Err stop) t u = err_behind threads (literal (codes "thread=")) word_of (λ k. decimal k) bytes mid left tt stop threads_leads (splits_literal (codes "thread=")) t
    (err_built (rest threads word_of (λ k. decimal k) tt) u32s (λ k. k) mid left stop thread_built u)

pub splits_threads : Splits threads
splits_threads = splits_behind threads (literal (codes "thread=")) word_of (λ n. decimal n) threads_leads (splits_literal (codes "thread="))
    (λ u. splits_built (rest threads word_of (λ n. decimal n) u) u32s (λ n. n) thread_built splits_u32s)

reading_thread : Readable threads
reading_thread = reading_behind threads (literal (codes "thread=")) word_of (λ n. decimal n) threads_leads (splits_literal (codes "thread=")) (reading_literal (codes "thread="))
    (λ u f. reading_built (rest threads word_of (λ n. decimal n) u) u32s (λ n. n) thread_built (λ y left g a. a) reading_u32)

abbrev pub thread_of : ViewLists → ℕ
thread_of v = v.thread

line_only : (m : List ℕ) (p : ℕ → Bool) → p 10 ≡ false → Apart not_line_end m → Apart p m
line_only [] p e a = tt
line_only (b ∷ m) p e a = at (b == 10) refl a
  where
    at : (t : Bool) → (b == 10) ≡ t → not t ≡ false → p b ≡ false
    at true f g = ap p (eqb_is b 10 f) ∙ e
    at false f g = cc

parts_apart : (v : ViewLists) (m : List ℕ) → Apart not_line_end m → Apart (threads.goes v.thread) (parts_text v ++ m)
unfolding flat
parts_apart v m a = subst (λ (t : List ℕ). Apart (threads.goes v.thread) (t ++ m)) (flat_said v) (apart (said_in v))
  where
    apart : (ss : List Said) → Apart (threads.goes v.thread) (flat ss ++ m)
    apart [] = line_only m (threads.goes v.thread) refl a
    apart (said_ranges list ∷ ss) = refl
    apart (said_implementation i ∷ ss) = refl
    apart (said_transforms list ∷ ss) = refl
    apart (said_search s ∷ ss) = refl

pub view_leads : (form : Form) → Leads (views form) threads thread_of parts_text
view_leads form = record {
  cut = λ v f. refl;
  fits = λ v f. f.thread;
  some = λ n f. (fresh n, record { thread = f; ranges = tt; transforms = tt; search = IsUtf8-nil }, refl);
  apart = λ v m f a. parts_apart v m a;
}

abbrev pub behind_thread : Form → ℕ → Language ViewLists
behind_thread form n = rest (views form) thread_of parts_text n

pub parts_built : (form : Form) (n : ℕ) → u32s.Fits n → Built (behind_thread form n) (chains (part_chain form) 0) (λ ss. filled (fresh n) ss)
parts_built form n small = record {
  into = λ ss f.
      let w = filled_written form 0 (fresh n) ss (record { thread = small; ranges = tt; transforms = tt; search = IsUtf8-nil }) f.each in (
        (w, filled_thread (fresh n) ss),
        sym (flat_said (filled (fresh n) ss)) ∙ ap flat (filled_said form 0 (fresh n) ss (fresh_default n) f.each ∙ fresh_said n ss) ∙ sym (chain_flat form 0 ss),
      );
  from = λ v f. (said_in v, sym (filled_back v) ∙ ap (λ k. filled (fresh k) (said_in v)) f.1, said_come form v f.0, λ m a. a);
}

splits_behind_thread : (form : Form) (n : ℕ) → Splits (behind_thread form n)
splits_behind_thread form n = record {
  same = λ v w m k fv fw am ak e.
      let small : u32s.Fits n = subst u32s.Fits fv.1 fv.0.thread in
      (splits_built (behind_thread form n) (chains (part_chain form) 0) (λ ss. filled (fresh n) ss) (parts_built form n small) (splits_chain (part_chain form) 0 (linked_parts form))).same v w m k fv fw am ak e;
}

pub splits_views : (form : Form) → Splits (views form)
splits_views form = splits_behind (views form) threads thread_of parts_text (view_leads form) splits_threads (splits_behind_thread form)

pub reading_view : (form : Form) → Readable (views form)
reading_view form = reading_behind (views form) threads thread_of parts_text (view_leads form) splits_threads reading_thread
    (λ n small. reading_built (behind_thread form n) (chains (part_chain form) 0) (λ ss. filled (fresh n) ss) (parts_built form n small) (λ ss left f a. a) (reading_parts form))

-- the thread was read, and the parts behind it
pub view_taken : (form : Form) (bytes mid left : List ℕ) (n : ℕ) (ss : List Said) → IsTaken threads bytes n mid → IsTaken (chains (part_chain form) 0) mid ss left → IsTaken (views form) bytes (filled (fresh n) ss) left
view_taken form bytes mid left n ss t u = taken_behind (views form) threads thread_of parts_text bytes mid left n (filled (fresh n) ss) (view_leads form) t
    (taken_built (behind_thread form n) (chains (part_chain form) 0) (λ q. filled (fresh n) q) mid left ss (parts_built form n t.fits) (λ a. a) u)

pub view_err : (form : Form) (bytes mid left : List ℕ) (n : ℕ) (stop : Stop) → IsTaken threads bytes n mid → Reads (chains (part_chain form) 0) mid (Err stop) left → Reads (views form) bytes (Err stop) left
view_err form bytes mid left n stop t s = err_behind (views form) threads thread_of parts_text bytes mid left n stop (view_leads form) splits_threads t
    (err_built (behind_thread form n) (chains (part_chain form) 0) (λ ss. filled (fresh n) ss) mid left stop (parts_built form n t.fits) s)

-- ---- the loop

-- a part takes some of the text
pub part_shorter : (form : Form) (due : ℕ) (mid left : List ℕ) (s : Said) → IsTaken (parts form due) mid s left → length left < length mid
part_shorter form due mid left s t =
    let k = (linked_parts form).some due s t.fits in
    let e : length mid ≡ length ((k.0 ∷ k.1) ++ left) = ap length (t.split ∙ ap (λ q. q ++ left) k.2) in
    omega (arith, length-append k.1 left)

-- no part comes, nor the end of the line
pub no_part : (form : Form) (due : ℕ) (s : List ℕ) (b : ℕ) → first s ≡ Some b → (due < 4 → first s ≢ Some 38) → (q : Said) → (parts form due).Fits q → first ((parts form due).text q) ≢ Some b
no_part form due s b look other q f e =
    let k = (linked_parts form).some due q f in
    let g : Some k.0 ≡ Some b = sym (ap first k.2) ∙ e in
    other (within (part_of q) f.1) (look ∙ sym e ∙ amp (part_of q))
  where
    within : (part : Part) → due ≤ place part → due < 4
    within p.Ranges l = omega arith
    within p.Implementation l = omega arith
    within p.Transforms l = omega arith
    within p.Search l = omega arith

    amp : (part : Part) → first (part_word part ++ said_text q) ≡ Some 38
    amp p.Ranges = refl
    amp p.Implementation = refl
    amp p.Transforms = refl
    amp p.Search = refl
