-- Transforms by their kinds.
use Rattle.std.proofs.Common.{◌≡◌, ℕ, ◌+◌, Bool, false, List, [], ◌∷◌, ◌++◌, refl, sym, subst, arith}
use Rattle.std.specs.Prelude.{Result, Ok, Err}
use Rattle.prof_spell.specs.Spelling.{Language, Apart, IsTaken, Reads, Splits}
use Rattle.prof_spell.specs.declared.cursor.Stop.{Stop}
use Rattle.prof_spell.specs.Pieces.{Among, words}
use Rattle.prof_spell.proofs.Words.{apart_any, splits_words}
use Rattle.prof_spell.proofs.Parts.{Leads, Built, rest, splits_behind, splits_built, err_built, err_behind, taken_behind, taken_built}
use Rattle.prof_path.specs.declared.transform.Implementation.{Implementation}
use Rattle.prof_path.specs.declared.transform.Implementation.TheVariants.{Combined}
use Rattle.prof_path.specs.declared.transform.Transform.{Transform}
use Rattle.prof_path.specs.declared.transform.Transform.TheVariants.{MergeFunction, MergeCallNode, DropFunction, FocusSubtree, FocusFunction, FocusCategory, CollapseResource, CollapseDirectRecursion, CollapseRecursion, CollapseFunctionSubtree, FilterSamples}
use Rattle.prof_address.specs.declared.kind.Kind.{Kind}
use Rattle.prof_address.specs.declared.kind.Kind.TheVariants as k
use Rattle.prof_address.specs.declared.kind.Form.{Form}
use Rattle.prof_address.specs.declared.kind.Form.TheVariants.{First, Second}
use Rattle.prof_address.specs.declared.kind.TheConstants.{KINDS, FIRST_KINDS}
use Rattle.prof_address.specs.Transforms.{kinds_of, transform_text, kind_word, kind_of, arguments_text, arguments, transforms, transform_goes, IsWritten, u32s, counted, nodes, focuses}
use Rattle.prof_address.proofs.Filters.{splits_u32s, splits_counted, splits_nodes, splits_focuses, reading_u32, reading_counted, reading_node, reading_focus}
use Rattle.prof_spell.specs.Escapes.{searches}
use Rattle.prof_spell.specs.Readings.{Readable}
use Rattle.prof_spell.proofs.SearchLemmas.{splits_searches}
use Rattle.prof_spell.proofs.SearchReadings.{reading_search}
use Rattle.prof_spell.proofs.Readings.{reading_words, reading_built, reading_behind}
use Rattle.std.proofs.lemmas.Str.{IsUtf8-nil}

-- what a transform of a kind is made of
abbrev pub Shape : Kind → Transform → Type 0
Shape k.MergeFunction x = (n : ℕ) × (x ≡ MergeFunction n)
Shape k.MergeCallNode x = (p : Implementation × List ℕ) × (x ≡ MergeCallNode p.0 p.1)
Shape k.DropFunction x = (n : ℕ) × (x ≡ DropFunction n)
Shape k.FocusSubtree x = (p : Implementation × List ℕ × Bool) × (x ≡ FocusSubtree p.0 p.1 p.2)
Shape k.FocusFunction x = (n : ℕ) × (x ≡ FocusFunction n)
Shape k.FocusCategory x = (n : ℕ) × (x ≡ FocusCategory n)
Shape k.CollapseResource x = (p : Implementation × ℕ) × (x ≡ CollapseResource p.0 p.1)
Shape k.CollapseDirectRecursion x = (p : Implementation × ℕ) × (x ≡ CollapseDirectRecursion p.0 p.1)
Shape k.CollapseRecursion x = (n : ℕ) × (x ≡ CollapseRecursion n)
Shape k.CollapseFunctionSubtree x = (n : ℕ) × (x ≡ CollapseFunctionSubtree n)
Shape k.FilterSamples x = (s : List ℕ) × (x ≡ FilterSamples s)

shaped : (x : Transform) (kind : Kind) → kind_of x ≡ kind → Shape kind x
shaped (MergeFunction n) kind e = subst (λ (c : Kind). Shape c (MergeFunction n)) e (n, refl)
shaped (MergeCallNode i q) kind e = subst (λ (c : Kind). Shape c (MergeCallNode i q)) e ((i, q), refl)
shaped (DropFunction n) kind e = subst (λ (c : Kind). Shape c (DropFunction n)) e (n, refl)
shaped (FocusSubtree i q b) kind e = subst (λ (c : Kind). Shape c (FocusSubtree i q b)) e ((i, q, b), refl)
shaped (FocusFunction n) kind e = subst (λ (c : Kind). Shape c (FocusFunction n)) e (n, refl)
shaped (FocusCategory n) kind e = subst (λ (c : Kind). Shape c (FocusCategory n)) e (n, refl)
shaped (CollapseResource i n) kind e = subst (λ (c : Kind). Shape c (CollapseResource i n)) e ((i, n), refl)
shaped (CollapseDirectRecursion i n) kind e = subst (λ (c : Kind). Shape c (CollapseDirectRecursion i n)) e ((i, n), refl)
shaped (CollapseRecursion n) kind e = subst (λ (c : Kind). Shape c (CollapseRecursion n)) e (n, refl)
shaped (CollapseFunctionSubtree n) kind e = subst (λ (c : Kind). Shape c (CollapseFunctionSubtree n)) e (n, refl)
shaped (FilterSamples s) kind e = subst (λ (c : Kind). Shape c (FilterSamples s)) e (s, refl)

-- ---- what stands behind the word of each kind

built_MergeFunction : Built (arguments k.MergeFunction) u32s (λ n. MergeFunction n)
built_MergeFunction = record {
  into = λ y f. ((f, refl), refl);
  from = λ x f.
      let r = shaped x k.MergeFunction f.1 in
      (r.0, r.1, subst IsWritten r.1 f.0, λ m a. subst (λ (y : Transform). Apart (transform_goes y) m) r.1 a);
}

built_MergeCallNode : Built (arguments k.MergeCallNode) nodes (λ p. MergeCallNode p.0 p.1)
built_MergeCallNode = record {
  into = λ y f. ((f, refl), refl);
  from = λ x f.
      let r = shaped x k.MergeCallNode f.1 in
      (r.0, r.1, subst IsWritten r.1 f.0, λ m a. subst (λ (y : Transform). Apart (transform_goes y) m) r.1 a);
}

built_DropFunction : Built (arguments k.DropFunction) u32s (λ n. DropFunction n)
built_DropFunction = record {
  into = λ y f. ((f, refl), refl);
  from = λ x f.
      let r = shaped x k.DropFunction f.1 in
      (r.0, r.1, subst IsWritten r.1 f.0, λ m a. subst (λ (y : Transform). Apart (transform_goes y) m) r.1 a);
}

built_FocusSubtree : Built (arguments k.FocusSubtree) focuses (λ p. FocusSubtree p.0 p.1 p.2)
built_FocusSubtree = record {
  into = λ y f. ((f, refl), refl);
  from = λ x f.
      let r = shaped x k.FocusSubtree f.1 in
      (r.0, r.1, subst IsWritten r.1 f.0, λ m a. subst (λ (y : Transform). Apart (transform_goes y) m) r.1 a);
}

built_FocusFunction : Built (arguments k.FocusFunction) u32s (λ n. FocusFunction n)
built_FocusFunction = record {
  into = λ y f. ((f, refl), refl);
  from = λ x f.
      let r = shaped x k.FocusFunction f.1 in
      (r.0, r.1, subst IsWritten r.1 f.0, λ m a. subst (λ (y : Transform). Apart (transform_goes y) m) r.1 a);
}

built_FocusCategory : Built (arguments k.FocusCategory) u32s (λ n. FocusCategory n)
built_FocusCategory = record {
  into = λ y f. ((f, refl), refl);
  from = λ x f.
      let r = shaped x k.FocusCategory f.1 in
      (r.0, r.1, subst IsWritten r.1 f.0, λ m a. subst (λ (y : Transform). Apart (transform_goes y) m) r.1 a);
}

built_CollapseResource : Built (arguments k.CollapseResource) counted (λ p. CollapseResource p.0 p.1)
built_CollapseResource = record {
  into = λ y f. ((f, refl), refl);
  from = λ x f.
      let r = shaped x k.CollapseResource f.1 in
      (r.0, r.1, subst IsWritten r.1 f.0, λ m a. subst (λ (y : Transform). Apart (transform_goes y) m) r.1 a);
}

built_CollapseDirectRecursion : Built (arguments k.CollapseDirectRecursion) counted (λ p. CollapseDirectRecursion p.0 p.1)
built_CollapseDirectRecursion = record {
  into = λ y f. ((f, refl), refl);
  from = λ x f.
      let r = shaped x k.CollapseDirectRecursion f.1 in
      (r.0, r.1, subst IsWritten r.1 f.0, λ m a. subst (λ (y : Transform). Apart (transform_goes y) m) r.1 a);
}

built_CollapseRecursion : Built (arguments k.CollapseRecursion) u32s (λ n. CollapseRecursion n)
built_CollapseRecursion = record {
  into = λ y f. ((f, refl), refl);
  from = λ x f.
      let r = shaped x k.CollapseRecursion f.1 in
      (r.0, r.1, subst IsWritten r.1 f.0, λ m a. subst (λ (y : Transform). Apart (transform_goes y) m) r.1 a);
}

built_CollapseFunctionSubtree : Built (arguments k.CollapseFunctionSubtree) u32s (λ n. CollapseFunctionSubtree n)
built_CollapseFunctionSubtree = record {
  into = λ y f. ((f, refl), refl);
  from = λ x f.
      let r = shaped x k.CollapseFunctionSubtree f.1 in
      (r.0, r.1, subst IsWritten r.1 f.0, λ m a. subst (λ (y : Transform). Apart (transform_goes y) m) r.1 a);
}

built_FilterSamples : Built (arguments k.FilterSamples) searches (λ n. FilterSamples n)
built_FilterSamples = record {
  into = λ y f. ((f, refl), refl);
  from = λ x f.
      let r = shaped x k.FilterSamples f.1 in
      (r.0, r.1, subst IsWritten r.1 f.0, λ m a. subst (λ (y : Transform). Apart (transform_goes y) m) r.1 a);
}

pub splits_arguments : (kind : Kind) → Splits (arguments kind)
splits_arguments k.MergeFunction = splits_built (arguments k.MergeFunction) u32s (λ n. MergeFunction n) built_MergeFunction splits_u32s
splits_arguments k.MergeCallNode = splits_built (arguments k.MergeCallNode) nodes (λ p. MergeCallNode p.0 p.1) built_MergeCallNode splits_nodes
splits_arguments k.DropFunction = splits_built (arguments k.DropFunction) u32s (λ n. DropFunction n) built_DropFunction splits_u32s
splits_arguments k.FocusSubtree = splits_built (arguments k.FocusSubtree) focuses (λ p. FocusSubtree p.0 p.1 p.2) built_FocusSubtree splits_focuses
splits_arguments k.FocusFunction = splits_built (arguments k.FocusFunction) u32s (λ n. FocusFunction n) built_FocusFunction splits_u32s
splits_arguments k.FocusCategory = splits_built (arguments k.FocusCategory) u32s (λ n. FocusCategory n) built_FocusCategory splits_u32s
splits_arguments k.CollapseResource = splits_built (arguments k.CollapseResource) counted (λ p. CollapseResource p.0 p.1) built_CollapseResource splits_counted
splits_arguments k.CollapseDirectRecursion = splits_built (arguments k.CollapseDirectRecursion) counted (λ p. CollapseDirectRecursion p.0 p.1) built_CollapseDirectRecursion splits_counted
splits_arguments k.CollapseRecursion = splits_built (arguments k.CollapseRecursion) u32s (λ n. CollapseRecursion n) built_CollapseRecursion splits_u32s
splits_arguments k.CollapseFunctionSubtree = splits_built (arguments k.CollapseFunctionSubtree) u32s (λ n. CollapseFunctionSubtree n) built_CollapseFunctionSubtree splits_u32s
splits_arguments k.FilterSamples = splits_built (arguments k.FilterSamples) searches (λ n. FilterSamples n) built_FilterSamples splits_searches

-- where the arguments of a kind are stuck
pub err_MergeFunction : (kind : Kind) (bytes left : List ℕ) (stop : Stop) → kind ≡ k.MergeFunction → Reads u32s bytes (Err stop) left → Reads (arguments kind) bytes (Err stop) left
err_MergeFunction kind bytes left stop e r = subst (λ (c : Kind). Reads (arguments c) bytes (Err stop) left) (sym e) (err_built (arguments k.MergeFunction) u32s (λ n. MergeFunction n) bytes left stop built_MergeFunction r)

pub err_MergeCallNode : (kind : Kind) (bytes left : List ℕ) (stop : Stop) → kind ≡ k.MergeCallNode → Reads nodes bytes (Err stop) left → Reads (arguments kind) bytes (Err stop) left
err_MergeCallNode kind bytes left stop e r = subst (λ (c : Kind). Reads (arguments c) bytes (Err stop) left) (sym e) (err_built (arguments k.MergeCallNode) nodes (λ p. MergeCallNode p.0 p.1) bytes left stop built_MergeCallNode r)

pub err_DropFunction : (kind : Kind) (bytes left : List ℕ) (stop : Stop) → kind ≡ k.DropFunction → Reads u32s bytes (Err stop) left → Reads (arguments kind) bytes (Err stop) left
err_DropFunction kind bytes left stop e r = subst (λ (c : Kind). Reads (arguments c) bytes (Err stop) left) (sym e) (err_built (arguments k.DropFunction) u32s (λ n. DropFunction n) bytes left stop built_DropFunction r)

pub err_FocusSubtree : (kind : Kind) (bytes left : List ℕ) (stop : Stop) → kind ≡ k.FocusSubtree → Reads focuses bytes (Err stop) left → Reads (arguments kind) bytes (Err stop) left
err_FocusSubtree kind bytes left stop e r = subst (λ (c : Kind). Reads (arguments c) bytes (Err stop) left) (sym e) (err_built (arguments k.FocusSubtree) focuses (λ p. FocusSubtree p.0 p.1 p.2) bytes left stop built_FocusSubtree r)

pub err_FocusFunction : (kind : Kind) (bytes left : List ℕ) (stop : Stop) → kind ≡ k.FocusFunction → Reads u32s bytes (Err stop) left → Reads (arguments kind) bytes (Err stop) left
err_FocusFunction kind bytes left stop e r = subst (λ (c : Kind). Reads (arguments c) bytes (Err stop) left) (sym e) (err_built (arguments k.FocusFunction) u32s (λ n. FocusFunction n) bytes left stop built_FocusFunction r)

pub err_FocusCategory : (kind : Kind) (bytes left : List ℕ) (stop : Stop) → kind ≡ k.FocusCategory → Reads u32s bytes (Err stop) left → Reads (arguments kind) bytes (Err stop) left
err_FocusCategory kind bytes left stop e r = subst (λ (c : Kind). Reads (arguments c) bytes (Err stop) left) (sym e) (err_built (arguments k.FocusCategory) u32s (λ n. FocusCategory n) bytes left stop built_FocusCategory r)

pub err_CollapseResource : (kind : Kind) (bytes left : List ℕ) (stop : Stop) → kind ≡ k.CollapseResource → Reads counted bytes (Err stop) left → Reads (arguments kind) bytes (Err stop) left
err_CollapseResource kind bytes left stop e r = subst (λ (c : Kind). Reads (arguments c) bytes (Err stop) left) (sym e) (err_built (arguments k.CollapseResource) counted (λ p. CollapseResource p.0 p.1) bytes left stop built_CollapseResource r)

pub err_CollapseDirectRecursion : (kind : Kind) (bytes left : List ℕ) (stop : Stop) → kind ≡ k.CollapseDirectRecursion → Reads counted bytes (Err stop) left → Reads (arguments kind) bytes (Err stop) left
err_CollapseDirectRecursion kind bytes left stop e r = subst (λ (c : Kind). Reads (arguments c) bytes (Err stop) left) (sym e) (err_built (arguments k.CollapseDirectRecursion) counted (λ p. CollapseDirectRecursion p.0 p.1) bytes left stop built_CollapseDirectRecursion r)

pub err_CollapseRecursion : (kind : Kind) (bytes left : List ℕ) (stop : Stop) → kind ≡ k.CollapseRecursion → Reads u32s bytes (Err stop) left → Reads (arguments kind) bytes (Err stop) left
err_CollapseRecursion kind bytes left stop e r = subst (λ (c : Kind). Reads (arguments c) bytes (Err stop) left) (sym e) (err_built (arguments k.CollapseRecursion) u32s (λ n. CollapseRecursion n) bytes left stop built_CollapseRecursion r)

pub err_CollapseFunctionSubtree : (kind : Kind) (bytes left : List ℕ) (stop : Stop) → kind ≡ k.CollapseFunctionSubtree → Reads u32s bytes (Err stop) left → Reads (arguments kind) bytes (Err stop) left
err_CollapseFunctionSubtree kind bytes left stop e r = subst (λ (c : Kind). Reads (arguments c) bytes (Err stop) left) (sym e) (err_built (arguments k.CollapseFunctionSubtree) u32s (λ n. CollapseFunctionSubtree n) bytes left stop built_CollapseFunctionSubtree r)

pub err_FilterSamples : (kind : Kind) (bytes left : List ℕ) (stop : Stop) → kind ≡ k.FilterSamples → Reads searches bytes (Err stop) left → Reads (arguments kind) bytes (Err stop) left
err_FilterSamples kind bytes left stop e r = subst (λ (c : Kind). Reads (arguments c) bytes (Err stop) left) (sym e) (err_built (arguments k.FilterSamples) searches (λ n. FilterSamples n) bytes left stop built_FilterSamples r)

-- ---- the words

abbrev pub kind_words : Form → Language Kind
kind_words form = words kind_word (Among (kinds_of form))

some_of_kind : (kind : Kind) → (x : Transform) × IsWritten x × (kind_of x ≡ kind)
some_of_kind k.MergeFunction = (MergeFunction 0, omega arith, refl)
some_of_kind k.MergeCallNode = (MergeCallNode Combined (0 ∷ []), (λ e. cc, (omega arith, tt)), refl)
some_of_kind k.DropFunction = (DropFunction 0, omega arith, refl)
some_of_kind k.FocusSubtree = (FocusSubtree Combined (0 ∷ []) false, (λ e. cc, (omega arith, tt)), refl)
some_of_kind k.FocusFunction = (FocusFunction 0, omega arith, refl)
some_of_kind k.FocusCategory = (FocusCategory 0, omega arith, refl)
some_of_kind k.CollapseResource = (CollapseResource Combined 0, omega arith, refl)
some_of_kind k.CollapseDirectRecursion = (CollapseDirectRecursion Combined 0, omega arith, refl)
some_of_kind k.CollapseRecursion = (CollapseRecursion 0, omega arith, refl)
some_of_kind k.CollapseFunctionSubtree = (CollapseFunctionSubtree 0, omega arith, refl)
some_of_kind k.FilterSamples = (FilterSamples [], IsUtf8-nil, refl)

cut_word : (x : Transform) → transform_text x ≡ kind_word (kind_of x) ++ arguments_text x
cut_word (MergeFunction n) = refl
cut_word (MergeCallNode i q) = refl
cut_word (DropFunction n) = refl
cut_word (FocusSubtree i q b) = refl
cut_word (FocusFunction n) = refl
cut_word (FocusCategory n) = refl
cut_word (CollapseResource i n) = refl
cut_word (CollapseDirectRecursion i n) = refl
cut_word (CollapseRecursion n) = refl
cut_word (CollapseFunctionSubtree n) = refl
cut_word (FilterSamples s) = refl

pub kind_leads : (form : Form) → Leads (transforms form) (kind_words form) kind_of arguments_text
kind_leads form = record {
  cut = λ x f. cut_word x;
  fits = λ x f. f.1;
  some = λ kind f. let x = some_of_kind kind in (x.0, (x.1, subst (λ (c : Kind). Among (kinds_of form) c) (sym x.2) f), x.2);
  apart = λ x m f a. apart_any (arguments_text x ++ m);
}

pub splits_kind_words : (form : Form) → Splits (kind_words form)
splits_kind_words First = splits_words kind_word FIRST_KINDS refl
splits_kind_words Second = splits_words kind_word KINDS refl

-- what stands behind the word of one of the form's kinds
behind_built : (form : Form) (kind : Kind) → Among (kinds_of form) kind → Built (rest (transforms form) kind_of arguments_text kind) (arguments kind) (λ t. t)
behind_built form kind among = record {
  into = λ t f. (((f.0, subst (λ (c : Kind). Among (kinds_of form) c) (sym f.1) among), f.1), refl);
  from = λ t f. (t, refl, (f.0.0, f.1), λ m a. a);
}

splits_behind_word : (form : Form) (kind : Kind) → Splits (rest (transforms form) kind_of arguments_text kind)
splits_behind_word form kind = record {
  same = λ t u m n ft fu am an e.
      (splits_built (rest (transforms form) kind_of arguments_text kind) (arguments kind) (λ x. x) (behind_built form kind (subst (λ (c : Kind). Among (kinds_of form) c) ft.1 ft.0.1)) (splits_arguments kind)).same t u m n ft fu am an e;
}

pub splits_transforms : (form : Form) → Splits (transforms form)
splits_transforms form = splits_behind (transforms form) (kind_words form) kind_of arguments_text (kind_leads form) (splits_kind_words form) (splits_behind_word form)

-- the word of a kind was read, and then what stands behind it
pub read_behind : (form : Form) (bytes mid left : List ℕ) (kind : Kind) (r : Result Transform Stop) → IsTaken (kind_words form) bytes kind mid → Reads (arguments kind) mid r left → Reads (transforms form) bytes r left
read_behind form bytes mid left kind (Ok x) t s =
    taken_behind (transforms form) (kind_words form) kind_of arguments_text bytes mid left kind x (kind_leads form) t
    (taken_built (rest (transforms form) kind_of arguments_text kind) (arguments kind) (λ u. u) mid left x (behind_built form kind t.fits) (λ a. a) s)
read_behind form bytes mid left kind (Err stop) t s =
    err_behind (transforms form) (kind_words form) kind_of arguments_text bytes mid left kind stop (kind_leads form) (splits_kind_words form) t
    (err_built (rest (transforms form) kind_of arguments_text kind) (arguments kind) (λ u. u) mid left stop (behind_built form kind t.fits) s)

-- ---- each is read to an end

reading_arguments : (kind : Kind) → Readable (arguments kind)
reading_arguments k.MergeFunction = reading_built (arguments k.MergeFunction) u32s (λ n. MergeFunction n) built_MergeFunction (λ y left f a. a) reading_u32
reading_arguments k.MergeCallNode = reading_built (arguments k.MergeCallNode) nodes (λ p. MergeCallNode p.0 p.1) built_MergeCallNode (λ y left f a. a) reading_node
reading_arguments k.DropFunction = reading_built (arguments k.DropFunction) u32s (λ n. DropFunction n) built_DropFunction (λ y left f a. a) reading_u32
reading_arguments k.FocusSubtree = reading_built (arguments k.FocusSubtree) focuses (λ p. FocusSubtree p.0 p.1 p.2) built_FocusSubtree (λ y left f a. a) reading_focus
reading_arguments k.FocusFunction = reading_built (arguments k.FocusFunction) u32s (λ n. FocusFunction n) built_FocusFunction (λ y left f a. a) reading_u32
reading_arguments k.FocusCategory = reading_built (arguments k.FocusCategory) u32s (λ n. FocusCategory n) built_FocusCategory (λ y left f a. a) reading_u32
reading_arguments k.CollapseResource = reading_built (arguments k.CollapseResource) counted (λ p. CollapseResource p.0 p.1) built_CollapseResource (λ y left f a. a) reading_counted
reading_arguments k.CollapseDirectRecursion = reading_built (arguments k.CollapseDirectRecursion) counted (λ p. CollapseDirectRecursion p.0 p.1) built_CollapseDirectRecursion (λ y left f a. a) reading_counted
reading_arguments k.CollapseRecursion = reading_built (arguments k.CollapseRecursion) u32s (λ n. CollapseRecursion n) built_CollapseRecursion (λ y left f a. a) reading_u32
reading_arguments k.CollapseFunctionSubtree = reading_built (arguments k.CollapseFunctionSubtree) u32s (λ n. CollapseFunctionSubtree n) built_CollapseFunctionSubtree (λ y left f a. a) reading_u32
reading_arguments k.FilterSamples = reading_built (arguments k.FilterSamples) searches (λ n. FilterSamples n) built_FilterSamples (λ y left f a. a) reading_search

reading_kind_words : (form : Form) → Readable (kind_words form)
reading_kind_words First = reading_words kind_word k.MergeFunction (k.MergeCallNode ∷ k.DropFunction ∷ k.FocusSubtree ∷ k.FocusFunction ∷ k.FocusCategory ∷ k.CollapseResource ∷ k.CollapseDirectRecursion ∷ k.CollapseRecursion ∷ k.CollapseFunctionSubtree ∷ [])
reading_kind_words Second = reading_words kind_word k.MergeFunction (k.MergeCallNode ∷ k.DropFunction ∷ k.FocusSubtree ∷ k.FocusFunction ∷ k.FocusCategory ∷ k.CollapseResource ∷ k.CollapseDirectRecursion ∷ k.CollapseRecursion ∷ k.CollapseFunctionSubtree ∷ k.FilterSamples ∷ [])

pub reading_transform : (form : Form) → Readable (transforms form)
reading_transform form = reading_behind (transforms form) (kind_words form) kind_of arguments_text (kind_leads form) (splits_kind_words form) (reading_kind_words form)
    (λ kind f. reading_built (rest (transforms form) kind_of arguments_text kind) (arguments kind) (λ t. t) (behind_built form kind f) (λ t left g a. a) (reading_arguments kind))
