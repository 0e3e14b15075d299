-- Filters, and what stands behind one.
use Rattle.std.proofs.Common.{◌≡◌, ℕ, ◌+◌, Bool, true, false, List, [], ◌∷◌, ◌++◌, refl, subst, ap, ◌∙◌, arith, inl, inr}
use Rattle.std.specs.Prelude.{◌==◌, ◌||◌, codes, Err}
use Rattle.prof_spell.specs.Spelling.{Language, first, Apart, IsStuck, IsTaken, Reads, Splits}
use Rattle.prof_spell.specs.declared.cursor.Stop.{Stop}
use Rattle.prof_spell.specs.declared.cursor.Stop.TheVariants as stops
use Rattle.prof_spell.specs.Pieces.{Among, words, literal, joined_goes}
use Rattle.prof_spell.proofs.Words.{apart_any, splits_words, splits_literal}
use Rattle.prof_spell.proofs.Numbers.{splits_number}
use Rattle.prof_spell.specs.Readings.{Reading, taken, stuck, Readable}
use Rattle.prof_spell.proofs.Readings.{reading_literal, reading_words, reading_number, reading_behind, reading_built, reading_joined, HasText}
use Rattle.std.proofs.lemmas.Fmt.{decimal_nonempty}
use Rattle.prof_spell.proofs.Parts.{Leads, Built, rest, splits_behind, splits_built, splits_joined, EndsAtMark, taken_behind, taken_built, stuck_first, stuck_behind, stuck_built}
use Rattle.prof_spell.proofs.Bytes.{eqb_is}
use Rattle.prof_path.specs.declared.transform.Implementation.{Implementation}
use Rattle.prof_path.specs.declared.transform.Implementation.TheVariants.{Combined, Js, Cpp}
use Rattle.prof_path.specs.declared.transform.Transform.TheVariants.{FocusSubtree}
use Rattle.prof_address.specs.declared.kind.Filter.{Filter}
use Rattle.prof_address.specs.declared.kind.TheConstants.{FILTERS}
use Rattle.prof_address.specs.Transforms.{filter_word, filters, u32s, paths, counted, nodes, ends, focuses, end_text, transform_goes, Any}

abbrev pub filter_words : Language Filter
filter_words = words filter_word (Among FILTERS)

abbrev pub as_filter : Implementation → Filter
as_filter i = record { 0 = i }

among_filters : (i : Implementation) → Among FILTERS (as_filter i)
among_filters Combined = inl refl
among_filters Js = inr (inl refl)
among_filters Cpp = inr (inr (inl refl))

pub filter_leads : Leads filters filter_words as_filter (λ i. codes "-")
filter_leads = record {
  cut = λ i f. refl;
  fits = λ i f. among_filters i;
  some = λ f h. (f.0, tt, refl);
  apart = λ i m f a. apart_any (codes "-" ++ m);
}

pub dash_built : (f : Filter) → Built (rest filters as_filter (λ j. codes "-") f) (literal (codes "-")) (λ u. f.0)
dash_built f = record {
  into = λ u h. ((tt, refl), refl);
  from = λ j h. (tt, ap (λ (g : Filter). g.0) h.1, tt, λ m a. apart_any m);
}

pub splits_filter_words : Splits filter_words
splits_filter_words = splits_words filter_word FILTERS refl

pub splits_filters : Splits filters
splits_filters = splits_behind filters filter_words as_filter (λ i. codes "-") filter_leads splits_filter_words
    (λ f. splits_built (rest filters as_filter (λ j. codes "-") f) (literal (codes "-")) (λ u. f.0) (dash_built f) (splits_literal (codes "-")))

-- ---- a filter and a number

pub counted_leads : Leads counted filters (λ p. p.0) (λ p. u32s.text p.1)
counted_leads = record {
  cut = λ p f. refl;
  fits = λ p f. tt;
  some = λ i f. ((i, 0), omega arith, refl);
  apart = λ p m f a. apart_any (u32s.text p.1 ++ m);
}

pub counted_built : (i : Implementation) → Built (rest counted (λ p. p.0) (λ p. u32s.text p.1) i) u32s (λ n. (i, n))
counted_built i = record {
  into = λ n f. ((f, refl), refl);
  from = λ p f. (p.1, ap (λ j. (j, p.1)) f.1, f.0, λ m a. a);
}

-- ---- a filter and a path

pub node_leads : Leads nodes filters (λ p. p.0) (λ p. paths.text p.1)
node_leads = record {
  cut = λ p f. refl;
  fits = λ p f. tt;
  some = λ i f. ((i, 0 ∷ []), (λ e. cc, (omega arith, tt)), refl);
  apart = λ p m f a. apart_any (paths.text p.1 ++ m);
}

pub node_built : (i : Implementation) → Built (rest nodes (λ p. p.0) (λ p. paths.text p.1) i) paths (λ q. (i, q))
node_built i = record {
  into = λ q f. ((f, refl), refl);
  from = λ p f. (p.1, ap (λ j. (j, p.1)) f.1, f.0, λ m a. a);
}

-- ---- a filter, a path and the end of a focus

pub focus_leads : Leads focuses filters (λ p. p.0) (λ p. paths.text p.1 ++ end_text p.2)
focus_leads = record {
  cut = λ p f. refl;
  fits = λ p f. tt;
  some = λ i f. ((i, 0 ∷ [], false), (λ e. cc, (omega arith, tt)), refl);
  apart = λ p m f a. apart_any ((paths.text p.1 ++ end_text p.2) ++ m);
}

abbrev pub behind_filter : Implementation → Language (Implementation × List ℕ × Bool)
behind_filter i = rest focuses (λ p. p.0) (λ p. paths.text p.1 ++ end_text p.2) i

-- a dash ends a path
dash_ends : (q : List ℕ) → joined_goes u32s.goes 46 q 45 ≡ false
dash_ends [] = refl
dash_ends (n ∷ []) = refl
dash_ends (n ∷ k ∷ q) = dash_ends (k ∷ q)

or_false : (a b : Bool) → (a || b) ≡ false → a ≡ false
or_false true b e = cc
or_false false b e = refl

end_apart : (i : Implementation) (q : List ℕ) (inverted : Bool) (m : List ℕ) → Apart (focuses.goes (i, q, inverted)) m → Apart (paths.goes q) (end_text inverted ++ m)
end_apart i q true m a = dash_ends q
end_apart i q false [] a = tt
end_apart i q false (b ∷ m) a = or_false (paths.goes q b) (b == 45) a

pub path_leads : (i : Implementation) → Leads (behind_filter i) paths (λ p. p.1) (λ p. end_text p.2)
path_leads i = record {
  cut = λ p f. refl;
  fits = λ p f. f.0;
  some = λ q f. ((i, q, false), (f, refl), refl);
  apart = λ p m f a. end_apart p.0 p.1 p.2 m a;
}

ends_apart : (i : Implementation) (q : List ℕ) (inverted : Bool) (m : List ℕ) → Apart (focuses.goes (i, q, inverted)) m → Apart (ends.goes inverted) m
ends_apart i q true m a = apart_any m
ends_apart i q false [] a = tt
ends_apart i q false (b ∷ m) a = or_false_right (paths.goes q b) (b == 45) a
  where
    or_false_right : (x y : Bool) → (x || y) ≡ false → y ≡ false
    or_false_right true y e = cc
    or_false_right false y e = e

pub end_built : (i : Implementation) (q : List ℕ) → paths.Fits q → Built (rest (behind_filter i) (λ p. p.1) (λ p. end_text p.2) q) ends (λ inverted. (i, q, inverted))
end_built i q fits = record {
  into = λ b f. ((((fits), refl), refl), refl);
  from = λ p f. (p.2, ap (λ j. (j, p.1, p.2)) f.0.1 ∙ ap (λ r. (i, r, p.2)) f.1, tt, λ m a. ends_apart p.0 p.1 p.2 m a);
}

pub splits_u32s : Splits u32s
splits_u32s = splits_number 4294967295 (omega arith)

pub number_ends : EndsAtMark u32s 46
number_ends n f = refl

pub splits_paths : Splits paths
splits_paths = splits_joined u32s 46 splits_u32s number_ends

pub splits_ends : Splits ends
splits_ends = record { same = same }
  where
    same : (v w : Bool) (m n : List ℕ) → Any v → Any w → Apart (ends.goes v) m → Apart (ends.goes w) n → end_text v ++ m ≡ end_text w ++ n → v ≡ w
    same true true m n fv fw am an e = refl
    same false false m n fv fw am an e = refl
    same true false m [] fv fw am an e = cc
    same true false m (b ∷ n) fv fw am an e = let f : b ≡ 45 = cc in let g : (45 == 45) ≡ false = rw f at an in cc
    same false true [] n fv fw am an e = cc
    same false true (b ∷ m) n fv fw am an e = let f : b ≡ 45 = cc in let g : (45 == 45) ≡ false = rw f at am in cc

pub splits_counted : Splits counted
splits_counted = splits_behind counted filters (λ p. p.0) (λ p. u32s.text p.1) counted_leads splits_filters
    (λ i. splits_built (rest counted (λ p. p.0) (λ p. u32s.text p.1) i) u32s (λ n. (i, n)) (counted_built i) splits_u32s)

pub splits_nodes : Splits nodes
splits_nodes = splits_behind nodes filters (λ p. p.0) (λ p. paths.text p.1) node_leads splits_filters
    (λ i. splits_built (rest nodes (λ p. p.0) (λ p. paths.text p.1) i) paths (λ q. (i, q)) (node_built i) splits_paths)

fits_first : (i : Implementation) (q : List ℕ) → Splits (rest (behind_filter i) (λ p. p.1) (λ p. end_text p.2) q)
fits_first i q = record {
  same = λ x y m n fx fy am an e.
      (splits_built (rest (behind_filter i) (λ p. p.1) (λ p. end_text p.2) q) ends (λ b. (i, q, b)) (end_built i q (subst paths.Fits fx.1 fx.0.0)) splits_ends).same x y m n fx fy am an e;
}

pub splits_focuses : Splits focuses
splits_focuses = splits_behind focuses filters (λ p. p.0) (λ p. paths.text p.1 ++ end_text p.2) focus_leads splits_filters
    (λ i. splits_behind (behind_filter i) paths (λ p. p.1) (λ p. end_text p.2) (path_leads i) splits_paths (λ q. fits_first i q))

-- where a dash was taken, and no `i` comes
pub end_stuck : (bytes mid left : List ℕ) → bytes ≡ 45 ∷ mid → IsStuck (literal (codes "i")) mid left → IsStuck ends bytes left
end_stuck bytes mid left e s = record {
  front = 45 ∷ s.front;
  split = e ∙ ap (λ t. 45 ∷ t) s.split;
  begins = (true, tt, (s.begins.2.0, ap (λ t. 45 ∷ t) s.begins.2.1));
  none = refuted;
}
  where
    refuted : (v : Bool) (behind seen : List ℕ) → Any v → Apart (ends.goes v) behind → first seen ≡ first left → end_text v ++ behind ≡ (45 ∷ s.front) ++ seen → ⊥
    refuted true behind seen fv av look q = s.none tt behind seen tt (apart_any behind) look (let f : codes "i" ++ behind ≡ s.front ++ seen = cc in f)
    refuted false [] seen fv av look q = cc
    refuted false (b ∷ behind) seen fv av look q = let f : b ≡ 45 = cc in let g : (45 == 45) ≡ false = rw f at av in cc

pub end_err : (bytes mid left : List ℕ) (stop : Stop) → bytes ≡ 45 ∷ mid → Reads (literal (codes "i")) mid (Err stop) left → Reads ends bytes (Err stop) left
end_err bytes mid left stops.Fault e s = end_stuck bytes mid left e s
end_err bytes mid left stops.NoMemory e s = tt

-- a focus whose parts were read
pub focus_taken : (i : Implementation) (q : List ℕ) (inverted : Bool) (bytes a b left : List ℕ) → IsTaken filters bytes i a → IsTaken paths a q b → IsTaken ends b inverted left → IsTaken focuses bytes (i, q, inverted) left
focus_taken i q inverted bytes a b left t u v =
    taken_behind focuses filters (λ p. p.0) (λ p. paths.text p.1 ++ end_text p.2) bytes a left i (i, q, inverted) focus_leads t
    (taken_behind (behind_filter i) paths (λ p. p.1) (λ p. end_text p.2) a b left q (i, q, inverted) (path_leads i) u
    (taken_built (rest (behind_filter i) (λ p. p.1) (λ p. end_text p.2) q) ends (λ c. (i, q, c)) b left inverted (end_built i q u.fits) (closes inverted v.split) v))
  where
    both : (m : List ℕ) → Apart (paths.goes q) m → Apart (λ c. c == 45) m → Apart (λ c. paths.goes q c || c == 45) m
    both [] x y = tt
    both (c ∷ m) x y = rw x y

    closes : (e : Bool) → b ≡ end_text e ++ left → Apart (ends.goes e) left → Apart (transform_goes (FocusSubtree i q e)) left
    closes true s x = apart_any left
    closes false s x = both left (subst (λ t. Apart (paths.goes q) t) s u.apart) x

-- ---- each is read to an end

pub reading_u32 : Readable u32s
reading_u32 = reading_number 4294967295 (omega arith)

number_text : HasText u32s
number_text n f = decimal_nonempty n (omega arith)

pub reading_path : Readable paths
reading_path = reading_joined u32s 46 splits_u32s number_ends number_text reading_u32

reading_filter_words : Readable filter_words
reading_filter_words = reading_words filter_word (as_filter Combined) (as_filter Js ∷ as_filter Cpp ∷ [])

pub reading_filter : Readable filters
reading_filter = reading_behind filters filter_words as_filter (λ i. codes "-") filter_leads splits_filter_words reading_filter_words
    (λ f h. reading_built (rest filters as_filter (λ j. codes "-") f) (literal (codes "-")) (λ u. f.0) (dash_built f) (λ u left g a. apart_any left) (reading_literal (codes "-")))

pub reading_counted : Readable counted
reading_counted = reading_behind counted filters (λ p. p.0) (λ p. u32s.text p.1) counted_leads splits_filters reading_filter
    (λ i f. reading_built (rest counted (λ p. p.0) (λ p. u32s.text p.1) i) u32s (λ n. (i, n)) (counted_built i) (λ n left g a. a) reading_u32)

pub reading_node : Readable nodes
reading_node = reading_behind nodes filters (λ p. p.0) (λ p. paths.text p.1) node_leads splits_filters reading_filter
    (λ i f. reading_built (rest nodes (λ p. p.0) (λ p. paths.text p.1) i) paths (λ q. (i, q)) (node_built i) (λ q left g a. a) reading_path)

-- a dash, or none
reading_end : Readable ends
reading_end [] = taken false [] (record { fits = tt; split = refl; apart = tt })
reading_end (b ∷ bytes) = dash (b == 45) refl
  where
    behind : b ≡ 45 → Reading (literal (codes "i")) bytes → Reading ends (b ∷ bytes)
    behind e (taken u left t) = taken true left (record { fits = tt; split = ap (λ c. c ∷ bytes) e ∙ ap (λ t. 45 ∷ t) t.split; apart = apart_any left })
    behind e (stuck left s) = stuck left (end_stuck (b ∷ bytes) bytes left (ap (λ c. c ∷ bytes) e) s)

    dash : (t : Bool) → (b == 45) ≡ t → Reading ends (b ∷ bytes)
    dash false e = taken false (b ∷ bytes) (record { fits = tt; split = refl; apart = e })
    dash true e = behind (eqb_is b 45 e) (reading_literal (codes "i") bytes)

pub reading_focus : Readable focuses
reading_focus bytes = first_part (reading_filter bytes)
  where
    third : (i : Implementation) (q : List ℕ) (a b : List ℕ) → IsTaken filters bytes i a → IsTaken paths a q b → Reading ends b → Reading focuses bytes
    third i q a b t u (taken inverted left v) = taken (i, q, inverted) left (focus_taken i q inverted bytes a b left t u v)
    third i q a b t u (stuck left s) = stuck left
        (stuck_behind focuses filters (λ p. p.0) (λ p. paths.text p.1 ++ end_text p.2) bytes a left i focus_leads splits_filters t
        (stuck_behind (behind_filter i) paths (λ p. p.1) (λ p. end_text p.2) a b left q (path_leads i) splits_paths u
        (stuck_built (rest (behind_filter i) (λ p. p.1) (λ p. end_text p.2) q) ends (λ c. (i, q, c)) b left (end_built i q u.fits) s)))

    second : (i : Implementation) (a : List ℕ) → IsTaken filters bytes i a → Reading paths a → Reading focuses bytes
    second i a t (taken q b u) = third i q a b t u (reading_end b)
    second i a t (stuck left s) = stuck left
        (stuck_behind focuses filters (λ p. p.0) (λ p. paths.text p.1 ++ end_text p.2) bytes a left i focus_leads splits_filters t
        (stuck_first (behind_filter i) paths (λ p. p.1) (λ p. end_text p.2) a left (path_leads i) s))

    first_part : Reading filters bytes → Reading focuses bytes
    first_part (taken i a t) = second i a t (reading_path a)
    first_part (stuck left s) = stuck left (stuck_first focuses filters (λ p. p.0) (λ p. paths.text p.1 ++ end_text p.2) bytes left focus_leads s)
