-- Ranges, and searches that aren't empty.
use Rattle.std.proofs.Common.{◌≡◌, ◌≢◌, ℕ, ◌<◌, Bool, true, false, List, [], ◌∷◌, ◌++◌, length, refl, sym, subst, ap, ◌∙◌, arith, append_assoc}
use Rattle.std.specs.Prelude.{ℤ, pos, negsuc, Some, codes, Err}
use Rattle.std.specs.Fmt.{signed_decimal}
use Rattle.std.proofs.lemmas.Fmt.{decimal_nonempty}
use Rattle.prof_spell.specs.Spelling.{Language, first, Apart, Begins, IsStuck, IsTaken, Reads, Splits}
use Rattle.prof_spell.specs.Readings.{Reading, taken, stuck, Readable}
use Rattle.prof_spell.specs.declared.cursor.Stop.{Stop}
use Rattle.prof_spell.specs.declared.cursor.Stop.TheVariants.{Fault, NoMemory}
use Rattle.prof_spell.specs.declared.utf8.Due.TheVariants.{Character}
use Rattle.prof_spell.specs.Pieces.{IsI64, signed, literal}
use Rattle.prof_spell.specs.Escapes.{is_escaped_byte, escaped, searches, escape_chain}
use Rattle.prof_spell.specs.Chains.{IsWhole}
use Rattle.prof_spell.proofs.Words.{apart_any, splits_literal}
use Rattle.prof_spell.proofs.SignedLemmas.{splits_signed}
use Rattle.prof_spell.proofs.Parts.{Leads, Built, rest, err_first, err_behind, err_built, taken_behind, taken_built, splits_behind, splits_built, splits_joined, EndsAtMark}
use Rattle.prof_spell.proofs.Readings.{reading_signed, reading_literal, reading_behind, reading_built, reading_joined, HasText}
use Rattle.prof_spell.proofs.SearchLemmas.{splits_searches, searches_built, linked_escapes}
use Rattle.prof_spell.proofs.SearchReadings.{reading_search}
use Rattle.prof_path.specs.declared.transform.Range.{Range}
use Rattle.prof_address.specs.Parts.{ranges, some_ranges, some_searches}

-- ---- ranges

abbrev pub start_of : Range → ℤ
start_of r = r.start

-- what stands behind the start
abbrev pub end_text : Range → List ℕ
end_text r = codes "_" ++ signed_decimal r.end

pub range_leads : Leads ranges signed start_of end_text
range_leads = record {
  cut = λ r f. append_assoc (signed_decimal r.start) (codes "_") (signed_decimal r.end);
  fits = λ r f. f.0;
  some = λ z f. (record { start = z; end = pos 0 }, (f, omega arith), refl);
  apart = λ r m f a. refl;
}

abbrev pub behind_start : ℤ → Language Range
behind_start z = rest ranges start_of end_text z

-- and behind that
abbrev pub mark_leads_part : Range → Unit {0}
mark_leads_part r = tt

pub mark_leads : (z : ℤ) → IsI64 z → Leads (behind_start z) (literal (codes "_")) mark_leads_part (λ r. signed_decimal r.end)
mark_leads z small = record {
  cut = λ r f. refl;
  fits = λ r f. tt;
  some = λ u f. (record { start = z; end = pos 0 }, ((small, omega arith), refl), refl);
  apart = λ r m f a. apart_any (signed_decimal r.end ++ m);
}

abbrev pub range_from : ℤ → ℤ → Range
range_from z e = record { start = z; end = e }

pub end_built : (z : ℤ) → IsI64 z → Built (rest (behind_start z) mark_leads_part (λ r. signed_decimal r.end) tt) signed (λ e. range_from z e)
end_built z small = record {
  into = λ e f. ((((small, f), refl), refl), refl);
  from = λ r f. (r.end, ap (λ y. range_from y r.end) f.0.1, f.0.0.1, λ m a. a);
}

splits_behind_start : (z : ℤ) → Splits (behind_start z)
splits_behind_start z = record {
  same = λ r q m n fr fq am an e.
      let small : IsI64 z = subst IsI64 fr.1 fr.0.0 in
      (splits_behind (behind_start z) (literal (codes "_")) mark_leads_part (λ r. signed_decimal r.end) (mark_leads z small) (splits_literal (codes "_"))
      (λ u. splits_built (rest (behind_start z) mark_leads_part (λ r. signed_decimal r.end) u) signed (λ e. range_from z e) (end_built z small) splits_signed)).same r q m n fr fq am an e;
}

pub splits_ranges : Splits ranges
splits_ranges = splits_behind ranges signed start_of end_text range_leads splits_signed splits_behind_start

pub ends_at_tilde : EndsAtMark ranges 126
ends_at_tilde r f = refl

pub splits_some_ranges : Splits some_ranges
splits_some_ranges = splits_joined ranges 126 splits_ranges ends_at_tilde

signed_text : (z : ℤ) → IsI64 z → 0 < length (signed_decimal z)
signed_text (pos n) f = decimal_nonempty n (omega arith)
signed_text (negsuc n) f = omega arith

range_some : HasText ranges
range_some r f = longer (signed_decimal r.start) (signed_text r.start f.0)
  where
    longer : (s : List ℕ) → 0 < length s → 0 < length ((s ++ codes "_") ++ signed_decimal r.end)
    longer [] l = absurd (omega arith)
    longer (b ∷ s) l = omega arith

pub reading_range : Readable ranges
reading_range = reading_behind ranges signed start_of end_text range_leads splits_signed reading_signed
    (λ z small. reading_behind (behind_start z) (literal (codes "_")) mark_leads_part (λ r. signed_decimal r.end) (mark_leads z small) (splits_literal (codes "_")) (reading_literal (codes "_"))
    (λ u f. reading_built (rest (behind_start z) mark_leads_part (λ r. signed_decimal r.end) u) signed (λ e. range_from z e) (end_built z small) (λ y left g a. a) reading_signed))

pub reading_some_ranges : Readable some_ranges
reading_some_ranges = reading_joined ranges 126 splits_ranges ends_at_tilde range_some reading_range

-- the start was read, and `_`, and the end
pub mark_err : (bytes a left : List ℕ) (z : ℤ) (stop : Stop) → IsTaken signed bytes z a → Reads (literal (codes "_")) a (Err stop) left → Reads ranges bytes (Err stop) left
mark_err bytes a left z stop t s = err_behind ranges signed start_of end_text bytes a left z stop range_leads splits_signed t
    (err_first (behind_start z) (literal (codes "_")) mark_leads_part (λ r. signed_decimal r.end) a left stop (mark_leads z t.fits) s)

pub end_err : (bytes a b left : List ℕ) (z : ℤ) (stop : Stop) → IsTaken signed bytes z a → IsTaken (literal (codes "_")) a tt b → Reads signed b (Err stop) left → Reads ranges bytes (Err stop) left
end_err bytes a b left z stop t u s = err_behind ranges signed start_of end_text bytes a left z stop range_leads splits_signed t
    (err_behind (behind_start z) (literal (codes "_")) mark_leads_part (λ r. signed_decimal r.end) a b left tt stop (mark_leads z t.fits) (splits_literal (codes "_")) u
    (err_built (rest (behind_start z) mark_leads_part (λ r. signed_decimal r.end) tt) signed (λ e. range_from z e) b left stop (end_built z t.fits) s))

pub range_taken : (bytes a b left : List ℕ) (z e : ℤ) → IsTaken signed bytes z a → IsTaken (literal (codes "_")) a tt b → IsTaken signed b e left → IsTaken ranges bytes (range_from z e) left
range_taken bytes a b left z e t u v = taken_behind ranges signed start_of end_text bytes a left z (range_from z e) range_leads t
    (taken_behind (behind_start z) (literal (codes "_")) mark_leads_part (λ r. signed_decimal r.end) a b left tt (range_from z e) (mark_leads z t.fits) u
    (taken_built (rest (behind_start z) mark_leads_part (λ r. signed_decimal r.end) tt) signed (λ y. range_from z y) b left e (end_built z t.fits) (λ k. k) v))

-- ---- searches that aren't empty

first_escaped : (s : List ℕ) → some_searches.Fits s → (b : ℕ) × (first (escaped s) ≡ Some b) × (is_escaped_byte b ≡ true)
first_escaped [] f = absurd (f.1 refl)
first_escaped (b ∷ s) f =
    let w = searches_built.from (b ∷ s) f.0 in
    let whole : IsWhole escape_chain Character (b ∷ s) = subst (λ (t : List ℕ). IsWhole escape_chain Character t) (sym w.1) w.2 in
    let k = linked_escapes.some Character b whole.each.0 in
    (k.0, ap (λ t. first (t ++ escaped s)) k.2, k.3)

pub letter_fits : some_searches.Fits (65 ∷ [])
letter_fits = ((searches_built.into (65 ∷ []) (record { each = (refl, tt); ends = refl })).0, λ e. cc)

not_apart : (p : ℕ → Bool) (b : ℕ) (s : List ℕ) → first s ≡ Some b → p b ≡ true → Apart p s → ⊥
not_apart p b [] e h a = cc
not_apart p b (c ∷ s) e h a = let f : c ≡ b = cc in let g : p b ≡ false = rw f at a in cc

pub search_absent : (bytes left : List ℕ) → IsTaken searches bytes [] left → IsStuck some_searches bytes left
search_absent bytes left t = record {
  front = [];
  split = t.split;
  begins = (65 ∷ [], letter_fits, (escaped (65 ∷ []), refl));
  none = λ v behind seen fv av look e.
      let k = first_escaped v fv in
      let f : first seen ≡ Some k.0 = ap first (sym e) ∙ front_first (escaped v) behind k.0 k.1 in
      not_apart is_escaped_byte k.0 left (sym look ∙ f) k.2 t.apart;
}
  where
    front_first : (s m : List ℕ) (b : ℕ) → first s ≡ Some b → first (s ++ m) ≡ Some b
    front_first [] m b e = cc
    front_first (c ∷ s) m b e = e

pub search_present : (bytes left s : List ℕ) → s ≢ [] → IsTaken searches bytes s left → IsTaken some_searches bytes s left
search_present bytes left s n t = record { fits = (t.fits, n); split = t.split; apart = t.apart }

begun : (front v more : List ℕ) → searches.Fits v → escaped v ≡ front ++ more → Begins some_searches front
begun [] v more f e = (65 ∷ [], letter_fits, (escaped (65 ∷ []), refl))
begun (b ∷ front) [] more f e = absurd cc
begun (b ∷ front) (c ∷ v) more f e = (c ∷ v, (f, λ q. cc), (more, e))

pub search_stuck : (bytes left : List ℕ) → IsStuck searches bytes left → IsStuck some_searches bytes left
search_stuck bytes left s = record {
  front = s.front;
  split = s.split;
  begins = begun s.front s.begins.0 s.begins.2.0 s.begins.1 s.begins.2.1;
  none = λ v behind seen fv av look e. s.none v behind seen fv.0 av look e;
}

pub search_err : (bytes left : List ℕ) (stop : Stop) → Reads searches bytes (Err stop) left → Reads some_searches bytes (Err stop) left
search_err bytes left NoMemory s = tt
search_err bytes left Fault s = search_stuck bytes left s

pub splits_some_searches : Splits some_searches
splits_some_searches = record { same = λ v w m n fv fw am an e. splits_searches.same v w m n fv.0 fw.0 am an e }

pub reading_some_search : Readable some_searches
reading_some_search bytes = at (reading_search bytes)
  where
    at : Reading searches bytes → Reading some_searches bytes
    at (taken [] left t) = stuck left (search_absent bytes left t)
    at (taken (b ∷ s) left t) = taken (b ∷ s) left (search_present bytes left (b ∷ s) (λ e. cc) t)
    at (stuck left s) = stuck left (search_stuck bytes left s)
