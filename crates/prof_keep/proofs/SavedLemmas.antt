-- The text of a saved session, put together of its parts.
use Rattle.std.proofs.Common.{◌≡◌, ℕ, ◌+◌, ◌-◌, ◌<◌, true, false, List, [], ◌∷◌, ◌++◌, length, refl, ap, ◌∙◌, arith, inl, inr}
use Rattle.std.specs.Prelude.{codes, nat_lt, nat_le, Result, Ok, Err}
use Rattle.std.specs.Fmt.{decimal}
use Rattle.std.proofs.lemmas.Bool.Decides.{nat_tests}
use Rattle.prof_spell.specs.Spelling.{Language, Apart, IsFault, Spells, IsStuck, IsTaken, Reads, Splits}
use Rattle.prof_spell.specs.Readings.{Readable, Tells, outcome}
use Rattle.prof_spell.specs.declared.cursor.Stop.{Stop}
use Rattle.prof_spell.specs.Pieces.{Among, literal, numbers}
use Rattle.prof_spell.specs.Sequences.{followed_by}
use Rattle.prof_spell.specs.Chains.{chain_text, after, chains}
use Rattle.prof_spell.proofs.Words.{apart_any, splits_words, splits_literal}
use Rattle.prof_spell.proofs.Numbers.{splits_number}
use Rattle.prof_spell.proofs.Parts.{Built, splits_built, taken_built, stuck_built, stuck_fault, spelled}
use Rattle.prof_spell.proofs.Readings.{reading_built, reading_literal, reading_number, reading_words, tells, tells_one}
use Rattle.prof_spell.proofs.SequenceLemmas.{Meets, err_back, taken_pair, splits_pair, reading_pair}
use Rattle.prof_path.specs.Views.{ViewLists}
use Rattle.prof_address.specs.declared.kind.Form.{Form}
use Rattle.prof_address.specs.declared.kind.Form.TheVariants.{First, Second}
use Rattle.std.specs.declared.vec.Vec.{Vec}
use Rattle.prof_address.specs.Transforms.{u32s, result_items}
use Rattle.prof_address.proofs.OutcomeLemmas.{spells_own}
use Rattle.prof_address.proofs.Filters.{splits_u32s, reading_u32}
use Rattle.prof_keep.specs.declared.head.Head.{Head}
use Rattle.prof_keep.specs.declared.head.TheConstants.{HEADS}
use Rattle.prof_keep.specs.Heads.{head_word}
use Rattle.prof_keep.specs.Saved.{SavedLists, saved_text, head_text, lines_text, IsSaved, saves}
use Rattle.prof_keep.specs.Reading.{heads, digest_chain, line_chain, after_place, after_version, after_digest, as_lines, Placed, Versioned, Whole, wholes}
use Rattle.prof_keep.proofs.DigestLemmas.{linked_digest, splits_digest, reading_digest, digest_text, whole_digest, digest_whole}
use Rattle.prof_keep.proofs.LineLemmas.{linked_lines, splits_all_lines, reading_all_lines, all_lines_text, whole_lines, lines_whole}

-- ---- behind the place

pub lines_meet : (form : Form) (place : ℕ) → place < 100 → Meets (literal (codes "\n")) (λ u. chains (line_chain form place) 0)
lines_meet form place small = record {
  some = λ u f. (linked_lines form place small).on 0;
  apart = λ u vs m f g a. apart_any (chain_text (line_chain form place) 0 vs ++ m);
}

-- the end of the line was read, and then the lines
pub lines_read : {Z : Type 0} (form : Form) (place : ℕ) → (small : place < 100) → (bytes mid left : List ℕ) (r : Result (Vec ViewLists Z) Stop) → IsTaken (literal (codes "\n")) bytes tt mid
    → Reads (chains (line_chain form place) 0) mid (result_items r) left → Reads (after_place form place) bytes (as_lines r) left
lines_read form place small bytes mid left (Ok vs) t u = taken_pair (literal (codes "\n")) (λ k. chains (line_chain form place) 0) bytes mid left tt vs.items (lines_meet form place small) t u
lines_read form place small bytes mid left (Err stop) t u = err_back (literal (codes "\n")) (λ k. chains (line_chain form place) 0) bytes mid left tt stop (lines_meet form place small) (splits_literal (codes "\n")) t u

splits_after_place : (form : Form) (place : ℕ) → place < 100 → Splits (after_place form place)
splits_after_place form place small = splits_pair (literal (codes "\n")) (λ u. chains (line_chain form place) 0) (lines_meet form place small) (splits_literal (codes "\n")) (λ u f. splits_all_lines form place small)

-- ---- behind the version

abbrev pub places : Form → Language (ℕ × (Unit {0} × List ViewLists))
places form = followed_by (numbers 99) (after_place form)

pub place_meets : (form : Form) → Meets (numbers 99) (after_place form)
place_meets form = record {
  some = λ place f. let vs = (linked_lines form place (omega arith)).on 0 in ((tt, vs.0), (tt, vs.1));
  apart = λ place p m f g a. refl;
}

splits_places : (form : Form) → Splits (places form)
splits_places form = splits_pair (numbers 99) (after_place form) (place_meets form) (splits_number 99 (omega arith)) (λ place f. splits_after_place form place (omega arith))

pub version_meets : (form : Form) → Meets (literal (codes "\nplace ")) (λ u. places form)
version_meets form = record {
  some = λ u f. let p = (place_meets form).some 0 (omega arith) in ((0, p.0), (omega arith, p.1));
  apart = λ u p m f g a. apart_any ((places form).text p ++ m);
}

splits_after_version : (form : Form) → Splits (after_version form)
splits_after_version form = splits_pair (literal (codes "\nplace ")) (λ u. places form) (version_meets form) (splits_literal (codes "\nplace ")) (λ u f. splits_places form)

-- ---- behind the digest

abbrev pub versions : Form → Language (ℕ × Placed)
versions form = followed_by u32s (λ version. after_version form)

pub number_meets : (form : Form) → Meets u32s (λ version. after_version form)
number_meets form = record {
  some = λ version f. let p = (version_meets form).some tt tt in ((tt, p.0), (tt, p.1));
  apart = λ version p m f g a. refl;
}

splits_versions : (form : Form) → Splits (versions form)
splits_versions form = splits_pair u32s (λ version. after_version form) (number_meets form) splits_u32s (λ version f. splits_after_version form)

pub digest_meets : (form : Form) → Meets (literal (codes "\nversion ")) (λ u. versions form)
digest_meets form = record {
  some = λ u f. let p = (number_meets form).some 0 (omega arith) in ((0, p.0), (omega arith, p.1));
  apart = λ u p m f g a. apart_any ((versions form).text p ++ m);
}

splits_after_digest : (form : Form) → Splits (after_digest form)
splits_after_digest form = splits_pair (literal (codes "\nversion ")) (λ u. versions form) (digest_meets form) (splits_literal (codes "\nversion ")) (λ u f. splits_versions form)

-- ---- behind the head

abbrev pub digests : Form → Language (List ℕ × Versioned)
digests form = followed_by (chains digest_chain 0) (λ digest. after_digest form)

ended : (n : ℕ) → nat_le 32 n ≡ true → nat_lt n 32 ≡ false
ended n h = grind (arith, nat_tests)

pub bytes_meet : (form : Form) → Meets (chains digest_chain 0) (λ digest. after_digest form)
bytes_meet form = record {
  some = λ digest f. let p = (number_meets form).some 0 (omega arith) in ((tt, (0, p.0)), (tt, (omega arith, p.1)));
  apart = λ digest p m f g a. ended (after digest_chain 0 digest) f.ends;
}

splits_digests : (form : Form) → Splits (digests form)
splits_digests form = splits_pair (chains digest_chain 0) (λ digest. after_digest form) (bytes_meet form) splits_digest (λ digest f. splits_after_digest form)

-- ---- the whole

abbrev pub as_head : Form → Head
as_head form = record { 0 = form }

among_heads : (form : Form) → Among HEADS (as_head form)
among_heads First = inl refl
among_heads Second = inr (inl refl)

pub head_meets : Meets heads (λ head. digests head.0)
head_meets = record {
  some = λ head f.
      let d = linked_digest.on 0 in
      let p = (number_meets head.0).some 0 (omega arith) in
      ((d.0, (tt, (0, p.0))), (d.1, (tt, (omega arith, p.1))));
  apart = λ head p m f g a. apart_any ((digests head.0).text p ++ m);
}

pub splits_heads : Splits heads
splits_heads = splits_words head_word HEADS refl

splits_wholes : Splits wholes
splits_wholes = splits_pair heads (λ head. digests head.0) head_meets splits_heads (λ head f. splits_digests head.0)

abbrev pub build : Whole → Form × SavedLists
build w = (w.0.0, record { digest = w.1.0; version = w.1.1.1.0; place = w.1.1.1.1.1.0; views = w.1.1.1.1.1.1.1 })

whole_fits : (w : Whole) → wholes.Fits w → IsSaved w.0.0 (build w).1
whole_fits w f =
    let d = whole_digest w.1.0 f.1.0 in
    let place = f.1.1.1.1.1.0 in
    let vs = whole_lines w.0.0 w.1.1.1.1.1.0 (omega arith) w.1.1.1.1.1.1.1 f.1.1.1.1.1.1.1 in
    record { digest = d.0; digest_length = d.1; version = f.1.1.1.0; views = vs.0; few = vs.1.0; place = vs.1.1 }

whole_text : (w : Whole) → wholes.Fits w → saved_text w.0.0 (build w).1 ≡ wholes.text w
whole_text w f =
    let d = whole_digest w.1.0 f.1.0 in
    let place = f.1.1.1.1.1.0 in
    let head = head_text w.0.0 in
    let version = codes "\nversion " in
    let mark = codes "\nplace " in
    ap (λ t. head ++ (t ++ (version ++ (decimal w.1.1.1.0 ++ (mark ++ (decimal w.1.1.1.1.1.0 ++ (codes "\n" ++ lines_text w.1.1.1.1.1.1.1))))))) (digest_text 0 w.1.0 d.0)
    ∙ ap (λ t. head ++ (chain_text digest_chain 0 w.1.0 ++ (version ++ (decimal w.1.1.1.0 ++ (mark ++ (decimal w.1.1.1.1.1.0 ++ (codes "\n" ++ t))))))) (all_lines_text w.0.0 w.1.1.1.1.1.0 (omega arith) 0 w.1.1.1.1.1.1.1)

abbrev parts_of : Form × SavedLists → Whole
parts_of x = (as_head x.0, (x.1.digest, (tt, (x.1.version, (tt, (x.1.place, (tt, x.1.views)))))))

saved_fits : (x : Form × SavedLists) → saves.Fits x → wholes.Fits (parts_of x)
saved_fits x f =
    let place = f.place in
    let few = f.few in
    (among_heads x.0, (digest_whole x.1.digest f.digest f.digest_length, (tt, (f.version, (tt, (omega arith, (tt, lines_whole x.0 x.1.place (omega arith) x.1.views f.views f.few f.place)))))))

pub saves_built : Built saves wholes build
saves_built = record {
  into = λ w f. (whole_fits w f, whole_text w f);
  from = λ x f. (parts_of x, refl, saved_fits x f, λ m a. a);
}

pub splits_saves : Splits saves
splits_saves = splits_built saves wholes build saves_built splits_wholes

pub reading_saved : Readable saves
reading_saved = reading_built saves wholes build saves_built (λ w left f a. a)
    (reading_pair heads (λ head. digests head.0) head_meets splits_heads (reading_words head_word (as_head First) (as_head Second ∷ []))
    (λ head h. reading_pair (chains digest_chain 0) (λ digest. after_digest head.0) (bytes_meet head.0) splits_digest reading_digest
    (λ digest d. reading_pair (literal (codes "\nversion ")) (λ u. versions head.0) (digest_meets head.0) (splits_literal (codes "\nversion ")) (reading_literal (codes "\nversion "))
    (λ u e. reading_pair u32s (λ version. after_version head.0) (number_meets head.0) splits_u32s reading_u32
    (λ version v. reading_pair (literal (codes "\nplace ")) (λ k. places head.0) (version_meets head.0) (splits_literal (codes "\nplace ")) (reading_literal (codes "\nplace "))
    (λ k g. reading_pair (numbers 99) (after_place head.0) (place_meets head.0) (splits_number 99 (omega arith)) (reading_number 99 (omega arith))
    (λ place p. reading_pair (literal (codes "\n")) (λ j. chains (line_chain head.0 place) 0) (lines_meet head.0 place (omega arith)) (splits_literal (codes "\n")) (reading_literal (codes "\n"))
    (λ j q. reading_all_lines head.0 place (omega arith)))))))))

-- ---- the whole text

no_more : (s : List ℕ) → Apart (λ b. true) s → length s ≡ 0
no_more [] a = refl
no_more (b ∷ s) a = absurd cc

pub saved_spells : (bytes left : List ℕ) (w : Whole) → IsTaken wholes bytes w left → Spells saves bytes (build w)
saved_spells bytes left w t = spelled saves bytes left (build w) splits_saves (taken_built saves wholes build bytes left w saves_built (λ a. a) t) (no_more left t.apart)

pub saved_faults : (bytes left : List ℕ) → IsStuck wholes bytes left → IsFault saves bytes (length bytes - length left)
saved_faults bytes left s = stuck_fault saves bytes left (stuck_built saves wholes build bytes left saves_built s)

-- the saved session of a text, or the place of the text's fault
abbrev pub saved_from : Result (Form × SavedLists) ℕ → Result SavedLists ℕ
saved_from (Ok p) = Ok p.1
saved_from (Err place) = Err place

unfoldable pub saved_of : List ℕ → Result SavedLists ℕ
saved_of text = saved_from (outcome saves text (reading_saved text))

-- what it tells
abbrev pub TellsSaved : List ℕ → Result SavedLists ℕ → Type 0
TellsSaved text (Ok s) = (form : Form) × Spells saves text (form, s)
TellsSaved text (Err place) = IsFault saves text place

pub tells_saved : (text : List ℕ) → TellsSaved text (saved_of text)
unfolding saved_of
tells_saved text = at (outcome saves text (reading_saved text)) (tells saves text splits_saves (reading_saved text))
  where
    at : (r : Result (Form × SavedLists) ℕ) → Tells saves text r → TellsSaved text (saved_from r)
    at (Ok p) t = (p.0, t)
    at (Err place) f = f

-- the text of either form is read as the session
pub saved_back : (form : Form) (s : SavedLists) → IsSaved form s → saved_of (saved_text form s) ≡ Ok s
unfolding saved_of
saved_back form s f =
    let own : Spells saves (saved_text form s) (form, s) = spells_own saves (form, s) splits_saves f in
    ap saved_from (tells_one saves (saved_text form s) (outcome saves (saved_text form s) (reading_saved (saved_text form s))) (Ok (form, s)) (tells saves (saved_text form s) splits_saves (reading_saved (saved_text form s))) own)
