-- Names with the same text, and the first place of a text
use Rattle.std.proofs.Common.{◌≡◌, ℕ, ◌<◌, ◌≤◌, true, false, List, [], length, get_or, Some, None, ltb, sym, ◌∙◌, refl, arith, ⊎_elim}
use Rattle.std.specs.List.{position_or_len}
use Rattle.std.proofs.lemmas.List.Sums.{fails_before_first}
use Rattle.std.specs.Str.{bytes_eq}
use Rattle.std.proofs.lemmas.Slice.Eq.{bytes_eq-Decides}
use Rattle.std.proofs.lemmas.Bool.{false_from_ne_true, and_parts, and_from, and_left, false≢true, cases_lt, cond-true, lt-ltb}
use Rattle.std.proofs.lemmas.List.Quantifiers.{position-Some}
use Rattle.prof_raw.specs.Texts.{first_place}
use Rattle.prof_marker.specs.Markers.{Draft, name_text, is_same_name, is_open_start}

pub same_text : (a b : List ℕ) → bytes_eq a b ≡ true → a ≡ b
same_text a b h = (bytes_eq-Decides a b).0 h

pub text_same : (a b : List ℕ) → a ≡ b → bytes_eq a b ≡ true
text_same a b h = (bytes_eq-Decides a b).1 h

module _ (strings : List (List ℕ)) where
  -- two texts with one first place are the same
  pub same_first : (a b : List ℕ) (q : ℕ) → first_place strings a ≡ Some q → first_place strings b ≡ Some q → a ≡ b
  same_first a b q h i =
      let at_a = same_text a (get_or strings q []) (position-Some (bytes_eq a) strings q [] h).1 in
      let at_b = same_text b (get_or strings q []) (position-Some (bytes_eq b) strings q [] i).1 in
      at_a ∙ sym at_b

  -- an open start of a name, by its parts
  pub open_parts : (n : ℕ) (d : Draft) → is_open_start strings n d ≡ true → (d.is_open ≡ true) × (name_text strings n ≡ name_text strings d.marker.name)
  open_parts n d h =
      let parts = and_parts d.is_open (is_same_name strings n d.marker.name) h in
      (parts.0, same_text (name_text strings n) (name_text strings d.marker.name) parts.1)

  pub open_from : (n : ℕ) (d : Draft) → d.is_open ≡ true → name_text strings n ≡ name_text strings d.marker.name → is_open_start strings n d ≡ true
  open_from n d h e = and_from d.is_open (is_same_name strings n d.marker.name) h (text_same (name_text strings n) (name_text strings d.marker.name) e)

  pub closed_not : (n : ℕ) (d : Draft) → d.is_open ≡ false → is_open_start strings n d ≡ false
  closed_not n d h = and_left d.is_open (is_same_name strings n d.marker.name) h

  pub other_not : (n : ℕ) (d : Draft) → (name_text strings n ≡ name_text strings d.marker.name → ⊥) → is_open_start strings n d ≡ false
  other_not n d h = false_from_ne_true (is_open_start strings n d) (λ t. h (open_parts n d t).1)

  -- each string's text has a first place
  pub first_there : (n : ℕ) → n < length strings → (q : ℕ) × ((first_place strings (name_text strings n) ≡ Some q) × (q < length strings))
  first_there n lt =
      let p = bytes_eq (name_text strings n) in
      let i = position_or_len p strings in
      let here : p (get_or strings n []) ≡ true = text_same (name_text strings n) (name_text strings n) refl in
      let most : i ≤ n = ⊎_elim (λ below. absurd (false≢true (sym (fails_before_first p strings n [] below) ∙ here))) (λ e. e) (cases_lt n i) in
      let within : i < length strings = omega arith in
      (i, (cond-true (ltb i (length strings)) (Some i) None (lt-ltb i (length strings) within), within))
