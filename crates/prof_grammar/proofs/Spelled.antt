-- The text that the machine makes of a string's pieces is their characters in UTF-8.
use Rattle.std.proofs.Common.{◌≡◌, ℕ, Bool, true, false, cond, List, [], ◌∷◌, ◌++◌, refl, sym, ap, ◌∙◌, arith}
use Rattle.std.specs.Prelude.{nat_lt, nat_le, Option, Some, None, encode_utf8_all}
use Rattle.std.specs.Char.{encode_utf8}
use Rattle.std.specs.Char.Utf16.{is_high_surrogate, is_low_surrogate, surrogate_pair_char, lone_unit_char}
use Rattle.std.specs.Option.{unwrap_or}
use Rattle.std.proofs.lemmas.Bool.Decides.{nat_tests}
use Rattle.std.proofs.lemmas.List.{append-nil, append_assoc}
use Rattle.prof_grammar.specs.Lexical.{Code, char, unit, characters}
use Rattle.prof_grammar.specs.Machine.{replacement, add_first, add_unit}
use Rattle.prof_grammar.proofs.Language.{spelled}

pub replaced : encode_utf8 0xFFFD ≡ replacement
unfolding encode_utf8
replaced = refl

abbrev alone : ℕ → ℕ
alone u = unwrap_or (lone_unit_char u) 0xFFFD

abbrev text_of : List Code → List ℕ
text_of ms = encode_utf8_all (characters ms)

lone_high : (u : ℕ) → is_high_surrogate u ≡ true → alone u ≡ 0xFFFD
lone_high u h =
    let a : nat_le 0xD800 u ≡ true = grind (arith, nat_tests) in
    let b : nat_lt u 0xE000 ≡ true = grind (arith, nat_tests) in
    rw (a, b)

-- a unit that is no first one stands for itself
stands_alone : (u : ℕ) (ms : List Code) → is_high_surrogate u ≡ false → characters (unit u ∷ ms) ≡ alone u ∷ characters ms
stands_alone u [] h = refl
stands_alone u (char c ∷ ms) h = refl
stands_alone u (unit v ∷ ms) h = rw h

record Both (ms : List Code) : Type 0 where
  none : (s : List ℕ) → spelled s None ms ≡ s ++ text_of ms
  some : (s : List ℕ) (u : ℕ) → is_high_surrogate u ≡ true → spelled s (Some u) ms ≡ s ++ text_of (unit u ∷ ms)

first_unit : (u : ℕ) (ms : List Code) → Both ms → (s : List ℕ) → spelled (add_first s u).0 (add_first s u).1 ms ≡ s ++ text_of (unit u ∷ ms)
first_unit u ms h s = go (is_high_surrogate u) refl
  where
    go : (t : Bool) → is_high_surrogate u ≡ t → spelled (cond {A = List ℕ × Option ℕ} t (s, Some u) (s ++ encode_utf8 (alone u), None)).0 (cond {A = List ℕ × Option ℕ} t (s, Some u) (s ++ encode_utf8 (alone u), None)).1 ms ≡ s ++ text_of (unit u ∷ ms)
    go true e = h.some s u e
    go false e = h.none (s ++ encode_utf8 (alone u)) ∙ append_assoc s (encode_utf8 (alone u)) (text_of ms) ∙ ap (λ cs. s ++ encode_utf8_all cs) (sym (stands_alone u ms e))

-- U+FFFD for the unit that waited, and then the rest
waited : (s : List ℕ) (u : ℕ) (r : List ℕ) → is_high_surrogate u ≡ true → (s ++ replacement) ++ r ≡ s ++ (encode_utf8 (alone u) ++ r)
waited s u r h = append_assoc s replacement r ∙ ap (λ x. s ++ (x ++ r)) (sym replaced) ∙ ap (λ c. s ++ (encode_utf8 c ++ r)) (sym (lone_high u h))

second_unit : (u v : ℕ) (ms : List Code) → Both ms → is_high_surrogate u ≡ true → (s : List ℕ) → spelled (add_unit s (Some u) v).0 (add_unit s (Some u) v).1 ms ≡ s ++ text_of (unit u ∷ unit v ∷ ms)
second_unit u v ms h high s = go (is_low_surrogate v) refl
  where
    go : (t : Bool) → is_low_surrogate v ≡ t →
        spelled (cond {A = List ℕ × Option ℕ} t (s ++ encode_utf8 (surrogate_pair_char u v), None) (add_first (s ++ replacement) v)).0 (cond {A = List ℕ × Option ℕ} t (s ++ encode_utf8 (surrogate_pair_char u v), None) (add_first (s ++ replacement) v)).1 ms ≡ s ++ text_of (unit u ∷ unit v ∷ ms)
    go true e =
        let pair : characters (unit u ∷ unit v ∷ ms) ≡ surrogate_pair_char u v ∷ characters ms = rw (high, e) in
        h.none (s ++ encode_utf8 (surrogate_pair_char u v)) ∙ append_assoc s (encode_utf8 (surrogate_pair_char u v)) (text_of ms) ∙ ap (λ cs. s ++ encode_utf8_all cs) (sym pair)
    go false e =
        let apart : characters (unit u ∷ unit v ∷ ms) ≡ alone u ∷ characters (unit v ∷ ms) = rw (high, e) in
        first_unit v ms h (s ++ replacement) ∙ waited s u (text_of (unit v ∷ ms)) high ∙ ap (λ cs. s ++ encode_utf8_all cs) (sym apart)

both : (ms : List Code) → Both ms
both [] = record {
  none = λ s. sym (append-nil s);
  some = λ s u h. sym (append-nil (s ++ replacement)) ∙ waited s u [] h;
}
both (char c ∷ ms) = let h = both ms in record {
  none = λ s. h.none (s ++ encode_utf8 c) ∙ append_assoc s (encode_utf8 c) (text_of ms);
  some = λ s u e. h.none ((s ++ replacement) ++ encode_utf8 c) ∙ append_assoc (s ++ replacement) (encode_utf8 c) (text_of ms) ∙ waited s u (encode_utf8 c ++ text_of ms) e;
}
both (unit v ∷ ms) = let h = both ms in record {
  none = λ s. first_unit v ms h s;
  some = λ s u e. second_unit u v ms h e s;
}

pub spelled_is : (ms : List Code) → spelled [] None ms ≡ encode_utf8_all (characters ms)
spelled_is ms = (both ms).none []
