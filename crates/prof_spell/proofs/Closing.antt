-- Texts behind which less may stand.
use Rattle.std.proofs.Common.{◌≡◌, ℕ, Bool, true, false, List, [], ◌∷◌, ◌++◌, sym, subst, ap, ◌∙◌, append-nil}
use Rattle.std.specs.Prelude.{Some}
use Rattle.std.proofs.lemmas.List.{append_cancel_left}
use Rattle.prof_spell.specs.Spelling.{Language, first, Apart, IsStuck, IsTaken, Splits}
use Rattle.prof_spell.proofs.Lists.{first_cons, apart_first}

-- the same texts, where these bytes may not stand behind one
abbrev pub followed : {V : Type 0} → Language V → (V → ℕ → Bool) → Language V
followed L goes = record { text = L.text; Fits = L.Fits; goes = goes }

weaker : (p q : ℕ → Bool) (m : List ℕ) → ((b : ℕ) → q b ≡ false → p b ≡ false) → Apart q m → Apart p m
weaker p q [] f a = tt
weaker p q (b ∷ m) f a = f b a

pub splits_followed : {V : Type 0} (L : Language V) (goes : V → ℕ → Bool) → ((v : V) (b : ℕ) → goes v b ≡ false → L.goes v b ≡ false) → Splits L → Splits (followed L goes)
splits_followed L goes less splits = record {
  same = λ v w m n fv fw am an e. splits.same v w m n fv fw (weaker (L.goes v) (goes v) m (less v) am) (weaker (L.goes w) (goes w) n (less w) an) e;
}

-- a text was read, and the byte behind it may not stand there
pub closing : {V : Type 0} (L : Language V) (goes : V → ℕ → Bool) (bytes left : List ℕ) (v : V) (b : ℕ)
    → ((w : V) (c : ℕ) → goes w c ≡ false → L.goes w c ≡ false) → Splits L → IsTaken L bytes v left → first left ≡ Some b → goes v b ≡ true → IsStuck (followed L goes) bytes left
closing {V} L goes bytes left v b less splits taken here barred = record {
  front = L.text v;
  split = taken.split;
  begins = (v, taken.fits, ([], sym (append-nil (L.text v))));
  none = λ w behind seen fw aw look e.
      let same : w ≡ v = splits.same w v behind seen fw taken.fits (weaker (L.goes w) (goes w) behind (less w) aw) (apart_first (L.goes v) seen left look taken.apart) e in
      let g : behind ≡ seen = append_cancel_left (L.text v) behind seen (ap (λ u. L.text u ++ behind) (sym same) ∙ e) in
      let r = first_cons b behind (ap first g ∙ look ∙ here) in
      let a : goes v b ≡ false = subst (λ (s : List ℕ). Apart (goes v) s) r.1 (subst (λ (u : V). Apart (goes u) behind) same aw) in
      cc;
}
