-- What was read last, one call behind another.
use Rattle.std.proofs.Common.{◌≡◌, inl, inr, ℕ, ◌+◌, ◌<◌, false, List, [], ◌∷◌, ◌++◌, length, take, drop, get_or, refl, sym, ap, ◌∙◌, subst, arith}
use Rattle.std.specs.Prelude.{Option, Some, None, ◌⊎◌}
use Rattle.std.proofs.lemmas.List.{append_assoc, append-nil, length-append, take-append-drop, take_more}
use Rattle.std.proofs.lemmas.Bool.Decides.{nat_tests}
use Rattle.std.specs.Char.{IsAsciiDigit}
use Rattle.prof_time.specs.Numeral as n
use Rattle.prof_time.specs.Numeral.{AreDigits, IsInt}
use Rattle.prof_io.specs.Outside.{Seen}
use Rattle.prof_token.specs.Ahead.{Ahead, Knows, IsNext, IsSame, Passes}
use Rattle.prof_token.specs.Bytes.{Each, is_digit, is_space}
use Rattle.prof_token.specs.Moves.{Moves, Reads}
use Rattle.prof_token.specs.Numbers.{IsPlain}
use Rattle.prof_token.specs.Own.{EndsOwn, Owns, OwnsAny, ReadsOff}
use Rattle.prof_token.specs.declared.fault.JsonFault.{JsonFault}
use Rattle.prof_token.proofs.Texts.{each_digits}

-- the last of these bytes is no blank
pub record HasOwn (bytes : List ℕ) : Type 0 where
  pub others : List ℕ
  pub last : ℕ
  pub is : bytes ≡ others ++ last ∷ []
  pub own : is_space last ≡ false

digit_own : (b : ℕ) → IsAsciiDigit b → is_space b ≡ false
digit_own b h = let low = h.0 in let high = h.1 in grind (arith, nat_tests)

pub more_own : {xs : List ℕ} (x : ℕ) → HasOwn xs → HasOwn (x ∷ xs)
more_own x h = record { others = x ∷ h.others; last = h.last; is = ap (λ u. x ∷ u) h.is; own = h.own }

behind_own : {ys : List ℕ} (xs : List ℕ) → HasOwn ys → HasOwn (xs ++ ys)
behind_own [] h = h
behind_own (x ∷ xs) h = more_own x (behind_own xs h)

last_digit : (xs : List ℕ) → AreDigits xs → (xs ≡ []) ⊎ HasOwn xs
last_digit [] h = inl refl
last_digit (x ∷ xs) h = elim (last_digit xs h.1) [
  | inl e ↦ inr (record { others = []; last = x; is = ap (λ u. x ∷ u) e; own = digit_own x h.0 })
  | inr t ↦ inr (more_own x t)
]

first_own : (x : ℕ) (xs : List ℕ) → IsAsciiDigit x → AreDigits xs → HasOwn (x ∷ xs)
first_own x xs d h = elim (last_digit xs h) [
  | inl e ↦ record { others = []; last = x; is = ap (λ u. x ∷ u) e; own = digit_own x d }
  | inr t ↦ more_own x t
]

int_own : {w : List ℕ} → IsInt w → HasOwn w
int_own n.zero_int = record { others = []; last = 48; is = refl; own = refl }
int_own (n.int {d} {ds} digit other digits) = first_own d ds digit digits

fraction_own : {f ds : List ℕ} → n.IsFraction f ds → (f ≡ []) ⊎ HasOwn f
fraction_own n.no_fraction = inl refl
fraction_own (n.fraction (n.digits {d} {ds} digit digits)) = inr (more_own 46 (first_own d ds digit digits))

-- so ends a plain number
pub plain_own : {text : List ℕ} → IsPlain text → HasOwn text
plain_own h = elim (fraction_own h.goes_on.reads) [
  | inl e ↦ subst HasOwn (sym (h.is ∙ ap (λ u. h.whole ++ u) e ∙ append-nil h.whole)) (int_own h.begins)
  | inr t ↦ subst HasOwn (sym h.is) (behind_own h.whole t)
]

-- ---- an event's last byte

-- a byte that is no blank was passed
pub owns_byte : {a b : Ahead} {byte : ℕ} (l : Option (List ℕ)) → IsNext byte a → is_space byte ≡ false → Passes 1 a b → Owns a.bytes l b.bytes l
owns_byte None next own passed = record { is = tt }
owns_byte {byte = byte} (Some l) next own passed = record { is = record { others = []; last = byte; split = rw (passed.bytes, next.bytes) refl; own = own } }

ends_behind : {y z : List ℕ} (x xs : List ℕ) → x ≡ xs ++ y → EndsOwn y z → EndsOwn x z
ends_behind {y} {z} x xs e k = record {
  others = xs ++ k.others;
  last = k.last;
  split = e ∙ ap (λ u. xs ++ u) k.split ∙ sym (append_assoc xs k.others (k.last ∷ z));
  own = k.own;
}

-- whatever was read before
pub owns_behind : {o : Option JsonFault} {a b : Ahead} {s t : Seen} {z : List ℕ} {n : Option (List ℕ)} → Moves o a s b t → Owns b.bytes t.left z n → Owns a.bytes s.left z n
owns_behind {a = a} {b = b} {s = s} {t = t} {z = z} {n = n} h k = record { is = go s.left t.left n h.reads k.is }
  where
    go : (l m n : Option (List ℕ)) → Reads a.bytes a.place l b.bytes b.place m → Knows (λ l m. EndsOwn (b.bytes ++ l) (z ++ m)) m n → Knows (λ l m. EndsOwn (a.bytes ++ l) (z ++ m)) l n
    go None m n r k = tt
    go (Some l) None n r k = absurd r
    go (Some l) (Some m) None r k = absurd k
    go (Some l) (Some m) (Some n) r k = ends_behind (a.bytes ++ l) r.bytes r.split k

-- a word was passed whose last byte is no blank
pub owns_word : {x y word : List ℕ} {l m : Option (List ℕ)} → HasOwn word → ReadsOff word x l y m → Owns x l y m
owns_word {x} {y} {word} {l} {m} own h = record { is = go l m h.is }
  where
    go : (l m : Option (List ℕ)) → Knows (λ l m. x ++ l ≡ word ++ (y ++ m)) l m → Knows (λ l m. EndsOwn (x ++ l) (y ++ m)) l m
    go None m h = tt
    go (Some l) None h = absurd h
    go (Some l) (Some m) h = record { others = own.others; last = own.last; split = h ∙ ap (λ u. u ++ (y ++ m)) own.is ∙ append_assoc own.others (own.last ∷ []) (y ++ m); own = own.own }

split_off : {a b : Ahead} {n : ℕ} (l : List ℕ) → Passes n a b → a.bytes ++ l ≡ take n a.bytes ++ (b.bytes ++ l)
split_off {a} {b} {n} l p = ap (λ u. u ++ l) (sym (take-append-drop n a.bytes)) ∙ append_assoc (take n a.bytes) (drop n a.bytes) l ∙ ap (λ u. take n a.bytes ++ (u ++ l)) (sym p.bytes)

-- whatever was passed before
pub owns_passed : {a b : Ahead} {n : ℕ} {z : List ℕ} {l m : Option (List ℕ)} → Passes n a b → Owns b.bytes l z m → Owns a.bytes l z m
owns_passed {a} {b} {n} {z} {l} {m} p k = record { is = go l m k.is }
  where
    go : (l m : Option (List ℕ)) → Knows (λ l m. EndsOwn (b.bytes ++ l) (z ++ m)) l m → Knows (λ l m. EndsOwn (a.bytes ++ l) (z ++ m)) l m
    go None m k = tt
    go (Some l) None k = k
    go (Some l) (Some m) k = ends_behind (a.bytes ++ l) (take n a.bytes) (split_off l p) k

-- a run of bytes was passed whose last byte is no blank
pub owns_run : {a b : Ahead} {n : ℕ} {bytes : List ℕ} (l : Option (List ℕ)) → HasOwn bytes → take n a.bytes ≡ bytes → Passes n a b → Owns a.bytes l b.bytes l
owns_run None own e p = record { is = tt }
owns_run {a} {b} {n} {bytes} (Some l) own e p = record {
  is = record {
    others = own.others;
    last = own.last;
    split = split_off l p ∙ ap (λ u. u ++ (b.bytes ++ l)) (e ∙ own.is) ∙ append_assoc own.others (own.last ∷ []) (b.bytes ++ l);
    own = own.own;
  };
}

-- ---- parts of a number, each of which may be absent

pub any_same : {a b : Ahead} {l m : Option (List ℕ)} → IsSame a l b m → OwnsAny a.bytes l b.bytes m
any_same {a} {b} {l} {m} h = record { is = go l m h.bytes }
  where
    go : (l m : Option (List ℕ)) → Knows (λ l m. a.bytes ++ l ≡ b.bytes ++ m) l m → Knows (λ l m. (a.bytes ++ l ≡ b.bytes ++ m) ⊎ EndsOwn (a.bytes ++ l) (b.bytes ++ m)) l m
    go None m h = tt
    go (Some l) None h = h
    go (Some l) (Some m) h = inl h

pub any_here : (x : List ℕ) (l : Option (List ℕ)) → OwnsAny x l x l
any_here x None = record { is = tt }
any_here x (Some l) = record { is = inl refl }

pub any_owns : {x y : List ℕ} {l m : Option (List ℕ)} → Owns x l y m → OwnsAny x l y m
any_owns {x} {y} {l} {m} h = record { is = go l m h.is }
  where
    go : (l m : Option (List ℕ)) → Knows (λ l m. EndsOwn (x ++ l) (y ++ m)) l m → Knows (λ l m. (x ++ l ≡ y ++ m) ⊎ EndsOwn (x ++ l) (y ++ m)) l m
    go None m h = tt
    go (Some l) None h = h
    go (Some l) (Some m) h = inr h

ends_then : {x y z : List ℕ} → EndsOwn x y → ((y ≡ z) ⊎ EndsOwn y z) → EndsOwn x z
ends_then h (inl f) = record { others = h.others; last = h.last; split = h.split ∙ ap (λ u. h.others ++ h.last ∷ u) f; own = h.own }
ends_then {x} {y} {z} h (inr k) = ends_behind x (h.others ++ h.last ∷ []) (h.split ∙ sym (append_assoc h.others (h.last ∷ []) y)) k

any_then : {x y z : List ℕ} → ((x ≡ y) ⊎ EndsOwn x y) → ((y ≡ z) ⊎ EndsOwn y z) → (x ≡ z) ⊎ EndsOwn x z
any_then (inl e) (inl f) = inl (e ∙ f)
any_then (inl e) (inr k) = inr (record { others = k.others; last = k.last; split = e ∙ k.split; own = k.own })
any_then (inr h) k = inr (ends_then h k)

pub any_trans : {x y z : List ℕ} {l m n : Option (List ℕ)} → OwnsAny x l y m → OwnsAny y m z n → OwnsAny x l z n
any_trans {x} {y} {z} {l} {m} {n} h k = record { is = go l m n h.is k.is }
  where
    go : (l m n : Option (List ℕ)) → Knows (λ l m. (x ++ l ≡ y ++ m) ⊎ EndsOwn (x ++ l) (y ++ m)) l m → Knows (λ l m. (y ++ l ≡ z ++ m) ⊎ EndsOwn (y ++ l) (z ++ m)) m n →
        Knows (λ l m. (x ++ l ≡ z ++ m) ⊎ EndsOwn (x ++ l) (z ++ m)) l n
    go None m n h k = tt
    go (Some l) None n h k = absurd h
    go (Some l) (Some m) None h k = absurd k
    go (Some l) (Some m) (Some n) h k = any_then h k

-- and then perhaps more
pub owns_then : {x y z : List ℕ} {l m n : Option (List ℕ)} → Owns x l y m → OwnsAny y m z n → Owns x l z n
owns_then {x} {y} {z} {l} {m} {n} h k = record { is = go l m n h.is k.is }
  where
    go : (l m n : Option (List ℕ)) → Knows (λ l m. EndsOwn (x ++ l) (y ++ m)) l m → Knows (λ l m. (y ++ l ≡ z ++ m) ⊎ EndsOwn (y ++ l) (z ++ m)) m n → Knows (λ l m. EndsOwn (x ++ l) (z ++ m)) l n
    go None m n h k = tt
    go (Some l) None n h k = absurd h
    go (Some l) (Some m) None h k = absurd k
    go (Some l) (Some m) (Some n) h k = ends_then h k

pub any_run : {a b : Ahead} {n : ℕ} (l : Option (List ℕ)) → Each is_digit (take n a.bytes) → Passes n a b → OwnsAny a.bytes l b.bytes l
any_run None h p = record { is = tt }
any_run {a} {b} {n} (Some l) h p = elim (last_digit (take n a.bytes) (each_digits h)) [
  | inl e ↦ record { is = inl (split_off l p ∙ ap (λ u. u ++ (b.bytes ++ l)) e) }
  | inr own ↦ any_owns (owns_run (Some l) own refl p)
]

-- where something was read
pub owns_any : {o : Option JsonFault} {a b : Ahead} {s t : Seen} → Moves o a s b t → a.place < b.place → OwnsAny a.bytes s.left b.bytes t.left → Owns a.bytes s.left b.bytes t.left
owns_any {o} {a} {b} {s} {t} h further k = record { is = go s.left t.left h.reads k.is }
  where
    go : (l m : Option (List ℕ)) → Reads a.bytes a.place l b.bytes b.place m → Knows (λ l m. (a.bytes ++ l ≡ b.bytes ++ m) ⊎ EndsOwn (a.bytes ++ l) (b.bytes ++ m)) l m → Knows (λ l m. EndsOwn (a.bytes ++ l) (b.bytes ++ m)) l m
    go None m r k = tt
    go (Some l) None r k = absurd k
    go (Some l) (Some m) r (inr k) = k
    go (Some l) (Some m) r (inl e) =
        let count = r.count in
        let all = length-append r.bytes (b.bytes ++ m) in
        let same : length (b.bytes ++ m) ≡ length (r.bytes ++ (b.bytes ++ m)) = ap length (sym e ∙ r.split) in
        absurd (omega arith)

-- ---- words

pub off_none : (x : List ℕ) (l : Option (List ℕ)) → ReadsOff [] x l x l
off_none x None = record { is = tt }
off_none x (Some l) = record { is = refl }

-- one more letter was passed
pub off_more : {b c d : Ahead} {x : List ℕ} {l m n : Option (List ℕ)} (word : List ℕ) (i : ℕ) → i < length word → ReadsOff (take i word) x l b.bytes m → IsSame b m c n → IsNext (get_or word i 0) c → Passes 1 c d →
    ReadsOff (take (i + 1) word) x l d.bytes n
off_more {b} {c} {d} {x} {l} {m} {n} word i here h same next passed = record { is = go l m n h.is same.bytes }
  where
    go : (l m n : Option (List ℕ)) → Knows (λ l m. x ++ l ≡ take i word ++ (b.bytes ++ m)) l m → Knows (λ l m. b.bytes ++ l ≡ c.bytes ++ m) m n → Knows (λ l m. x ++ l ≡ take (i + 1) word ++ (d.bytes ++ m)) l n
    go None m n h s = tt
    go (Some l) None n h s = absurd h
    go (Some l) (Some m) None h s = absurd s
    go (Some l) (Some m) (Some n) h s =
        let letter : c.bytes ++ n ≡ get_or word i 0 ∷ (d.bytes ++ n) = rw (passed.bytes, next.bytes) refl in
        h ∙ ap (λ u. take i word ++ u) (s ∙ letter) ∙ sym (append_assoc (take i word) (get_or word i 0 ∷ []) (d.bytes ++ n)) ∙ ap (λ u. u ++ (d.bytes ++ n)) (sym (take_more word i 0 here))
