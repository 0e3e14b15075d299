-- Texts that are written one after another.
use Rattle.std.proofs.Common.{◌≡◌, ℕ, ◌+◌, ◌-◌, List, [], ◌++◌, Option, None, Some, Result, Ok, Err, OnOk, IsErr, length, take, refl, ap, ◌∙◌, arith, subst, length-append}
use Rattle.std.proofs.KnownBytes.{Appends-nil, Appends-trans}
use Rattle.std.proofs.Math.Seq.{take-append-add}
use Rattle.std.proofs.lemmas.Bool.{false≢true}
use Rattle.std.proofs.lemmas.List.{take-append-le}
use Rattle.prof_io.specs.Bytes.{FitsRoom}
use Rattle.prof_io.specs.Causes.{HasCause}
use Rattle.prof_io.specs.Outside.{Seen}
use Rattle.prof_io.specs.Sinks.{Wrote}

on_ok : {T E P Q : Type 0} (r : Result T E) → (P → Q) → OnOk r P → OnOk r Q
on_ok (Ok x) f h = f h
on_ok (Err e) f h = tt

no_room_used : (T E : Type 0) (x : T) (room : Option ℕ) → FitsRoom {T = T} {E = E} room room (Ok x) 0
no_room_used T E x None = tt
no_room_used T E x (Some r) = λ _. (refl, ap (λ n. Some n) (omega arith))

some_is : {x y : ℕ} → Some x ≡ Some y → x ≡ y
some_is e = cc

none_is_some : {y : ℕ} → None ≡ Some y → ⊥
none_is_some e = cc

room_then : (T E U F : Type 0) (x : T) (r : Result U F) (a b c : Option ℕ) (m n : ℕ) → FitsRoom {T = T} {E = E} a b (Ok x) m → FitsRoom {T = U} {E = F} b c r n → FitsRoom {T = U} {E = F} a c r (m + n)
room_then T E U F x r None b c m n h k = tt
room_then T E U F x r (Some room) None c m n h k = λ fits. absurd (none_is_some (h (omega arith)).1)
room_then T E U F x r (Some room) (Some rest) c m n h k = λ fits.
    let is : rest ≡ room - m = some_is (h (omega arith)).1 in
    let two = k (omega arith) in
    (two.0, two.1 ∙ ap (λ n. Some n) (omega arith))

room_stop : (T E U F : Type 0) (e : E) (f : F) (a b : Option ℕ) (m n : ℕ) → FitsRoom {T = T} {E = E} a b (Err e) m → FitsRoom {T = U} {E = F} a b (Err f) (m + n)
room_stop T E U F e f None b m n h = tt
room_stop T E U F e f (Some room) b m n h = λ fits. absurd (false≢true (h (omega arith)).0)

-- nothing was written
pub writes_none : {T E : Type 0} {x : T} (a : Seen) → Wrote {T = T} {E = E} a a (Ok x) []
writes_none {T} {E} {x} a = record {
  whole = Appends-nil a.written;
  part = (0, omega arith, Appends-nil a.written);
  left = refl;
  place = refl;
  fits = no_room_used T E x a.room;
  sure = λ h. h;
  cause = record { later = omega arith; failed = tt; kept = refl };
}

-- a text was written, and then another
pub writes_then : {T E U F : Type 0} {a b c : Seen} {x : T} {r : Result U F} {s t : List ℕ} → Wrote {T = T} {E = E} a b (Ok x) s → Wrote {T = U} {E = F} b c r t → Wrote {T = U} {E = F} a c r (s ++ t)
writes_then {T = T} {E = E} {U = U} {F = F} {a = a} {b = b} {c = c} {x = x} {r = r} {s = s} {t = t} h k = record {
  whole = on_ok r (λ two. Appends-trans a.written b.written c.written s t h.whole two) k.whole;
  part =
      let n = k.part.0 in
      let both : take (length s + n) (s ++ t) ≡ s ++ take n t = take-append-add s t n in
      (length s + n, omega (arith, length-append s t, k.part.1), rw both (Appends-trans a.written b.written c.written s (take n t) h.whole k.part.2));
  left = k.left ∙ h.left;
  place = k.place ∙ h.place;
  fits = rw (length-append s t) (room_then T E U F x r a.room b.room c.room (length s) (length t) h.fits k.fits);
  sure = λ p. k.sure (h.sure p);
  cause = let P : ℕ → Type 0 = λ n. HasCause n c.faults r in subst P h.cause.kept k.cause;
}

-- the first text failed
pub writes_stop : {T E U F : Type 0} {a b : Seen} {e : E} {f : F} {s : List ℕ} (t : List ℕ) → Wrote {T = T} {E = E} a b (Err e) s → Wrote {T = U} {E = F} a b (Err f) (s ++ t)
writes_stop {T = T} {E = E} {U = U} {F = F} {a = a} {b = b} {e = e} {f = f} {s = s} t h = record {
  whole = tt;
  part = (h.part.0, omega (arith, length-append s t, h.part.1), rw (take-append-le h.part.0 s t h.part.1) h.part.2);
  left = h.left;
  place = h.place;
  fits = rw (length-append s t) (room_stop T E U F e f a.room b.room (length s) (length t) h.fits);
  sure = h.sure;
  cause = record { later = h.cause.later; failed = h.cause.failed; kept = tt };
}

pub writes_failed : {T E U F : Type 0} {a b : Seen} {e : E} {s : List ℕ} (r : Result U F) (t : List ℕ) → IsErr r → Wrote {T = T} {E = E} a b (Err e) s → Wrote {T = U} {E = F} a b r (s ++ t)
writes_failed (Ok x) t h k = absurd (false≢true h)
writes_failed (Err f) t h k = writes_stop t k

-- the same text in another form
pub writes_as : {T E : Type 0} {a b : Seen} {r : Result T E} {s t : List ℕ} → s ≡ t → Wrote {T = T} {E = E} a b r s → Wrote {T = T} {E = E} a b r t
writes_as {T = T} {E = E} {a = a} {b = b} {r = r} e h = let P : List ℕ → Type 0 = λ x. Wrote {T = T} {E = E} a b r x in subst P e h

ok_room : (T E U F : Type 0) (x : T) (y : U) (a b : Option ℕ) (n : ℕ) → FitsRoom {T = T} {E = E} a b (Ok x) n → FitsRoom {T = U} {E = F} a b (Ok y) n
ok_room T E U F x y None b n h = tt
ok_room T E U F x y (Some room) b n h = λ fits. (refl, (h fits).1)

-- what was written all is written all, whatever the answer holds besides
pub writes_ok : {T E U F : Type 0} {a b : Seen} {x : T} {y : U} {s : List ℕ} → Wrote {T = T} {E = E} a b (Ok x) s → Wrote {T = U} {E = F} a b (Ok y) s
writes_ok {T = T} {E = E} {U = U} {F = F} {a = a} {b = b} {x = x} {y = y} {s = s} h = record {
  whole = h.whole;
  part = h.part;
  left = h.left;
  place = h.place;
  fits = ok_room T E U F x y a.room b.room (length s) h.fits;
  sure = h.sure;
  cause = record { later = h.cause.later; failed = tt; kept = h.cause.kept };
}
