-- What was written since some moment, while a hall was read too.
use Rattle.std.proofs.Common.{◌≡◌, ℕ, List, [], ◌++◌, length, Ok, Err, refl, sym, ◌∙◌, subst, arith}
use Rattle.std.specs.Io.KnownBytes.{Appends}
use Rattle.std.specs.Prelude.{⊤}
use Rattle.prof_io.specs.Bytes.{AppendsPart, FitsRoom}
use Rattle.prof_io.specs.Outside.{Seen}
use Rattle.prof_io.specs.Sinks.{Wrote}
use Rattle.prof_writer.proofs.Outputs.{writes_none, writes_ok, writes_then}
use Rattle.prof_wire.proofs.Written.{writes_err}
use Rattle.prof_serve.specs.Serving.{since}

-- a hall was read, which leaves all but the bytes that are left
pub record Reads (old new : Seen) : Type 0 where
  pub written : new.written ≡ old.written
  pub place : new.place ≡ old.place
  pub room : new.room ≡ old.room
  pub faults : new.faults ≡ old.faults
  pub sure : old.sure → new.sure

-- what was written all
abbrev pub Told : Seen → Seen → List ℕ → Type 0
Told a b text = Wrote {T = ⊤} {E = ⊤} (since a b) b (Ok tt) text

-- what was written in part
abbrev pub Stopped : Seen → Seen → List ℕ → Type 0
Stopped a b text = Wrote {T = ⊤} {E = ⊤} (since a b) b (Err tt) text

pub told_none : (a : Seen) → Told a a []
told_none a = writes_none a

pub told_read : (a b o : Seen) (text : List ℕ) → Told a b text → Reads b o → Told a o text
told_read a b o text w r = record {
  whole = subst (λ x. Appends a.written x text) (sym r.written) w.whole;
  part = subst (λ x. AppendsPart a.written x text) (sym r.written) w.part;
  left = refl;
  place = r.place ∙ w.place;
  fits = subst (λ x. FitsRoom {T = ⊤} {E = ⊤} a.room x (Ok tt) (length text)) (sym r.room) w.fits;
  sure = λ s. r.sure (w.sure s);
  cause = record { later = omega (arith, w.cause.later, r.faults); failed = tt; kept = r.faults ∙ w.cause.kept };
}

pub told_then : {T E : Type 0} (a o p : Seen) (x : T) (s t : List ℕ) → Told a o s → Wrote {T = T} {E = E} o p (Ok x) t → Told a p (s ++ t)
told_then {T = T} {E = E} a o p x s t w k =
    let all : Wrote {T = ⊤} {E = ⊤} (since a o) p (Ok tt) (s ++ t) = writes_ok (writes_then w k) in
    subst (λ l. Wrote {T = ⊤} {E = ⊤} (record a { left = l }) p (Ok tt) (s ++ t)) (sym k.left) all

pub told_stop : {T E : Type 0} (a o p : Seen) (e : E) (s t : List ℕ) → Told a o s → Wrote {T = T} {E = E} o p (Err e) t → Stopped a p (s ++ t)
told_stop {T = T} {E = E} a o p e s t w k =
    let all : Wrote {T = ⊤} {E = ⊤} (since a o) p (Err tt) (s ++ t) = writes_err (writes_then w k) in
    subst (λ l. Wrote {T = ⊤} {E = ⊤} (record a { left = l }) p (Err tt) (s ++ t)) (sym k.left) all

pub told_as : (a b : Seen) (s t : List ℕ) → s ≡ t → Told a b s → Told a b t
told_as a b s t e w = subst (λ x. Told a b x) e w

pub stopped_as : (a b : Seen) (s t : List ℕ) → s ≡ t → Stopped a b s → Stopped a b t
stopped_as a b s t e w = subst (λ x. Stopped a b x) e w
