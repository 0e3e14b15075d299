-- A text whose writing failed, told by another error.
use Rattle.std.proofs.Common.{ℕ, List, Option, None, Some, Err, length}
use Rattle.std.proofs.lemmas.Bool.{false≢true}
use Rattle.prof_io.specs.Bytes.{FitsRoom}
use Rattle.prof_io.specs.Outside.{Seen}
use Rattle.prof_io.specs.Sinks.{Wrote}

err_room : (T E U F : Type 0) (e : E) (f : F) (a b : Option ℕ) (n : ℕ) → FitsRoom {T = T} {E = E} a b (Err e) n → FitsRoom {T = U} {E = F} a b (Err f) n
err_room T E U F e f None b n h = tt
err_room T E U F e f (Some room) b n h = λ fits. absurd (false≢true (h fits).0)

pub writes_err : {T E U F : Type 0} {a b : Seen} {e : E} {f : F} {s : List ℕ} → Wrote {T = T} {E = E} a b (Err e) s → Wrote {T = U} {E = F} a b (Err f) s
writes_err {T = T} {E = E} {U = U} {F = F} {a = a} {b = b} {e = e} {f = f} {s = s} h = record {
  whole = tt;
  part = h.part;
  left = h.left;
  place = h.place;
  fits = err_room T E U F e f a.room b.room (length s) h.fits;
  sure = h.sure;
  cause = record { later = h.cause.later; failed = h.cause.failed; kept = tt };
}
