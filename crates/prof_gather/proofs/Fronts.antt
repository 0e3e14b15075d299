-- A hasher that has taken what stands before the bytes that are left, over a read.
use Rattle.std.proofs.Common.{◌≡◌, ℕ, List, ◌++◌, ap, sym, ◌∙◌, append_assoc, append-nil}
use Rattle.std.specs.Prelude.{Some, None, IfSome}
use Rattle.std.proofs.Math.Logic.{∥∥₁_elim}
use mathlib.Core.List.{is_set}
use Rattle.std.proofs.Math.Nat.{ℕ_set}
use Rattle.sha2.specs.Sha256.{sha256}
use Rattle.std.specs.declared.option.Option.{Option}
use Rattle.std.specs.Io.KnownBytes.{Keeps, Consumes, IsAtEnd}
use Rattle.sha2.specs.Hashers.{Holds256}
use Rattle.sha2.specs.declared.Sha256.{Sha256}
use Rattle.prof_gather.specs.Hashing.{HoldsFront, IsBefore}

stays : (text left new : Option (List ℕ)) (taken : List ℕ) → Keeps left new → IsBefore text left taken → IsBefore text new taken
stays None left new taken k b = tt
stays (Some text) None new taken k b = absurd b
stays (Some text) (Some left) None taken k b = absurd k
stays (Some text) (Some left) (Some new) taken k b = rw k b

pub front_stays : (text left new : Option (List ℕ)) (s : Sha256) → Keeps left new → HoldsFront text left s → HoldsFront text new s
front_stays text left new s k h = (h.0, h.1, stays text left new h.0 k h.2)

moves : (text left new : Option (List ℕ)) (taken bs : List ℕ) → Consumes left new bs → IsBefore text left taken → IsBefore text new (taken ++ bs)
moves None left new taken bs k b = tt
moves (Some text) None new taken bs k b = absurd b
moves (Some text) (Some left) None taken bs k b = absurd k
moves (Some text) (Some left) (Some new) taken bs k b = b ∙ (ap (λ x. taken ++ x) k ∙ sym (append_assoc taken bs new))

pub front_moves : (text left new : Option (List ℕ)) (s s' : Sha256) (bs : List ℕ) → Consumes left new bs → ((m : List ℕ) → Holds256 s m → Holds256 s' (m ++ bs)) → HoldsFront text left s → HoldsFront text new s'
front_moves text left new s s' bs k f h = (h.0 ++ bs, f h.0 h.1, moves text left new h.0 bs k h.2)

whole : (t : List ℕ) (left : Option (List ℕ)) (s : Sha256) (d : List ℕ) → IsAtEnd left → ((m : List ℕ) → Holds256 s m → d ≡ sha256 m) → HoldsFront (Some t) left s → d ≡ sha256 t
whole t None s d e f h = absurd h.2
whole t (Some left) s d e f h = f h.0 h.1 ∙ ap sha256 (sym (h.2 ∙ (ap (λ x. h.0 ++ x) e ∙ append-nil h.0)))

pub whole_hash : (text left : Option (List ℕ)) (s : Sha256) (d : List ℕ) → ∥ HoldsFront text left s ∥₁ → IsAtEnd left → ((m : List ℕ) → Holds256 s m → d ≡ sha256 m) → IfSome text (λ t. d ≡ sha256 t)
whole_hash None left s d h e f = tt
whole_hash (Some t) left s d h e f = ∥∥₁_elim h (is_set ℕ_set _ _) (whole t left s d e f)
