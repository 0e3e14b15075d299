-- Calls that read, one behind another.
use Rattle.std.proofs.Common.{◌≡◌, ℕ, ◌+◌, ◌-◌, ◌≤◌, List, [], ◌++◌, length, take, drop, refl, sym, ap, ◌∙◌, arith, inl, inr}
use Rattle.std.specs.Prelude.{Option, Some, None, Result, Ok, Err, OnOk, IfErr, IfOk, ◌<◌, ◌⊎◌}
use Rattle.std.proofs.lemmas.List.{append_assoc, length-append, take-append-drop, length-take, length-drop}
use Rattle.prof_io.specs.Outside.{Seen}
use Rattle.prof_token.specs.Ahead.{Ahead, IsSame, Passes}
use Rattle.prof_token.specs.Moves.{Moves, Reads, Blames, fault_of}
use Rattle.prof_token.specs.declared.fault.JsonFault.{JsonFault}
use Rattle.prof_token.specs.declared.fault.JsonFault.TheVariants.{NotJson, TooDeep, TooLong, ReadFault, NoMemory}

pub reads_same : (a b : Ahead) (l m : Option (List ℕ)) → IsSame a l b m → Reads a.bytes a.place l b.bytes b.place m
reads_same a b None m s = tt
reads_same a b (Some l) None s = s.bytes
reads_same a b (Some l) (Some m) s = let e = s.place in record { bytes = []; split = s.bytes; count = omega arith }

pub reads_trans : (x y z : List ℕ) (p q r : ℕ) (l m n : Option (List ℕ)) → Reads x p l y q m → Reads y q m z r n → Reads x p l z r n
reads_trans x y z p q r None m n h k = tt
reads_trans x y z p q r (Some l) None n h k = absurd h
reads_trans x y z p q r (Some l) (Some m) None h k = absurd k
reads_trans x y z p q r (Some l) (Some m) (Some n) h k = record {
  bytes = h.bytes ++ k.bytes;
  split = h.split ∙ ap (λ u. h.bytes ++ u) k.split ∙ sym (append_assoc h.bytes k.bytes (z ++ n));
  count = let e = h.count in let f = k.count in omega (arith, length-append h.bytes k.bytes);
}

-- no byte was passed
pub moves_of : (o : Option JsonFault) (a b : Ahead) (s t : Seen) → IsSame a s.left b t.left → length b.bytes ≤ 65536 → t.written ≡ s.written → t.place ≡ s.place →
    s.faults ≤ t.faults → (s.sure → t.sure) → Blames o s.sure s.faults t.faults b.place b.limit → Moves o a s b t
moves_of o a b s t h n w p m2 f g =
    let e = h.place in
    let m = h.limit in
    record { limit = h.limit; on = omega arith; within = λ k. omega arith; near = λ _. n; reads = reads_same a b s.left t.left h; written = w; stays = p; later = m2; steady = f; blame = g }

pub moves_here : (a : Ahead) (s : Seen) → Moves None a s a s
moves_here a s = record { limit = refl; on = omega arith; within = λ k. k; near = λ h. h; reads = here s.left; written = refl; stays = refl; later = omega arith; steady = λ h. h; blame = refl }
  where
    here : (l : Option (List ℕ)) → Reads a.bytes a.place l a.bytes a.place l
    here None = tt
    here (Some l) = record { bytes = []; split = refl; count = omega arith }

blames_on : (o : Option JsonFault) (sure sure' : Type 0) (k m n place limit : ℕ) → (sure → sure') → m ≡ k → Blames o sure' m n place limit → Blames o sure k n place limit
blames_on None sure sure' k m n place limit f e h = h ∙ e
blames_on (Some (NotJson at)) sure sure' k m n place limit f e h = (h.0 ∙ e, h.1)
blames_on (Some (TooDeep at)) sure sure' k m n place limit f e h = (h.0 ∙ e, h.1)
blames_on (Some TooLong) sure sure' k m n place limit f e h = (h.0 ∙ e, h.1)
blames_on (Some ReadFault) sure sure' k m n place limit f e h = (let r = h.0 in omega arith, λ s. h.1 (f s))
blames_on (Some NoMemory) sure sure' k m n place limit f e h = h ∙ e

pub moves_trans : {o : Option JsonFault} {a b c : Ahead} {s t u : Seen} → Moves None a s b t → Moves o b t c u → Moves o a s c u
moves_trans {o} {a} {b} {c} {s} {t} {u} h k =
    let p = h.on in
    let q = k.on in
    record {
      limit = k.limit ∙ h.limit;
      on = omega arith;
      within = λ n. k.within (h.within n);
      near = λ n. k.near (h.near n);
      reads = reads_trans a.bytes b.bytes c.bytes a.place b.place c.place s.left t.left u.left h.reads k.reads;
      written = k.written ∙ h.written;
      stays = k.stays ∙ h.stays;
      later = let u = h.later in let v = k.later in omega arith;
      steady = λ s. k.steady (h.steady s);
      blame = blames_on o s.sure t.sure s.faults t.faults u.faults c.place c.limit h.steady h.blame k.blame;
    }

reads_pass : (x y : List ℕ) (n p q : ℕ) (l : Option (List ℕ)) → y ≡ drop n x → q ≡ p + n → n ≤ length x → Reads x p l y q l
reads_pass x y n p q None d e h = tt
reads_pass x y n p q (Some l) d e h = record {
  bytes = take n x;
  split = ap (λ u. u ++ l) (sym (take-append-drop n x)) ∙ append_assoc (take n x) (drop n x) l ∙ ap (λ u. take n x ++ (u ++ l)) (sym d);
  count = e ∙ simp length-take (omega arith);
}

-- bytes ahead were passed
pub moves_pass : {n : ℕ} {a b c : Ahead} {s t : Seen} → Moves None a s b t → Passes n b c → Moves None a s c t
moves_pass {n} {a} {b} {c} {s} {t} h e =
    let p = e.place in
    let q = e.limit in
    let w = e.within in
    moves_trans h (record { limit = e.limit; on = omega arith; within = λ m. omega arith; near = λ m. rw e.bytes (simp length-drop (omega arith)); reads = reads_pass b.bytes c.bytes n b.place c.place t.left e.bytes e.place e.here; written = refl; stays = refl; later = omega arith; steady = λ m. m; blame = refl })

-- the fault stands where the call has come
pub moves_wrong : {f : JsonFault} {a b : Ahead} {s t : Seen} → f ≡ NotJson b.place → Moves None a s b t → Moves (Some f) a s b t
moves_wrong e h = rw e (record { limit = h.limit; on = h.on; within = h.within; near = h.near; reads = h.reads; written = h.written; stays = h.stays; later = h.later; steady = h.steady; blame = (h.blame, refl) })

pub moves_deep : {f : JsonFault} {a b : Ahead} {s t : Seen} → f ≡ TooDeep b.place → Moves None a s b t → Moves (Some f) a s b t
moves_deep e h = rw e (record { limit = h.limit; on = h.on; within = h.within; near = h.near; reads = h.reads; written = h.written; stays = h.stays; later = h.later; steady = h.steady; blame = (h.blame, refl) })

-- memory ran out there
pub moves_full : {f : JsonFault} {a b : Ahead} {s t : Seen} → f ≡ NoMemory → Moves None a s b t → Moves (Some f) a s b t
moves_full e h = rw e (record { limit = h.limit; on = h.on; within = h.within; near = h.near; reads = h.reads; written = h.written; stays = h.stays; later = h.later; steady = h.steady; blame = h.blame })

-- ---- places

-- less is left below the limit
pub smaller : (a b c : Ahead) (n : ℕ) → a.place ≤ b.place → b.limit ≡ a.limit → 0 < n → Passes n b c → c.limit - c.place < a.limit - a.place
smaller a b c n on same some e = let p = e.place in let q = e.limit in let w = e.within in omega arith

pub further : (a b c d : Ahead) (n : ℕ) → a.place ≤ b.place → 0 < n → Passes n b c → c.place ≤ d.place → a.place < d.place
further a b c d n h some e k = let p = e.place in omega arith

pub smaller_behind : (a b c : Ahead) → a.place ≤ b.place → b.limit ≡ a.limit → b.place < b.limit → b.place < c.place → c.limit ≡ b.limit → c.limit - c.place < a.limit - a.place
smaller_behind a b c on same room p q = omega arith

-- ---- answers that are handed on

pub on_ok : {T P : Type 0} (r : Result T JsonFault) → P → OnOk r P
on_ok (Ok x) p = p
on_ok (Err fault) p = tt

pub on_ok_map : {T P Q : Type 0} (r : Result T JsonFault) → (P → Q) → OnOk r P → OnOk r Q
on_ok_map (Ok x) f p = f p
on_ok_map (Err fault) f p = tt

pub if_ok_map : {T : Type 0} {P Q : T → Type 0} (r : Result T JsonFault) → ((x : T) → P x → Q x) → IfOk r P → IfOk r Q
if_ok_map (Ok x) f p = f x p
if_ok_map (Err fault) f p = tt

pub if_ok_all : {T : Type 0} {Q : T → Type 0} (r : Result T JsonFault) → ((x : T) → Q x) → IfOk r Q
if_ok_all (Ok x) f = f x
if_ok_all (Err fault) f = tt

-- the answer of a text that grows
pub moves_push : {T : Type 0} {a b : Ahead} {s t : Seen} (r : Result T JsonFault) → IfErr r (λ f. f ≡ NoMemory) → Moves None a s b t → Moves (fault_of r) a s b t
moves_push (Ok v) e h = h
moves_push (Err f) e h = moves_full e h

-- the answer of a run of bytes that stands at its place
pub moves_plain : {a b : Ahead} {s : Seen} {T : Type 0} (r : Result T JsonFault) → OnOk r ((n : ℕ) × (0 < n) × Passes n a b) →
    IfErr r (λ f. (b ≡ a) × ((f ≡ NoMemory) ⊎ (f ≡ NotJson a.place))) → Moves (fault_of r) a s b s
moves_plain {a} {b} {s} (Ok v) h e = moves_pass (moves_here a s) h.2
moves_plain {a} {b} {s} (Err f) h e = rw e.0 (stays e.1)
  where
    stays : ((f ≡ NoMemory) ⊎ (f ≡ NotJson a.place)) → Moves (Some f) a s a s
    stays (inl p) = moves_full p (moves_here a s)
    stays (inr p) = moves_wrong p (moves_here a s)

-- a bracket that wasn't opened
pub moves_unopened : {a b : Ahead} {s : Seen} {f : JsonFault} → (b ≡ a) × ((f ≡ NoMemory) ⊎ (f ≡ TooDeep a.place)) → Moves (Some f) a s b s
moves_unopened {a} {b} {s} {f} e = rw e.0 (stays e.1)
  where
    stays : ((f ≡ NoMemory) ⊎ (f ≡ TooDeep a.place)) → Moves (Some f) a s a s
    stays (inl p) = moves_full p (moves_here a s)
    stays (inr p) = moves_deep p (moves_here a s)
